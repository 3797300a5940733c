-- Each part is read at its place. Assumes nothing.
use Rattle.layout.specs.Clients.{kept_at, stamps_at}
use Rattle.layout.proofs.clients.RowField.get.Goals as goal

pub returns : goal.returns
unfolding kept_at stamps_at
returns c = cc
