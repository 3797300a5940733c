-- Each part is read at its place. Assumes nothing.
use Rattle.layout.specs.Clients.{client_at, rows_at}
use Rattle.layout.specs.Fields.{flags_at, numbers_at}
use Rattle.layout.proofs.clients.client_at.Goals as goal

pub returns : goal.returns
unfolding client_at flags_at numbers_at rows_at
returns c = cc
