-- Each part is read at its place. Assumes nothing.
use Rattle.layout.specs.Fields.{flags_at, numbers_at}
use Rattle.layout.specs.Servers.{blocks_at}
use Rattle.layout.proofs.servers.blocks_at.Goals as goal

pub returns : goal.returns
unfolding blocks_at flags_at numbers_at
returns c = cc
