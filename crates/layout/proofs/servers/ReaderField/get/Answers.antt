-- Each part is read at its place. Assumes nothing.
use Rattle.layout.specs.Servers.{reader_at}
use Rattle.layout.proofs.servers.ReaderField.get.Goals as goal

pub returns : goal.returns
unfolding reader_at
returns c = cc
