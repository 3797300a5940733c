-- They are an array. Assumes nothing.
use Rattle.layout.specs.Servers.{readers_at}
use Rattle.layout.proofs.servers.readers_at.Goals as goal

pub returns : goal.returns
unfolding readers_at
returns c = c.get_all.ensures
