-- The parts are stored one after the other. Assumes nothing.
use Rattle.layout.specs.Fields.{numbers_bytes}
use Rattle.layout.specs.Servers.{slots_bytes, readers_bytes}
use Rattle.layout.proofs.Puts.{server_put}
use Rattle.layout.proofs.servers.put_server.Goals as goal

pub returns : goal.returns
unfolding slots_bytes readers_bytes numbers_bytes
returns c = server_put _ _ _ _ _ _ c.args.s c.put.ensures.puts c.put_all.ensures c.put_all-2.ensures c.put_all-3.ensures
