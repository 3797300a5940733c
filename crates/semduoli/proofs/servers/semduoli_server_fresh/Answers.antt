-- The outcome of `fresh`, its answer as a number. Assumes nothing.
use Rattle.semduoli.proofs.ServerCalls.{make_done}
use Rattle.semduoli.proofs.servers.semduoli_server_fresh.Goals as goal

pub returns : goal.returns
returns c = make_done _ _ _ _ _ _ _ _ _ _ _ c.fresh.ensures c.server_answer.ensures
