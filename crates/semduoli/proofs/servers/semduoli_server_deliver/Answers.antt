-- The outcome of `deliver`, its answer as a number. Assumes nothing.
use Rattle.semduoli.proofs.ServerCalls.{server_done}
use Rattle.semduoli.proofs.servers.semduoli_server_deliver.Goals as goal

pub returns : goal.returns
returns c = server_done _ _ _ _ _ _ _ _ _ _ _ _ _ _ _ _ c.sender_of-from.ensures c.deliver.ensures c.server_answer.ensures
