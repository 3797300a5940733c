-- The whole outcome, by the laws of Laws.antt. Assumes nothing.
use Rattle.area.specs.Area.{pick}
use Rattle.area.proofs.Tests.{tests}
use Rattle.semduoli.proofs.Laws.{fresh_done}
use Rattle.semduoli.specs.Calls.{fresh_call}
use Rattle.semduoli.proofs.clients.semduoli_client_fresh.Goals as goal

pub returns-then-state-lt-CLIENT_SIZE : goal.returns-then-state-lt-CLIENT_SIZE
unfolding fresh_call pick
returns-then-state-lt-CLIENT_SIZE c = search tests

pub returns : goal.returns
returns c = fresh_done _ _ _ c.if-state-lt-CLIENT_SIZE.false c.fresh_client-s.ensures c.put_client.ensures
