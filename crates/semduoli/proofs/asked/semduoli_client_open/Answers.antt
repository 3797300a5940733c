-- The whole outcome, by the laws of AskedLaws.antt. Assumes nothing.
use Rattle.semduoli.proofs.AskedLaws.{open_short, open_done}
use Rattle.semduoli.proofs.asked.semduoli_client_open.Goals as goal

pub returns-then-state-lt-CLIENT_SIZE : goal.returns-then-state-lt-CLIENT_SIZE
returns-then-state-lt-CLIENT_SIZE c = open_short _ c.if-state-lt-CLIENT_SIZE.true

pub returns : goal.returns
returns c = open_done _ _ _ c.if-state-lt-CLIENT_SIZE.false c.client_at-s.ensures c.open_answer.ensures
