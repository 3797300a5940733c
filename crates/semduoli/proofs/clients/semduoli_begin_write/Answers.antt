-- The whole outcome, by the laws of Laws.antt and Nobody.antt. Assumes nothing.
use Rattle.semduoli.proofs.Laws.{write_short, write_done}
use Rattle.semduoli.proofs.Nobody.{write_none}
use Rattle.semduoli.proofs.clients.semduoli_begin_write.Goals as goal

pub returns-then-me-gt-CLIENTS : goal.returns-then-me-gt-CLIENTS
returns-then-me-gt-CLIENTS c = write_none _ _ c.if-me-gt-CLIENTS.true _ _ _ _

pub returns-then-state-lt-CLIENT_SIZE : goal.returns-then-state-lt-CLIENT_SIZE
returns-then-state-lt-CLIENT_SIZE c = write_short _ _ _ _ _ _ _ c.if-state-lt-CLIENT_SIZE.true c.test_answer.ensures _ c.value_short-short.ensures

pub returns : goal.returns
returns c = write_done _ _ _ _ _ _ _ _ _ _ _ _ c.if-state-lt-CLIENT_SIZE.false c.client_at-s.ensures c.keep.ensures _ c.begin_write-done.ensures
