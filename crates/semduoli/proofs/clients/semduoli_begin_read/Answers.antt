-- The whole outcome, by the laws of Laws.antt and Nobody.antt. Assumes nothing.
use Rattle.semduoli.proofs.Laws.{read_short_lem, read_done}
use Rattle.semduoli.proofs.Nobody.{read_none}
use Rattle.semduoli.proofs.clients.semduoli_begin_read.Goals as goal

pub returns-then-me-gt-CLIENTS : goal.returns-then-me-gt-CLIENTS
returns-then-me-gt-CLIENTS c = read_none _ _ c.if-me-gt-CLIENTS.true _ _ _

pub returns-then-state-lt-CLIENT_SIZE : goal.returns-then-state-lt-CLIENT_SIZE
returns-then-state-lt-CLIENT_SIZE c = read_short_lem _ _ _ _ _ _ _ c.if-state-lt-CLIENT_SIZE.true c.test_answer.ensures c.read_short-short.ensures

pub returns : goal.returns
returns c = read_done _ _ _ _ _ _ _ _ _ _ _ _ c.if-state-lt-CLIENT_SIZE.false c.client_at-s.ensures c.keep.ensures c.begin_read-done.ensures
