-- The whole outcome, by the laws of Handed.antt and Nobody.antt. Assumes nothing.
use Rattle.semduoli.proofs.Handed.{client_short, client_stamp_short, client_done_lem}
use Rattle.semduoli.proofs.Nobody.{client_none}
use Rattle.semduoli.proofs.clients.semduoli_client_deliver.Goals as goal

pub returns-then-me-gt-CLIENTS : goal.returns-then-me-gt-CLIENTS
returns-then-me-gt-CLIENTS c = client_none _ _ c.if-me-gt-CLIENTS.true _ _ _ _ _ _ _ _ _

pub returns-then-state-lt-CLIENT_SIZE : goal.returns-then-state-lt-CLIENT_SIZE
returns-then-state-lt-CLIENT_SIZE c = client_short _ _ _ _ _ _ _ _ _ _ _ _ _ c.if-state-lt-CLIENT_SIZE.true c.test_answer.ensures c.frame_short-short.ensures

pub returns-then-stamp-lt-STAMP_SIZE : goal.returns-then-stamp-lt-STAMP_SIZE
returns-then-stamp-lt-STAMP_SIZE c = client_stamp_short _ _ _ _ _ _ _ _ _ _ _ c.if-state-lt-CLIENT_SIZE.false _ _ _ c.if-stamp-lt-STAMP_SIZE.true c.client_at-s.ensures c.test_answer-then-stamp-lt-STAMP_SIZE.ensures c.stamp_short-short.ensures

pub returns : goal.returns
returns c = client_done_lem _ _ _ _ _ _ _ _ _ _ _ c.if-state-lt-CLIENT_SIZE.false _ _ _ _ _ _ _ _ _ _ _ c.if-stamp-lt-STAMP_SIZE.false c.sender_of-from.ensures c.client_at-s.ensures c.lend-done.ensures c.put_read.ensures c.keep.ensures
