-- The whole outcome, by the laws of AskedLaws.antt. Assumes nothing.
use Rattle.semduoli.proofs.AskedLaws.{stamp_no_record, stamp_no_room, stamp_done}
use Rattle.semduoli.proofs.asked.semduoli_server_stamp.Goals as goal
use Rattle.semduoli.proofs.asked.semduoli_server_stamp.Goals.{then-state-lt-SERVER_SIZE-via-then-state-lt-SERVER_SIZE, then-state-lt-SERVER_SIZE-via-else-state-lt-SERVER_SIZE+then-stamp-lt-STAMP_SIZE}

pub returns-then-state-lt-SERVER_SIZE : goal.returns-then-state-lt-SERVER_SIZE
returns-then-state-lt-SERVER_SIZE c = elim c.then-state-lt-SERVER_SIZE.branch [
  | then-state-lt-SERVER_SIZE-via-then-state-lt-SERVER_SIZE w ↦ stamp_no_record _ _ w.if-state-lt-SERVER_SIZE.true
  | then-state-lt-SERVER_SIZE-via-else-state-lt-SERVER_SIZE+then-stamp-lt-STAMP_SIZE w ↦
      stamp_no_room _ _ w.if-state-lt-SERVER_SIZE.false w.if-stamp-lt-STAMP_SIZE.true
]

pub returns : goal.returns
returns c = stamp_done _ _ _ _ c.if-state-lt-SERVER_SIZE.false c.if-stamp-lt-STAMP_SIZE.false c.get-x.ensures c.put.ensures.puts
