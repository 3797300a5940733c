-- The whole outcome, by the laws of AskedLaws.antt. Assumes nothing.
use Rattle.semduoli.proofs.AskedLaws.{none_below, none_above, worked_short, worked_done}
use Rattle.semduoli.proofs.asked.semduoli_server_open.Goals as goal
use Rattle.semduoli.proofs.asked.semduoli_server_open.Goals.{then-client-lt1-via-then-client-lt1, then-client-lt1-via-else-client-lt1+then-client-gt-CLIENTS}

pub returns-then-client-lt1 : goal.returns-then-client-lt1
returns-then-client-lt1 c = elim c.then-client-lt1.branch [
  | then-client-lt1-via-then-client-lt1 w ↦ none_below _ _ w.if-client-lt1.true
  | then-client-lt1-via-else-client-lt1+then-client-gt-CLIENTS w ↦ none_above _ _ w.if-client-lt1.false w.if-client-gt-CLIENTS.true
]

pub returns-then-state-lt-SERVER_SIZE : goal.returns-then-state-lt-SERVER_SIZE
returns-then-state-lt-SERVER_SIZE c = worked_short _ _ c.if-client-lt1.false c.if-client-gt-CLIENTS.false c.if-state-lt-SERVER_SIZE.true

pub returns : goal.returns
returns c = worked_done _ _ c.if-client-lt1.false c.if-client-gt-CLIENTS.false _ c.if-state-lt-SERVER_SIZE.false c.scope_at-x.ensures
