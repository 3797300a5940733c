-- Each return, by the laws of TraceLaws.antt. Assumes nothing.
use Rattle.host_facts.proofs.TraceLaws.{no_class, no_number, entry_done}
use Rattle.host_facts.proofs.traces.entry_write.Goals as goal
use Rattle.host_facts.proofs.traces.entry_write.Goals.{then-class-gt1-via-then-class-gt1, then-class-gt1-via-else-class-gt1+then-number-gt255}

pub returns-then-class-gt1 : goal.returns-then-class-gt1
returns-then-class-gt1 c = elim c.then-class-gt1.branch [
  | then-class-gt1-via-then-class-gt1 w ↦ no_class _ _ _ _ _ w.if-class-gt1.true c.nobody_answer.ensures
  | then-class-gt1-via-else-class-gt1+then-number-gt255 w ↦ no_number _ _ _ _ _ w.if-class-gt1.false w.if-number-gt255.true c.nobody_answer.ensures
]

pub returns : goal.returns
returns c = entry_done _ _ _ _ _ _ _ _ c.if-class-gt1.false c.if-number-gt255.false c.party_in-sender.ensures c.write_entry.ensures c.writing_answer.ensures
