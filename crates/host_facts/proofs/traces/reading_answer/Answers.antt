-- Case by case. Assumes nothing.
use mathlib.Core.Path.{sym, ap, ◌∙◌}
use Rattle.entries.specs.Entries.{reading_response}
use Rattle.host_facts.specs.Traces.{reading_answer}
use Rattle.host_facts.proofs.TraceLaws.{closing_done}
use Rattle.host_facts.proofs.traces.reading_answer.Goals as goal

pub returns-in-Ok : goal.returns-in-Ok
unfolding reading_answer
returns-in-Ok c = c.found_answer.ensures ∙ sym (ap (λ z. reading_answer (reading_response z)) c.in-Ok.is)

pub returns-in-Err : goal.returns-in-Err
returns-in-Err c = closing_done _ _ c.in-Err.is _ c.closing_number.ensures
