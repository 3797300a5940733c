-- Case by case. Assumes nothing.
use mathlib.Core.Path.{sym, ap, ◌∙◌}
use Rattle.entries.specs.Writing.{writing_response}
use Rattle.host_facts.specs.Traces.{writing_answer}
use Rattle.host_facts.proofs.traces.writing_answer.Goals as goal

pub returns-in-Ok : goal.returns-in-Ok
unfolding writing_answer
returns-in-Ok c = sym (ap (λ z. writing_answer (writing_response z)) c.in-Ok.is)

pub returns-in-Err : goal.returns-in-Err
unfolding writing_answer
returns-in-Err c = c.number_of.ensures ∙ sym (ap (λ z. writing_answer (writing_response z)) c.in-Err.is)
