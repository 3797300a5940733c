-- Case by case. Assumes nothing.
use mathlib.Core.Path.{sym, ap, ◌∙◌}
use Rattle.frame.specs.Frames.{opening_response}
use Rattle.host_facts.specs.Frames.{header_answer}
use Rattle.host_facts.proofs.frames.header_answer.Goals as goal

pub returns-in-Ok : goal.returns-in-Ok
unfolding header_answer
returns-in-Ok c = sym (ap (λ z. header_answer (opening_response z)) c.in-Ok.is)

pub returns-in-Err : goal.returns-in-Err
unfolding header_answer
returns-in-Err c = c.number_of.ensures ∙ sym (ap (λ z. header_answer (opening_response z)) c.in-Err.is)
