-- Case by case. Assumes nothing.
use mathlib.Core.Path.{sym, ap, ◌∙◌}
use Rattle.blocks.specs.Calls.{code_response}
use Rattle.blocks.specs.Answers.{code_answer}
use Rattle.blocks.proofs.answers.code_answer.Goals as goal

pub returns-in-Ok : goal.returns-in-Ok
unfolding code_answer
returns-in-Ok c = sym (ap (λ z. code_answer (code_response z)) c.in-Ok.is)

pub returns-in-Err : goal.returns-in-Err
unfolding code_answer
returns-in-Err c = c.fault_number.ensures ∙ sym (ap (λ z. code_answer (code_response z)) c.in-Err.is)
