-- Case by case. Assumes nothing.
use mathlib.Core.Path.{sym, ap, ◌∙◌}
use Rattle.site.specs.Answers.{test_answer}
use Rattle.site.proofs.answers.test_answer.Goals as goal

pub returns-in-Ok : goal.returns-in-Ok
unfolding test_answer
returns-in-Ok c = sym (ap test_answer c.in-Ok.is)

pub returns-in-Err : goal.returns-in-Err
unfolding test_answer
returns-in-Err c = c.number_of.ensures ∙ sym (ap test_answer c.in-Err.is)
