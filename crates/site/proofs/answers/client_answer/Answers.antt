-- Case by case. Assumes nothing.
use mathlib.Core.Path.{◌∙◌}
use Rattle.site.specs.Answers.{client_answer}
use Rattle.site.proofs.Cases.{client_case}
use Rattle.site.proofs.answers.client_answer.Goals as goal

pub returns-in-Sent : goal.returns-in-Sent
unfolding client_answer
returns-in-Sent c = client_case _ _ _ c.in-Sent.is

pub returns-in-Written : goal.returns-in-Written
unfolding client_answer
returns-in-Written c = client_case _ _ _ c.in-Written.is

pub returns-in-OutOfStamps : goal.returns-in-OutOfStamps
unfolding client_answer
returns-in-OutOfStamps c = client_case _ _ _ c.in-OutOfStamps.is

pub returns-in-Value : goal.returns-in-Value
unfolding client_answer
returns-in-Value c = client_case _ _ _ c.in-Value.is

pub returns-in-Disagreement : goal.returns-in-Disagreement
unfolding client_answer
returns-in-Disagreement c = client_case _ _ _ c.in-Disagreement.is

pub returns-in-Refused : goal.returns-in-Refused
unfolding client_answer
returns-in-Refused c = c.number_of.ensures ∙ client_case _ _ _ c.in-Refused.is
