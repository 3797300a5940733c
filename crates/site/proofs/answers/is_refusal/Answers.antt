-- Case by case. Assumes nothing.
use mathlib.Core.Path.{sym, ap}
use Rattle.area.specs.Responses.{is_turned_down}
use Rattle.client_rules.specs.Answers.{answer_response}
use Rattle.site.proofs.answers.is_refusal.Goals as goal

pub returns-in-Sent : goal.returns-in-Sent
unfolding is_turned_down
returns-in-Sent c = sym (ap (λ z. is_turned_down (answer_response z)) c.in-Sent.is)

pub returns-in-Written : goal.returns-in-Written
unfolding is_turned_down
returns-in-Written c = sym (ap (λ z. is_turned_down (answer_response z)) c.in-Written.is)

pub returns-in-OutOfStamps : goal.returns-in-OutOfStamps
unfolding is_turned_down
returns-in-OutOfStamps c = sym (ap (λ z. is_turned_down (answer_response z)) c.in-OutOfStamps.is)

pub returns-in-Value : goal.returns-in-Value
unfolding is_turned_down
returns-in-Value c = sym (ap (λ z. is_turned_down (answer_response z)) c.in-Value.is)

pub returns-in-Disagreement : goal.returns-in-Disagreement
unfolding is_turned_down
returns-in-Disagreement c = sym (ap (λ z. is_turned_down (answer_response z)) c.in-Disagreement.is)

pub returns-in-Refused : goal.returns-in-Refused
unfolding is_turned_down
returns-in-Refused c = sym (ap (λ z. is_turned_down (answer_response z)) c.in-Refused.is)
