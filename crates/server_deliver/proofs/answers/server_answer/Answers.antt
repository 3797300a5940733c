-- Case by case. Assumes nothing.
use mathlib.Core.Path.{sym, ap, ◌∙◌}
use Rattle.server_rules.specs.Delivery.{reply_response}
use Rattle.server_deliver.specs.Answers.{server_answer}
use Rattle.server_deliver.proofs.answers.server_answer.Goals as goal

pub returns-in-Ok : goal.returns-in-Ok
unfolding server_answer
returns-in-Ok c = sym (ap (λ z. server_answer (reply_response z)) c.in-Ok.is)

pub returns-in-Err : goal.returns-in-Err
unfolding server_answer
returns-in-Err c = c.number_of.ensures ∙ sym (ap (λ z. server_answer (reply_response z)) c.in-Err.is)
