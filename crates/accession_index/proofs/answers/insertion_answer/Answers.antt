-- Case by case. Assumes nothing.
use mathlib.Core.Path.{sym, ap, ◌∙◌}
use Prim.Native.Nat.{◌*◌}
use Rattle.accession_index.specs.Index.{insertion_response}
use Rattle.accession_index.specs.Answers.{insertion_answer}
use Rattle.accession_index.proofs.answers.insertion_answer.Goals as goal

pub returns-in-Ok : goal.returns-in-Ok
unfolding insertion_answer
returns-in-Ok c = ap (λ p. 65536 * p) c.from.ensures ∙ sym (ap (λ z. insertion_answer (insertion_response z)) c.in-Ok.is)

pub returns-in-Err : goal.returns-in-Err
unfolding insertion_answer
returns-in-Err c = c.number_of.ensures ∙ sym (ap (λ z. insertion_answer (insertion_response z)) c.in-Err.is)
