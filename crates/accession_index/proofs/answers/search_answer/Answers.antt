-- Case by case. Assumes nothing.
use mathlib.Core.Path.{sym, ap, ◌∙◌}
use Prim.Native.Nat.{◌*◌}
use Rattle.accession_index.specs.Index.{found_place}
use Rattle.accession_index.specs.Answers.{search_answer}
use Rattle.accession_index.proofs.answers.search_answer.Goals as goal

pub returns-in-Some : goal.returns-in-Some
unfolding search_answer
returns-in-Some c = ap (λ p. 65536 * p) c.from.ensures ∙ sym (ap (λ z. search_answer (found_place z)) c.in-Some.is)

pub returns-in-None : goal.returns-in-None
unfolding search_answer
returns-in-None c = sym (ap (λ z. search_answer (found_place z)) c.in-None.is)
