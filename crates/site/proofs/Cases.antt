-- A client's answer by the case that the code found. Assumes nothing.
use Prim.Native.Nat.{ℕ}
use mathlib.Core.Path.{◌≡◌, sym, ap}
use Rattle.client_rules.specs.declared.Answer.{Answer}
use Rattle.client_rules.specs.Answers.{answer_response}
use Rattle.site.specs.Answers.{client_answer}

pub client_case : (n : ℕ) (a b : Answer) → a ≡ b → client_answer n (answer_response b) ≡ client_answer n (answer_response a)
client_case n a b e = sym (ap (λ z. client_answer n (answer_response z)) e)
