-- What a call answers, in the papers' words: "The answer is the number alone", or what it gives. Assumes nothing: these are definitions.
use Rattle.std.specs.Prelude.{ℕ, Bool, true, false}
use Rattle.std.proofs.Math.Option.{Option, none, some}

-- turned down with a number of the papers, or a result with its values. Each answer of the code has a definition that gives its response, and the promise
-- of an entry point speaks of that
pub data Response (A : Type 0) : Type 0 where
  turned_down : ℕ → Response A
  gives : A → Response A

unfoldable pub is_turned_down : {A : Type 0} → Response A → Bool
is_turned_down (turned_down n) = true
is_turned_down (gives x) = false

-- the number of a call that is turned down
abbrev pub refusal_number : {A : Type 0} → Response A → Option ℕ
refusal_number (turned_down n) = some n
refusal_number (gives x) = none
