-- The whole outcome of a call that lends one area to be written: the answer, and every byte of the area. These are definitions.
use Rattle.std.specs.Prelude.{ℕ, List}

pub record Wrote : Type 0 where
  pub answer : ℕ
  pub out : List ℕ

abbrev pub wrote : ℕ → List ℕ → Wrote
wrote x out = record { answer = x; out = out }
