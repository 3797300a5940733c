-- The rounds, four at a time. Assumes nothing.
use Rattle.std.proofs.Common.{◌≡◌, ℕ, ◌+◌, ◌*◌, List, get_or, refl, arith}
use native.Mathlib.Numerals.{unary_clauses}
use Rattle.sha256.specs.declared.State.{State}
use Rattle.sha256.specs.Constants.{constants}
use Rattle.sha256.specs.Hash.{round, rounds}
use Rattle.sha256.specs.Steps.{four}

-- four rounds one after the other, with a copy k of the constants
pub one_by_one : (s x y z r : State) (w k : List ℕ) (t : ℕ) → k ≡ constants
    → x ≡ round s (get_or k t 0) (get_or w t 0)
    → y ≡ round x (get_or k (t + 1) 0) (get_or w (t + 1) 0)
    → z ≡ round y (get_or k (t + 2) 0) (get_or w (t + 2) 0)
    → r ≡ round z (get_or k (t + 3) 0) (get_or w (t + 3) 0)
    → r ≡ four s w t
unfolding four
one_by_one s x y z r w k t e a b c d = cc

four_more : (t : ℕ) (w : List ℕ) (s : State) → rounds (t + 4) w s ≡ four (rounds t w s) w t
unfolding rounds four
four_more t w s = simp unary_clauses refl

-- the turn j of the loop
pub four_turn : (s x y : State) (w : List ℕ) (j : ℕ) → x ≡ rounds (j * 4) w s → y ≡ four x w (j * 4) → y ≡ rounds ((j + 1) * 4) w s
four_turn s x y w j a b =
    let e : (j + 1) * 4 ≡ j * 4 + 4 = omega arith in
    let h : rounds (j * 4 + 4) w s ≡ four (rounds (j * 4) w s) w (j * 4) = four_more (j * 4) w s in
    rw e cc
