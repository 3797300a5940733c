-- A rule over a whole table: a Boolean test that the checker computes once, at every place and entry,
-- and the law that carries it to one entry. Assumes nothing.
use mathlib.Core.Path.{◌≡◌}
use mathlib.Core.Bool.{Bool, true, ◌&&◌}
use mathlib.Core.List.{List, [], ◌∷◌}
use Prim.Native.Nat.{ℕ, zero, suc, ◌+◌, ◌<◌}
use native.Mathlib.Nat.{not-suc-le-zero, le_of_suc-le-suc, add-zero, zero-add, add-suc, suc-add}
use lib.ListN.{length, get_or}
use Rattle.area.proofs.Tests.{and_left, and_right}

-- the test holds at each place, counted from i, with the entry there
abbrev pub holds : (ℕ → ℕ → Bool) → ℕ → List ℕ → Bool
holds rule i [] = true
holds rule i (x ∷ xs) = rule i x && holds rule (suc i) xs

carried : (rule : ℕ → ℕ → Bool) (i : ℕ) (l : List ℕ) → holds rule i l ≡ true → (j : ℕ) → j < length l → rule (i + j) (get_or l j 0) ≡ true
carried rule i [] t j h = absurd (not-suc-le-zero h)
carried rule i (x ∷ l) t zero h = rw add-zero (and_left (rule i x) (holds rule (suc i) l) t)
carried rule i (x ∷ l) t (suc j) h =
    rw (add-suc, ← suc-add) (carried rule (suc i) l (and_right (rule i x) (holds rule (suc i) l) t) j (le_of_suc-le-suc h))

-- the rule at entry j
pub entry : (rule : ℕ → ℕ → Bool) (l : List ℕ) → holds rule 0 l ≡ true → (j : ℕ) → j < length l → rule j (get_or l j 0) ≡ true
entry rule l t j h = rw zero-add at (carried rule 0 l t j h)

-- the test holds at each of the n numbers from i on
abbrev pub below : (ℕ → Bool) → ℕ → ℕ → Bool
below rule i zero = true
below rule i (suc n) = rule i && below rule (suc i) n

carried_below : (rule : ℕ → Bool) (i n : ℕ) → below rule i n ≡ true → (j : ℕ) → j < n → rule (i + j) ≡ true
carried_below rule i zero t j h = absurd (not-suc-le-zero h)
carried_below rule i (suc n) t zero h = rw add-zero (and_left (rule i) (below rule (suc i) n) t)
carried_below rule i (suc n) t (suc j) h =
    rw (add-suc, ← suc-add) (carried_below rule (suc i) n (and_right (rule i) (below rule (suc i) n) t) j (le_of_suc-le-suc h))

-- the rule at the number j
pub number : (rule : ℕ → Bool) (n : ℕ) → below rule 0 n ≡ true → (j : ℕ) → j < n → rule j ≡ true
number rule n t j h = rw zero-add at (carried_below rule 0 n t j h)
