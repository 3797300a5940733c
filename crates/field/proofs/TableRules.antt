-- The generator rule of the two tables, as a computation over a whole table, and the laws that carry it to each entry. Assumes nothing.
use mathlib.Core.Path.{◌≡◌, refl, sym, ap, ◌∙◌}
use mathlib.Core.Bool.{Bool, true, ◌&&◌}
use mathlib.Core.List.{List, [], ◌∷◌}
use Prim.Native.Nat.{ℕ, zero, suc, ◌+◌, ◌<◌}
use native.Mathlib.Nat.{not-suc-le-zero, le_of_suc-le-suc, add-zero, add-suc, suc-add, zero-add}
use native.Mathlib.Omega.{arith}
use lib.Dec.{eqb, ltb}
use lib.ListN.{length, get_or}
use borrow.Author.Tests.{eqb-true, ltb-true}
use Rattle.area.proofs.Rules.{holds, entry}
use Rattle.area.proofs.Tests.{and_left, and_right}
use Rattle.field.specs.Field.{◌⊗◌, power_of, Powers, Logs}

-- x, 03 x, 03 03 x, ..: n of them, each 03 times the one before
unfoldable pub generated : ℕ → ℕ → List ℕ
generated x zero = []
generated x (suc n) = x ∷ generated (3 ⊗ x) n

generated_at : (i n k : ℕ) → k < n → get_or (generated (power_of 3 i) n) k 0 ≡ power_of 3 (i + k)
unfolding generated power_of
generated_at i zero k h = absurd (not-suc-le-zero h)
generated_at i (suc n) zero h = rw add-zero
generated_at i (suc n) (suc k) h = generated_at (suc i) n k (le_of_suc-le-suc h) ∙ ap (power_of 3) (suc-add i k ∙ sym (add-suc i k))

-- a table that is generated from 1 holds the powers
pub powers_rule : (l : List ℕ) → l ≡ generated 1 255 → Powers l
unfolding Powers power_of
powers_rule l e k h = ap (λ m. get_or m k 0) e ∙ generated_at 0 255 k h ∙ ap (power_of 3) (zero-add k)

-- at e, the entry for a, the powers have a
unfoldable pub log_rule : List ℕ → ℕ → ℕ → Bool
log_rule ps zero e = eqb e 0
log_rule ps (suc a) e = ltb e 255 && eqb (get_or ps e 0) (suc a)

pub logs_rule : (l : List ℕ) → length l ≡ 256 → holds (log_rule (generated 1 255)) 0 l ≡ true → Logs l
unfolding Logs log_rule Powers
logs_rule l n t =
    let ps : List ℕ = generated 1 255 in
    let at : (a : ℕ) → a < 256 → log_rule ps a (get_or l a 0) ≡ true = λ a h. entry (log_rule ps) l t a (omega arith) in
    (eqb-true (get_or l 0 0) 0 (at 0 (omega arith)), λ a p h. nonzero a (get_or l a 0) p (at a h))
  where
    nonzero : (a e : ℕ) → 0 < a → log_rule (generated 1 255) a e ≡ true → (e < 255) × (power_of 3 e ≡ a)
    nonzero zero e p t = absurd (not-suc-le-zero p)
    nonzero (suc a) e p t =
        let h : e < 255 = ltb-true e 255 (and_left (ltb e 255) (eqb (get_or (generated 1 255) e 0) (suc a)) t) in
        let w = and_right (ltb e 255) (eqb (get_or (generated 1 255) e 0) (suc a)) t in
        (h, sym (powers_rule (generated 1 255) refl e h) ∙ eqb-true (get_or (generated 1 255) e 0) (suc a) w)
