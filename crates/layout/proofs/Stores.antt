-- Two stores into one list, one after the other: if they do not overlap their order does not matter, and one that covers an earlier one replaces it.
-- Assumes nothing.
use Prim.Native.Nat.{ℕ, zero, suc, ◌+◌, ◌*◌, ◌≤◌, ◌<◌}
use native.Mathlib.Omega.{arith}
use native.Mathlib.Decide.{dec_lt}
use mathlib.Core.Path.{◌≡◌, refl, sym, ap, ap₂, ◌∙◌}
use mathlib.Core.List.{List, [], ◌∷◌, ◌++◌}
use lib.ListN.{length, set}
use lib.Seq.{sets, set-set, set_comm}
use Rattle.area.proofs.Sets.{sets_append}

module _ {A : Type 0} where
  -- one element before those that are stored
  pub set_sets : (l : List A) (j : ℕ) (v : List A) (i : ℕ) (x : A) → i < j → set (sets l j v) i x ≡ sets (set l i x) j v
  set_sets l j [] i x h = refl
  set_sets l j (y ∷ v) i x h =
      set_sets (set l j y) (suc j) v i x (omega arith)
      ∙ ap (λ (m : List A). sets m (suc j) v) (set_comm l j i y x (λ e. omega (arith, h, e)))

  pub sets_swap : (l : List A) (i : ℕ) (u : List A) (j : ℕ) (v : List A) → i + length u ≤ j → sets (sets l j v) i u ≡ sets (sets l i u) j v
  sets_swap l i [] j v h = refl
  sets_swap l i (x ∷ u) j v h =
      ap (λ (m : List A). sets m (suc i) u) (set_sets l j v i x (omega arith)) ∙ sets_swap (set l i x) (suc i) u j v (omega (arith, h))

  -- u, stored at j, lies within what is stored at i afterwards
  pub sets_over : (l : List A) (j : ℕ) (u : List A) (i : ℕ) (v : List A) → i ≤ j → j + length u ≤ i + length v → sets (sets l j u) i v ≡ sets l i v
  sets_over l j [] i v h k = refl
  sets_over l j (y ∷ u) i [] h k = absurd (omega (arith, h, k))
  sets_over l j (y ∷ u) i (x ∷ v) h k =
      go (λ m. sets_over (set l i x) j (y ∷ u) (suc i) v (omega (arith, m)) (omega (arith, k)))
      (λ e. sets_over (set l i x) (suc i) u (suc i) v (omega arith) (omega (arith, k, e))) (dec_lt i j)
    where
      go : (i < j → sets (sets (set l i x) j (y ∷ u)) (suc i) v ≡ sets (set l i x) (suc i) v)
          → (j ≡ i → sets (sets (set l i x) (suc i) u) (suc i) v ≡ sets (set l i x) (suc i) v)
          → Dec (i < j) → sets (set (sets l j (y ∷ u)) i x) (suc i) v ≡ sets (set l i x) (suc i) v
      go p q (yes m) = ap (λ (n : List A). sets n (suc i) v) (set_sets l j (y ∷ u) i x m) ∙ p m
      go p q (no m) =
          let e : j ≡ i = omega (arith, h, m) in
          let w : set (sets l j (y ∷ u)) i x ≡ sets (set l i x) (suc i) u =
          ap (λ (n : ℕ). set (sets (set l n y) (suc n) u) i x) e
          ∙ set_sets (set l i y) (suc i) u i x (omega arith)
          ∙ ap (λ (n : List A). sets n (suc i) u) (set-set l i y x) in
          ap (λ (n : List A). sets n (suc i) v) w ∙ q e

  -- of p, u and q, stored end to end, u is replaced by v, which is as long
  pub sets_replace : (l : List A) (i : ℕ) (p u q v : List A) (j : ℕ) → j ≡ i + length p → length u ≡ length v
      → sets (sets l i (p ++ (u ++ q))) j v ≡ sets l i (p ++ (v ++ q))
  sets_replace l i p u q v j e h =
      let a = sets l i p in
      let at = i + length p in
      ap₂ (λ m n. sets m n v) (sets_append l i p (u ++ q) ∙ sets_append a at u q) e
      ∙ sets_swap (sets a at u) at v (at + length u) q (omega (arith, h))
      ∙ ap (λ m. sets m (at + length u) q) (sets_over a at u at v (omega arith) (omega (arith, h)))
      ∙ ap (λ n. sets (sets a at v) (at + n) q) h
      ∙ sym (sets_append l i p (v ++ q) ∙ sets_append a at v q)
