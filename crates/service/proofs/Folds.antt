-- What holds of each of the servers 1 to n "or C" holds of all of them, or C. Assumes nothing.
use Prim.Native.Nat.{ℕ, zero, suc, ◌≤◌}
use native.Mathlib.Omega.{arith}
use native.Mathlib.Decide.{dec_le}
use mathlib.Core.Bool.{Bool, true, false}
use mathlib.Core.Path.{◌≡◌, refl}
use mathlib.Core.Logic.{◌⊎◌, inl, inr, ⊎_elim}
use Rattle.quorum.specs.Quorum.{Among}
use Rattle.quorum.proofs.Logic.{impossible}

module _ {C : Type 0} (A : ℕ → Type 0) where
  pub all_or : (n : ℕ) → ((j : ℕ) → Among n j → A j ⊎ C) → ((j : ℕ) → Among n j → A j) ⊎ C
  all_or zero f = inl (λ j i. absurd (omega arith))
  all_or (suc k) f = go (all_or k (λ j i. f j (omega arith))) (f (suc k) (omega arith))
    where
      either : (j : ℕ) → Among (suc k) j → Dec (j ≤ k) → ((i : ℕ) → Among k i → A i) → A (suc k) → A j
      either j i (yes l) below last = below j (omega arith)
      either j i (no l) below last = let e : j ≡ suc k = omega arith in rw e last

      go : ((j : ℕ) → Among k j → A j) ⊎ C → A (suc k) ⊎ C → ((j : ℕ) → Among (suc k) j → A j) ⊎ C
      go (inl below) (inl last) = inl (λ j i. either j i (dec_le j k) below last)
      go (inl below) (inr c) = inr c
      go (inr c) last = inr c

-- of the honest ones among them
pub all_honest : {C : Type 0} (A : ℕ → Type 0) (n : ℕ) (faulty : ℕ → Bool) → ((j : ℕ) → Among n j × (faulty j ≡ false) → A j ⊎ C)
    → ((j : ℕ) → Among n j × (faulty j ≡ false) → A j) ⊎ C
all_honest {C} A n faulty f = ⊎_elim
    (λ g. inl (λ j h. g j h.0 h.1))
    (λ c. inr c)
    (all_or (λ j. faulty j ≡ false → A j) n (λ j i. go j i (faulty j) refl))
  where
    go : (j : ℕ) → Among n j → (b : Bool) → faulty j ≡ b → (faulty j ≡ false → A j) ⊎ C
    go j i true e = inl (λ d. impossible (cc (d, e)))
    go j i false e = ⊎_elim (λ a. inl (λ d. a)) (λ c. inr c) (f j (i, e))
