-- Equality of lists of bytes: what `same` says, and that it is `==` of slices. Assumes nothing.
use mathlib.Core.Path.{◌≡◌, refl, sym, ap, ap₂, ◌∙◌}
use mathlib.Core.Bool.{true, false, ◌&&◌}
use Rattle.std.specs.Str.{bytes_eq}
use mathlib.Core.List.{List, [], ◌∷◌}
use Prim.Native.Nat.{ℕ, suc}
use lib.ListN.{length}
use lib.Dec.{eqb}
use borrow.Author.Tests.{eq-eqb, eqb-true}
use Rattle.area.specs.Area.{same}
use Rattle.area.proofs.Tests.{impossible, and_left, and_right, and_false}

-- ---- same

pub same_lengths : (a b : List ℕ) → (length a ≡ length b → ⊥) → same a b ≡ false
unfolding same
same_lengths [] [] ne = absurd (ne refl)
same_lengths [] (y ∷ b) ne = refl
same_lengths (x ∷ a) [] ne = refl
same_lengths (x ∷ a) (y ∷ b) ne = rw (same_lengths a b (λ e. ne (ap suc e))) (and_false (eqb x y) false refl)

-- the test tells equality
pub same_true : (a b : List ℕ) → same a b ≡ true → a ≡ b
unfolding same
same_true [] [] e = refl
same_true [] (y ∷ b) e = impossible (cc e)
same_true (x ∷ a) [] e = impossible (cc e)
same_true (x ∷ a) (y ∷ b) e =
    ap₂ (λ u l. u ∷ l) (eqb-true x y (and_left (eqb x y) (same a b) e)) (same_true a b (and_right (eqb x y) (same a b) e))

pub same_refl : (a : List ℕ) → same a a ≡ true
unfolding same
same_refl [] = refl
same_refl (x ∷ a) = rw (eq-eqb x x refl) (same_refl a)

pub same_false : (a b : List ℕ) → same a b ≡ false → a ≡ b → ⊥
same_false a b e p = impossible (cc (sym (same_refl a) ∙ ap (same a) p ∙ e))

-- what `==` says of two slices
pub same_is : (a b : List ℕ) → bytes_eq a b ≡ same a b
unfolding same
same_is [] [] = refl
same_is [] (y ∷ b) = refl
same_is (x ∷ a) [] = refl
same_is (x ∷ a) (y ∷ b) = ap (λ t. eqb x y && t) (same_is a b)
