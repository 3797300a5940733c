-- The array that `from_fn` makes, where every call gives what h says of its number. Assumes nothing.
use Prim.Native.Nat.{ℕ, zero, suc, ◌+◌, ◌<◌}
use native.Mathlib.Nat.{zero-add}
use native.Mathlib.Omega.{arith}
use denote.Param.Members.{Mut, Called}
use mathlib.Core.Path.{◌≡◌, refl, sym, ap, ◌∙◌}
use mathlib.Core.List.{List, [], ◌∷◌}
use lib.ListN.{length, get_or}
use Rattle.std.specs.Array.{IsFromFnResult, IsFromFnResultFrom}
use Rattle.std.proofs.lemmas.List.{ext_get_or}
use Rattle.area.specs.Area.{table, table_from}
use Rattle.area.proofs.Fills.{length_table, get_d_table}
use Rattle.quorum.proofs.Logic.{impossible}

-- P holds of each state of the closure
module _ {F A : Type 0} (m : Mut F (ℕ × Unit {0}) A) (P : F → Type 0) (h : ℕ → A)
    (step : (p q : F) (i : ℕ) (y : A) → P p → Called m p (i, tt) y q → (y ≡ h i) × P q) where
  each : (n i : ℕ) (f : F) (ys : List A) → P f → IsFromFnResultFrom m f ys i n → (k : ℕ) → k < n → (d : A) → get_or ys (i + k) d ≡ h (i + k)
  each zero i f ys p u k l d = impossible (omega (arith, l))
  each (suc n) i f ys p (q, y, e, c, u) zero l d =
      let z : i ≡ i + 0 = omega arith in
      rw z at (e.1 d ∙ (step f q i y p c).0)
  each (suc n) i f ys p (q, y, e, c, u) (suc k) l d =
      let z : i + 1 + k ≡ i + suc k = omega arith in
      rw z at (each n (i + 1) q ys (step f q i y p c).1 u k (omega (arith, l)) d)

  pub made_table : (n : ℕ) (f : F) (ys : List A) → P f → IsFromFnResult m f ys n → ys ≡ table n h
  unfolding table table_from
  made_table zero f [] p r = refl
  made_table (suc n) f [] p r = impossible (omega (arith, r.long))
  made_table n f (y ∷ ys) p r =
      ext_get_or y (y ∷ ys) (table n h) (r.long ∙ sym (length_table n h))
      (λ k l. let e = rw zero-add at (each n 0 f (y ∷ ys) p r.each k (omega (arith, l, r.long)) y) in e ∙ sym (get_d_table n h k y (omega (arith, l, r.long))))
