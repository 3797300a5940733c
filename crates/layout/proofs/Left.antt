-- What a host keeps is left as it was, or written. Assumes nothing.
use mathlib.Core.Path.{◌≡◌, sym, ap, ◌∙◌}
use mathlib.Core.Bool.{Bool, true, false}
use mathlib.Core.List.{List}
use Prim.Native.Nat.{ℕ}
use Rattle.area.specs.Area.{pick}
use Rattle.area.specs.Responses.{Response, is_turned_down}
use Rattle.layout.specs.Left.{left_by}

module _ {A : Type 0} (a : Response A) (old new : List ℕ) (b : Bool) (p : b ≡ is_turned_down a) where
  pub left_old : b ≡ true → old ≡ left_by a old new
  unfolding left_by pick
  left_old q = ap (λ z. pick z old new) (sym q ∙ p)

  pub left_new : b ≡ false → (o : List ℕ) → o ≡ new → o ≡ left_by a old new
  unfolding left_by pick
  left_new q o r = r ∙ ap (λ z. pick z old new) (sym q ∙ p)
