-- How many of servers 1 to n pass, as a chain over the array counts them. Assumes nothing.
use mathlib.Core.Path.{◌≡◌, refl, sym, ap, ◌∙◌}
use mathlib.Core.Bool.{Bool, true, false}
use mathlib.Core.List.{List, [], ◌∷◌}
use Prim.Native.Nat.{ℕ, zero, suc, ◌+◌, ◌≤◌, ◌<◌}
use native.Mathlib.Numerals.{add-one}
use native.Mathlib.Omega.{arith}
use lib.ListN.{length, get_or, take, drop}
use Rattle.std.specs.List.{count_by}
use Rattle.std.proofs.lemmas.List.Sums.{count_by_more_yes, count_by_more_no}
use Rattle.quorum.specs.Quorum.{bit, count}

module _ {A : Type 0} (p : A → Bool) (d : A) where
  counted_behind : (x : A) (l : List A) (n : ℕ) → n ≤ length l → count_by p (take n l) ≡ count (λ j. p (get_or (x ∷ l) j d)) n
  unfolding count
  counted_behind x l zero h = refl
  counted_behind x l (suc n) h =
      ap (λ m. count_by p (take m l)) (sym (add-one n)) ∙ go (counted_behind x l n (omega arith)) (p (get_or l n d)) refl
    where
      go : count_by p (take n l) ≡ count (λ j. p (get_or (x ∷ l) j d)) n → (b : Bool) → p (get_or l n d) ≡ b
          → count_by p (take (n + 1) l) ≡ bit (p (get_or l n d)) + count (λ j. p (get_or (x ∷ l) j d)) n
      go q true e = count_by_more_yes p l n d h e ∙ rw (e, q) (omega arith)
      go q false e = count_by_more_no p l n d h e ∙ rw (e, q) (omega arith)

  -- place 0 is no server's
  pub counted_from_one : (l : List A) (n : ℕ) → n < length l → count_by p (take n (drop 1 l)) ≡ count (λ j. p (get_or l j d)) n
  counted_from_one [] n h = absurd (omega arith)
  counted_from_one (x ∷ l) n h = counted_behind x l n (omega arith)
