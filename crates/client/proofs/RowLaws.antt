-- The loops over a row's stamps. Assumes nothing.
use Prim.Native.Nat.{ℕ, zero, suc, ◌+◌, ◌≤◌, ◌<◌}
use native.Mathlib.Numerals.{add-one}
use native.Mathlib.Decide.{dec_le}
use native.Mathlib.Omega.{arith}
use mathlib.Core.Bool.{Bool, true, false, ◌||◌}
use mathlib.Core.Path.{◌≡◌, refl, ap, sym, ◌∙◌}
use mathlib.Core.List.{List}
use lib.ListN.{get_or, set}
use lib.Dec.{ltb}
use borrow.Author.Tests.{lt-ltb, le-ltb}
use Rattle.area.specs.Area.{pick}
use Rattle.frame.specs.declared.Stamp.{Stamp}
use Rattle.frame.specs.Stamps.{older, same_stamp, zero_stamp}
use Rattle.client_rules.specs.declared.Row.{Row}
use Rattle.std.specs.Prelude.{Some, None}
use Rattle.client_rules.specs.Rows.{has_stamp, smallest, place_for, row_with}
use Rattle.client.specs.Stages.{spot_of}

-- ---- whether a stamp is there

or_true : (b : Bool) → b || true ≡ true
or_true true = refl
or_true false = refl

-- it is at place i, one of the first m
pub has_found : (l : List Stamp) (x : Stamp) (i m : ℕ) → i < m → same_stamp (get_or l i zero_stamp) x ≡ true → true ≡ has_stamp l m x
unfolding has_stamp
has_found l x i zero h t = absurd (omega arith)
has_found l x i (suc m) h t = go (has_found l x i m) (dec_le m i)
  where
    go : (i < m → same_stamp (get_or l i zero_stamp) x ≡ true → true ≡ has_stamp l m x) → Dec (m ≤ i)
        → true ≡ same_stamp (get_or l m zero_stamp) x || has_stamp l m x
    go f (yes k) = let e : i ≡ m = omega (arith, h, k) in let s : same_stamp (get_or l m zero_stamp) x ≡ true = ap (λ n. same_stamp (get_or l n zero_stamp) x) (sym e) ∙ t in rw s
    go f (no n) = sym (ap (λ b. same_stamp (get_or l m zero_stamp) x || b) (sym (f (omega (arith, n)) t)) ∙ or_true (same_stamp (get_or l m zero_stamp) x))

-- it is not among the first i, nor at place i
pub has_next : (l : List Stamp) (x : Stamp) (i : ℕ) → has_stamp l i x ≡ false → same_stamp (get_or l i zero_stamp) x ≡ false
    → has_stamp l (i + 1) x ≡ false
unfolding has_stamp
has_next l x i e t = ap (λ n. has_stamp l n x) (add-one i) ∙ rw (t, e)

-- ---- the smallest of four

pub smallest_law : (l : List Stamp) (a b r : ℕ)
    → a ≡ pick (older (get_or l 1 zero_stamp) (get_or l 0 zero_stamp)) 1 0
    → b ≡ pick (older (get_or l 2 zero_stamp) (get_or l a zero_stamp)) 2 a
    → r ≡ pick (older (get_or l 3 zero_stamp) (get_or l b zero_stamp)) 3 b
    → r ≡ smallest l 3
unfolding smallest
smallest_law l a b r p q s =
    let d : b ≡ smallest l 2 = q ∙ ap (λ i. pick (older (get_or l 2 zero_stamp) (get_or l i zero_stamp)) 2 i) p in
    s ∙ ap (λ i. pick (older (get_or l 3 zero_stamp) (get_or l i zero_stamp)) 3 i) d

-- ---- where a new stamp goes

module _ (r : Row) (x : Stamp) where
  pub place_behind : r.count < 4 → Some r.count ≡ spot_of (place_for r x)
  unfolding place_for pick
  place_behind h = let e : ltb r.count 4 ≡ true = lt-ltb _ _ h in rw e

  module _ (i : ℕ) (b : Bool) (h : 4 ≤ r.count) (p : i ≡ smallest r.stamps 3) (q : b ≡ older (get_or r.stamps i zero_stamp) x) where
    pub place_smallest : b ≡ true → Some i ≡ spot_of (place_for r x)
    unfolding place_for pick
    place_smallest t =
        let e : ltb r.count 4 ≡ false = le-ltb _ _ h in
        let d : older (get_or r.stamps (smallest r.stamps 3) zero_stamp) x ≡ true =
        ap (λ k. older (get_or r.stamps k zero_stamp) x) (sym p) ∙ sym q ∙ t in
        rw (e, d) (ap Some p)

    pub place_nowhere : b ≡ false → None ≡ spot_of (place_for r x)
    unfolding place_for pick
    place_nowhere t =
        let e : ltb r.count 4 ≡ false = le-ltb _ _ h in
        let d : older (get_or r.stamps (smallest r.stamps 3) zero_stamp) x ≡ false =
        ap (λ k. older (get_or r.stamps k zero_stamp) x) (sym p) ∙ sym q ∙ t in
        rw (e, d)

  pub row_law : (i n : ℕ) → n ≡ pick (ltb r.count 4) (r.count + 1) r.count → record { count = n; stamps = set r.stamps i x } ≡ row_with r i x
  row_law i n e = λ k. record { count = e k; stamps = set r.stamps i x }
