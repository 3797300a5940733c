-- A stamp that a client's row of a server has taken stays past: the row has it, or has four larger ones. Assumes nothing.
use Prim.Native.Nat.{ℕ, zero, suc, ◌+◌, ◌≤◌, ◌<◌, min}
use native.Mathlib.Omega.{arith}
use native.Mathlib.Decide.{ℕ_discrete}
use mathlib.Core.Bool.{Bool, true, false, ◌||◌}
use mathlib.Core.Path.{◌≡◌, refl, ap, sym, ◌∙◌, subst}
use mathlib.Core.Logic.{◌⊎◌, inl, inr, ⊎_elim}
use mathlib.Core.Option.{Option, none, some}
use mathlib.Core.List.{List}
use lib.ListN.{length, get_or, set}
use lib.Seq.{get_or-set_same, get_or-set_other}
use lib.Dec.{ltb}
use borrow.Author.Tests.{ltb-true, ltb-false}
use Rattle.quorum.proofs.Logic.{impossible, or_split, or_left, or_right}
use Rattle.area.specs.Area.{pick}
use Rattle.frame.specs.declared.Stamp.{Stamp}
use Rattle.frame.specs.Stamps.{older, same_stamp, zero_stamp}
use Rattle.frame.proofs.StampOrder.{Less, AtMost, less_of, stamp_of_lem, same_of, less_trans, at_most_of, at_most_trans}
use Rattle.client_rules.specs.declared.Row.{Row}
use Rattle.client_rules.specs.Rows.{used, has_stamp, smallest, place_for, row_with}
use Rattle.client_rules.proofs.Views.{smallest_le, smallest_least}

abbrev at : List Stamp → ℕ → Stamp
at l i = get_or l i zero_stamp

-- the row has the stamp x, or four larger ones
abbrev pub RowPast : Row → Stamp → Type 0
RowPast r x = (has_stamp r.stamps (used r) x ≡ true) ⊎ ((4 ≤ r.count) × ((i : ℕ) → i < 4 → Less x (at r.stamps i)))

-- ---- where a stamp is

pub has_place : (l : List Stamp) (m : ℕ) (x : Stamp) → has_stamp l m x ≡ true → (i : ℕ) × (i < m) × (at l i ≡ x)
unfolding has_stamp
has_place l zero x e = impossible (cc e)
has_place l (suc m) x e = ⊎_elim
    (λ u. (m, omega arith, stamp_of_lem _ _ u))
    (λ u. let (i, h, q) = has_place l m x u in (i, omega (arith, h), q))
    (or_split (same_stamp (at l m) x) _ e)

place_has : (l : List Stamp) (m i : ℕ) (x : Stamp) → i < m → at l i ≡ x → has_stamp l m x ≡ true
unfolding has_stamp
place_has l zero i x h e = absurd (omega (arith, h))
place_has l (suc m) i x h e = go (ℕ_discrete i m) (λ k. place_has l m i x k e)
  where
    go : Dec (i ≡ m) → (i < m → has_stamp l m x ≡ true) → (same_stamp (at l m) x || has_stamp l m x) ≡ true
    go (yes z) f = or_left _ (has_stamp l m x) (same_of _ _ (ap (at l) (sym z) ∙ e))
    go (no z) f = or_right (same_stamp (at l m) x) _ (f (omega (arith, h, z)))

-- ---- where a new stamp goes

data Place (r : Row) (x : Stamp) : Option ℕ → Type 0 where
  behind : r.count < 4 → Place r x (some r.count)
  instead : 4 ≤ r.count → Less (at r.stamps (smallest r.stamps 3)) x → Place r x (some (smallest r.stamps 3))
  nowhere : 4 ≤ r.count → AtMost x (at r.stamps (smallest r.stamps 3)) → Place r x none

place : (r : Row) (x : Stamp) → Place r x (place_for r x)
unfolding place_for pick
place r x = go (ltb r.count 4) refl (older (at r.stamps (smallest r.stamps 3)) x) refl
  where
    go : (b : Bool) → ltb r.count 4 ≡ b → (d : Bool) → older (at r.stamps (smallest r.stamps 3)) x ≡ d
        → Place r x (pick b (some r.count) (pick d (some (smallest r.stamps 3)) none))
    go true e d f = behind (ltb-true r.count 4 e)
    go false e true f = instead (ltb-false r.count 4 e) (less_of _ _ f)
    go false e false f = nowhere (ltb-false r.count 4 e) (at_most_of x _ f)

-- the row with x at i
with_used : (r : Row) (i : ℕ) (x : Stamp) → ((r.count < 4) × (used (row_with r i x) ≡ r.count + 1) × ((row_with r i x).count ≡ r.count + 1))
    ⊎ ((4 ≤ r.count) × (used (row_with r i x) ≡ 4) × ((row_with r i x).count ≡ r.count))
unfolding pick
with_used r i x = go (ltb r.count 4) refl
  where
    go : (b : Bool) → ltb r.count 4 ≡ b
        → ((r.count < 4) × (min (pick b (r.count + 1) r.count) 4 ≡ r.count + 1) × (pick b (r.count + 1) r.count ≡ r.count + 1))
        ⊎ ((4 ≤ r.count) × (min (pick b (r.count + 1) r.count) 4 ≡ 4) × (pick b (r.count + 1) r.count ≡ r.count))
    go true e = let h = ltb-true r.count 4 e in inl (h, omega (arith, h), refl)
    go false e = let h = ltb-false r.count 4 e in inr (h, omega (arith, h), refl)

-- ---- a value that is taken

module _ (r : Row) (many : length r.stamps ≡ 4) where
  here : (i : ℕ) (x : Stamp) → i < 4 → at (set r.stamps i x) i ≡ x
  here i x h = get_or-set_same r.stamps i x zero_stamp (omega (arith, h, many))

  pub past_kept : (x : Stamp) (i : ℕ) → place_for r x ≡ some i → RowPast (row_with r i x) x
  past_kept x i e = go (place_for r x) e (place r x)
    where
      go : (o : Option ℕ) → o ≡ some i → Place r x o → RowPast (row_with r i x) x
      go (some j) q (behind h) =
          let d : r.count ≡ i = cc q in
          ⊎_elim
          (λ (l, u, c). inl (place_has (set r.stamps i x) (used (row_with r i x)) i x (omega (arith, u, d)) (here i x (omega (arith, h, d)))))
          (λ (l, u, c). absurd (omega (arith, l, h)))
          (with_used r i x)
      go (some j) q (instead h o) =
          let d : smallest r.stamps 3 ≡ i = cc q in
          let l = smallest_le r.stamps 3 in
          ⊎_elim
          (λ (m, u, c). absurd (omega (arith, m, h)))
          (λ (m, u, c). inl (place_has (set r.stamps i x) (used (row_with r i x)) i x (omega (arith, u, l, d)) (here i x (omega (arith, l, d)))))
          (with_used r i x)
      go none q p = impossible (cc q)

  -- one that is dropped is smaller than all four
  pub past_dropped : (x : Stamp) → has_stamp r.stamps (used r) x ≡ false → place_for r x ≡ none → RowPast r x
  past_dropped x n e = go (place_for r x) e (place r x)
    where
      go : (o : Option ℕ) → o ≡ none → Place r x o → RowPast r x
      go (some j) q p = impossible (cc q)
      go none q (nowhere h a) = inr (
        h,
        λ i l. ⊎_elim
            (λ z. impossible (cc (n, place_has r.stamps (used r) i x (omega (arith, l, h)) (sym z))))
            (λ z. z)
            (at_most_trans x (at r.stamps (smallest r.stamps 3)) (at r.stamps i) a (smallest_least r.stamps 3 i (omega (arith, l)))),
      )

  -- ---- another one that is kept

  -- what was elsewhere stays
  stays_at : (y : Stamp) (i j : ℕ) → (j ≡ i → ⊥) → at (set r.stamps i y) j ≡ at r.stamps j
  stays_at y i j ne = get_or-set_other r.stamps i j y zero_stamp ne

  -- x was at the place of the smallest, where y goes
  replaced : (x y : Stamp) → 4 ≤ r.count → Less (at r.stamps (smallest r.stamps 3)) y → at r.stamps (smallest r.stamps 3) ≡ x
      → (m : ℕ) → m ≤ 4 → ((j : ℕ) × (j < m) × (at (set r.stamps (smallest r.stamps 3) y) j ≡ x))
      ⊎ ((j : ℕ) → j < m → Less x (at (set r.stamps (smallest r.stamps 3) y) j))
  replaced x y h l e zero b = inr (λ j k. absurd (omega (arith, k)))
  replaced x y h l e (suc m) b = ⊎_elim
      (λ (j, k, q). inl (j, omega (arith, k), q))
      (λ f. step f (ℕ_discrete m (smallest r.stamps 3)))
      (replaced x y h l e m (omega (arith, b)))
    where
      s : ℕ
      s = smallest r.stamps 3

      all : ((j : ℕ) → j < m → Less x (at (set r.stamps s y) j)) → Less x (at (set r.stamps s y) m) → (j : ℕ) → j < suc m
          → Less x (at (set r.stamps s y) j)
      all f z j k = go (ℕ_discrete j m)
        where
          go : Dec (j ≡ m) → Less x (at (set r.stamps s y) j)
          go (yes q) = subst (λ j. Less x (at (set r.stamps s y) j)) (sym q) z
          go (no q) = f j (omega (arith, k, q))

      step : ((j : ℕ) → j < m → Less x (at (set r.stamps s y) j)) → Dec (m ≡ s)
          → ((j : ℕ) × (j < suc m) × (at (set r.stamps s y) j ≡ x)) ⊎ ((j : ℕ) → j < suc m → Less x (at (set r.stamps s y) j))
      step f (yes q) = inr (all f (subst (λ v. Less x v) (sym (ap (at (set r.stamps s y)) q ∙ here s y (omega (arith, smallest_le r.stamps 3))))
          (subst (λ v. Less v y) e l)))
      step f (no q) = ⊎_elim
          (λ z. inl (m, omega arith, stays_at y s m q ∙ sym z ∙ e))
          (λ z. inr (all f (subst (λ v. Less x v) (sym (stays_at y s m q)) (subst (λ v. Less v (at r.stamps m)) e z))))
          (smallest_least r.stamps 3 m (omega (arith, b)))

  stays_behind : (x y : Stamp) → r.count < 4 → RowPast r x → RowPast (row_with r r.count y) x
  stays_behind x y h (inr (l, f)) = absurd (omega (arith, l, h))
  stays_behind x y h (inl e) =
      let (j, k, q) = has_place r.stamps (used r) x e in
      ⊎_elim
      (λ (m, u, c). inl (place_has (set r.stamps r.count y) (used (row_with r r.count y)) j x (omega (arith, u, k, h))
      (stays_at y r.count j (λ z. omega (arith, z, k, h)) ∙ q)))
      (λ (m, u, c). absurd (omega (arith, m, h)))
      (with_used r r.count y)

  stays_instead : (x y : Stamp) → 4 ≤ r.count → Less (at r.stamps (smallest r.stamps 3)) y → RowPast r x
      → RowPast (row_with r (smallest r.stamps 3) y) x
  stays_instead x y h l p = ⊎_elim
      (λ (m, u, c). absurd (omega (arith, m, h)))
      (λ (m, u, c). go p u c)
      (with_used r (smallest r.stamps 3) y)
    where
      s : ℕ
      s = smallest r.stamps 3

      go : RowPast r x → used (row_with r s y) ≡ 4 → (row_with r s y).count ≡ r.count → RowPast (row_with r s y) x
      go (inr (k, f)) u c = inr (omega (arith, k, c), λ j b. at_place j (ℕ_discrete j s) (f j b))
        where
          at_place : (j : ℕ) → Dec (j ≡ s) → Less x (at r.stamps j) → Less x (at (set r.stamps s y) j)
          at_place j (yes z) q = subst (λ v. Less x v) (sym (ap (at (set r.stamps s y)) z ∙ here s y (omega (arith, smallest_le r.stamps 3))))
              (less_trans x (at r.stamps s) y (subst (λ j. Less x (at r.stamps j)) z q) l)
          at_place j (no z) q = subst (λ v. Less x v) (sym (stays_at y s j z)) q
      go (inl e) u c = let (j, k, q) = has_place r.stamps (used r) x e in by_place j (omega (arith, k)) q (ℕ_discrete j s)
        where
          by_place : (j : ℕ) → j < 4 → at r.stamps j ≡ x → Dec (j ≡ s) → RowPast (row_with r s y) x
          by_place j k q (no z) = inl (place_has (set r.stamps s y) (used (row_with r s y)) j x (omega (arith, u, k)) (stays_at y s j z ∙ q))
          by_place j k q (yes z) = ⊎_elim
              (λ (i, b, d). inl (place_has (set r.stamps s y) (used (row_with r s y)) i x (omega (arith, u, b)) d))
              (λ f. inr (omega (arith, h, c), f))
              (replaced x y h l (ap (at r.stamps) (sym z) ∙ q) 4 (omega arith))

  pub past_stays : (x y : Stamp) (i : ℕ) → place_for r y ≡ some i → RowPast r x → RowPast (row_with r i y) x
  past_stays x y i e p = go (place_for r y) e (place r y)
    where
      go : (o : Option ℕ) → o ≡ some i → Place r y o → RowPast (row_with r i y) x
      go (some j) q (behind h) = let d : r.count ≡ i = cc q in subst (λ i. RowPast (row_with r i y) x) d (stays_behind x y h p)
      go (some j) q (instead h l) = let d : smallest r.stamps 3 ≡ i = cc q in subst (λ i. RowPast (row_with r i y) x) d (stays_instead x y h l p)
      go none q z = impossible (cc q)
