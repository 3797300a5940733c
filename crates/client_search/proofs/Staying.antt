-- "The client keeps for each server the 4 largest stamps received, dropping the smallest, be it the new one": what a row holds stays when a value comes, or is
-- the smallest of five. Assumes nothing.
use Prim.Native.Nat.{ℕ, ◌+◌, ◌≤◌, ◌<◌}
use native.Mathlib.Omega.{arith}
use native.Mathlib.Decide.{ℕ_discrete}
use mathlib.Core.Bool.{Bool, true, false}
use mathlib.Core.Path.{◌≡◌, refl, ap, sym, ◌∙◌, subst}
use mathlib.Core.Logic.{◌⊎◌, inl, inr, ⊎_elim}
use mathlib.Core.Option.{none, some}
use mathlib.Core.List.{List, Memᴰ}
use lib.ListN.{get_or}
use lib.Seq.{get_or-set_same}
use lib.Dec.{ltb}
use borrow.Author.Tests.{ltb-true, ltb-false}
use Rattle.quorum.specs.Quorum.{Among}
use Rattle.quorum.proofs.Logic.{impossible}
use Rattle.area.specs.Area.{pick}
use Rattle.blocks.specs.declared.Params.{Params}
use Rattle.frame.specs.declared.Stamp.{Stamp}
use Rattle.frame.specs.Chunks.{store_entry, place_at}
use Rattle.frame.specs.Messages.{Entry, Sized}
use Rattle.frame.specs.Stamps.{older, zero_stamp}
use Rattle.frame.proofs.Chunks.{entry_other}
use Rattle.frame.proofs.Sizes.{Small}
use Rattle.frame.proofs.StampOrder.{AtMost, less_of, at_most_of, at_most_trans}
use Rattle.client_rules.specs.declared.Row.{Row}
use Rattle.client_rules.specs.declared.Client.{Client}
use Rattle.client_rules.specs.Rows.{Kept, used, row_view, places_from, smallest, place_for, row_with}
use Rattle.client_rules.specs.State.{no_row, row_of, with_row}
use Rattle.client_rules.proofs.Views.{Shaped, placed, Placed, placed_of, of_placed, smallest_least, goes, other_row, place_stays}

-- ---- the smallest of four

-- stamp y is the smallest of a row's four and x, the stamp that comes
pub record Smallest (r : Row) (x y : Stamp) : Type 0 where
  pub full : 4 ≤ r.count
  pub of_row : (p : ℕ) → p < 4 → AtMost y (get_or r.stamps p zero_stamp)
  pub of_new : AtMost y x

module _ (r : Row) (x : Stamp) where
  replaced : (b d : Bool) (i : ℕ) → ltb r.count 4 ≡ b → older (get_or r.stamps (smallest r.stamps 3) zero_stamp) x ≡ d
      → pick b (some r.count) (pick d (some (smallest r.stamps 3)) none) ≡ some i → 4 ≤ r.count → Smallest r x (get_or r.stamps i zero_stamp)
  unfolding pick
  replaced true d i e f q h = absurd (omega (arith, ltb-true r.count 4 e))
  replaced false true i e f q h =
      let w : smallest r.stamps 3 ≡ i = cc in
      record {
        full = h;
        of_row = λ p l. rw (sym w) (smallest_least r.stamps 3 p (omega arith));
        of_new = rw (sym w) (inr (less_of (get_or r.stamps (smallest r.stamps 3) zero_stamp) x f));
      }
  replaced false false i e f q h = impossible (cc)

  -- what a new stamp replaces is the smallest of five
  pub replaces_smallest : (i : ℕ) → place_for r x ≡ some i → 4 ≤ r.count → Smallest r x (get_or r.stamps i zero_stamp)
  unfolding place_for
  replaces_smallest i q h = replaced (ltb r.count 4) (older (get_or r.stamps (smallest r.stamps 3) zero_stamp) x) i refl refl q h

  refused : (b d : Bool) → ltb r.count 4 ≡ b → older (get_or r.stamps (smallest r.stamps 3) zero_stamp) x ≡ d
      → pick b (some r.count) (pick d (some (smallest r.stamps 3)) none) ≡ none → Smallest r x x
  unfolding pick
  refused true d e f q = impossible (cc)
  refused false true e f q = impossible (cc)
  refused false false e f q = record {
    full = ltb-false r.count 4 e;
    of_row = λ p l.
        at_most_trans x (get_or r.stamps (smallest r.stamps 3) zero_stamp) (get_or r.stamps p zero_stamp)
        (at_most_of x (get_or r.stamps (smallest r.stamps 3) zero_stamp) f)
        (smallest_least r.stamps 3 p (omega arith));
    of_new = inl refl;
  }

  -- a new stamp that goes nowhere is the smallest of five
  pub new_smallest : place_for r x ≡ none → Smallest r x x
  unfolding place_for
  new_smallest q = refused (ltb r.count 4) (older (get_or r.stamps (smallest r.stamps 3) zero_stamp) x) refl refl q

-- ---- a value comes from server j and goes to place i of its row

count_up : (n : ℕ) (b : Bool) → n ≤ pick b (n + 1) n
unfolding pick
count_up n true = omega arith
count_up n false = omega arith

module _ (g : Params) (M : Small g) (s : Client) (S : Shaped s.rows) (a : List ℕ) (j : ℕ) (at : Among 10 j) (x : Stamp) (e : Entry) (Q : Sized g e)
    (i : ℕ) (Goes-to : place_for (row_of s j) x ≡ some i) where
  abbrev next : Client
  next = with_row s j (row_with (row_of s j) i x)

  abbrev area : List ℕ
  area = store_entry a (place_at j i) e

  small : i < 4
  small = (goes (row_of s j) x i Goes-to).small

  -- a place of another row
  other_stays : (m p : ℕ) → 1 ≤ m → p < 4 → (m ≡ j → ⊥) → placed g area m (row_of s m) p ≡ placed g a m (row_of s m) p
  other_stays m p low h ne =
      let q = entry_other g M a (place_at j i) e Q (place_at m p) (λ z. ne (omega (arith, small, h, low, at.0))) in
      λ d. record { stamp = get_or (row_of s m).stamps p zero_stamp; entry = q d }

  this_row : row_of next j ≡ row_with (row_of s j) i x
  this_row = get_or-set_same s.rows j (row_with (row_of s j) i x) no_row (omega (arith, S.rows_many, at.1))

  in_this : (k : Kept) → Memᴰ k (places_from g a j (row_of s j) 0 (used (row_of s j)))
      → Memᴰ k (places_from g area j (row_with (row_of s j) i x) 0 (used (row_with (row_of s j) i x))) ⊎ Smallest (row_of s j) x k.stamp
  in_this k h = let w = placed_of g a j (row_of s j) 0 (used (row_of s j)) k h in go w (ℕ_discrete w.at i)
    where
      go : (w : Placed g a j (row_of s j) 0 (used (row_of s j)) k) → Dec (w.at ≡ i)
          → Memᴰ k (places_from g area j (row_with (row_of s j) i x) 0 (used (row_with (row_of s j) i x))) ⊎ Smallest (row_of s j) x k.stamp
      go w (yes z) = ⊎_elim
          (λ u. absurd (omega (arith, u.0, u.1, w.high, z)))
          (λ u.
          let y : k.stamp ≡ get_or (row_of s j).stamps i zero_stamp = ap (λ (v : Kept). v.stamp) w.is ∙ ap (λ p. get_or (row_of s j).stamps p zero_stamp) z in
          inr (subst (Smallest (row_of s j) x) (sym y) (replaces_smallest (row_of s j) x i Goes-to u)))
          (goes (row_of s j) x i Goes-to).either
      go w (no z) =
          let c = count_up (row_of s j).count (ltb (row_of s j).count 4) in
          let l : w.at < used (row_with (row_of s j) i x) = omega (arith, w.high, c) in
          inl (rw (w.is, sym (place_stays g M a j (row_of s j) x e Q i w.at z))
          (of_placed g area j (row_with (row_of s j) i x) 0 (used (row_with (row_of s j) i x)) w.at (omega arith) (omega arith)))

  in_other : (m : ℕ) → 1 ≤ m → (m ≡ j → ⊥) → (k : Kept) → Memᴰ k (places_from g a m (row_of s m) 0 (used (row_of s m)))
      → Memᴰ k (places_from g area m (row_of s m) 0 (used (row_of s m)))
  in_other m low ne k h =
      let w = placed_of g a m (row_of s m) 0 (used (row_of s m)) k h in
      let p : w.at < 4 = omega (arith, w.high) in
      rw (w.is, sym (other_stays m w.at low p ne)) (of_placed g area m (row_of s m) 0 (used (row_of s m)) w.at (omega arith) (omega (arith, w.high)))

  -- what a row holds stays, or it is in that server's row and the smallest of five
  pub row_stays : (m : ℕ) → 1 ≤ m → (k : Kept) → Memᴰ k (row_view g s a m)
      → Memᴰ k (row_view g next area m) ⊎ ((m ≡ j) × Smallest (row_of s j) x k.stamp)
  unfolding row_view
  row_stays m low k h = go (ℕ_discrete m j)
    where
      go : Dec (m ≡ j)
          → Memᴰ k (places_from g area m (row_of next m) 0 (used (row_of next m))) ⊎ ((m ≡ j) × Smallest (row_of s j) x k.stamp)
      go (yes z) =
          let v : Memᴰ k (places_from g a j (row_of s j) 0 (used (row_of s j))) =
          subst (λ y. Memᴰ k (places_from g a y (row_of s y) 0 (used (row_of s y)))) z h in
          ⊎_elim
          (λ w. inl (subst (λ y. Memᴰ k (places_from g area y (row_of next y) 0 (used (row_of next y)))) (sym z)
          (subst (λ r. Memᴰ k (places_from g area j r 0 (used r))) (sym this_row) w)))
          (λ w. inr (z, w))
          (in_this k v)
      go (no z) = inl (subst (λ r. Memᴰ k (places_from g area m r 0 (used r))) (sym (other_row s j i x m z)) (in_other m low z k h))
