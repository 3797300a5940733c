-- What a kept value does to the rows that a client shows. Assumes nothing.
use Prim.Native.Nat.{ℕ, zero, suc, ◌+◌, ◌≤◌, ◌<◌}
use native.Mathlib.Omega.{arith}
use native.Mathlib.Decide.{dec_le, ℕ_discrete}
use mathlib.Core.Bool.{Bool, true, false}
use mathlib.Core.Path.{◌≡◌, refl, ap, sym, ◌∙◌, subst}
use mathlib.Core.Logic.{◌⊎◌, inl, inr, ⊎_elim}
use mathlib.Core.Option.{none, some}
use mathlib.Core.List.{List, ◌∷◌, Memᴰ}
use lib.ListN.{length, get_or}
use lib.Seq.{get_or-set_same, get_or-set_other}
use lib.Dec.{ltb}
use borrow.Author.Tests.{ltb-true, ltb-false}
use Rattle.quorum.specs.Quorum.{Among}
use Rattle.quorum.proofs.Logic.{impossible}
use Rattle.area.specs.Area.{pick}
use Rattle.blocks.specs.declared.Params.{Params}
use Rattle.frame.specs.declared.Stamp.{Stamp}
use Rattle.frame.specs.Chunks.{entry_at, store_entry, rows_bytes, place_at}
use Rattle.frame.specs.Messages.{Entry, Sized}
use Rattle.frame.specs.Stamps.{older, zero_stamp}
use Rattle.frame.proofs.Chunks.{entry_same, entry_other}
use Rattle.frame.proofs.Sizes.{Small}
use Rattle.frame.proofs.StampOrder.{AtMost, less_of, at_most_of, at_most_trans}
use Rattle.client_rules.specs.declared.Row.{Row}
use Rattle.client_rules.specs.declared.Client.{Client}
use Rattle.client_rules.specs.Rows.{used, Kept, places_from, row_view, smallest, place_for, row_with}
use Rattle.client_rules.specs.WellFormed.{Bounds}
use Rattle.client_rules.specs.State.{no_row, row_of, with_row}

-- eleven rows, of four places each
pub record Shaped (l : List Row) : Type 0 where
  pub rows_many : length l ≡ 11
  pub stamps_many : (j : ℕ) → j ≤ 10 → length (get_or l j no_row).stamps ≡ 4

-- of a client that calls find: eleven flags and times of servers, and such rows
abbrev pub shapes : Bounds
shapes = record { number = λ q. Unit {0}; heard = λ l. length l ≡ 11; times = λ l. length l ≡ 11; rows = Shaped }

-- what is at place i of server j's row
abbrev pub placed : Params → List ℕ → ℕ → Row → ℕ → Kept
placed g a j r i = record { stamp = get_or r.stamps i zero_stamp; entry = entry_at g a (place_at j i) }

pub record Placed (g : Params) (a : List ℕ) (j : ℕ) (r : Row) (i m : ℕ) (k : Kept) : Type 0 where
  pub at : ℕ
  pub low : i ≤ at
  pub high : at < i + m
  pub is : k ≡ placed g a j r at

pub placed_of : (g : Params) (a : List ℕ) (j : ℕ) (r : Row) (i m : ℕ) (k : Kept) → Memᴰ k (places_from g a j r i m) → Placed g a j r i m k
unfolding places_from
placed_of g a j r i zero k h = absurd (mathlib.Core.List.Memᴰ.not-nil h)
placed_of g a j r i (suc m) k h = ⊎_elim
    (λ e. record { at = i; low = omega arith; high = omega arith; is = e })
    (λ t.
    let w = placed_of g a j r (suc i) m k t in
    record { at = w.at; low = omega (arith, w.low); high = omega (arith, w.high); is = w.is })
    (mathlib.Core.List.Memᴰ.cases_cons h)

pub of_placed : (g : Params) (a : List ℕ) (j : ℕ) (r : Row) (i m p : ℕ) → i ≤ p → p < i + m → Memᴰ (placed g a j r p) (places_from g a j r i m)
unfolding places_from
of_placed g a j r i zero p lo hi = absurd (omega arith)
of_placed g a j r i (suc m) p lo hi = go (λ l. of_placed g a j r (suc i) m p l (omega arith)) (dec_le (suc i) p)
  where
    go : (suc i ≤ p → Memᴰ (placed g a j r p) (places_from g a j r (suc i) m)) → Dec (suc i ≤ p)
        → Memᴰ (placed g a j r p) (placed g a j r i ∷ places_from g a j r (suc i) m)
    go f (yes l) = mathlib.Core.List.Memᴰ.tail (f l)
    go f (no l) = let e : p ≡ i = omega (arith, l) in mathlib.Core.List.Memᴰ.head (ap (placed g a j r) e)

-- ---- where a new stamp goes

pub smallest_le : (l : List Stamp) (m : ℕ) → smallest l m ≤ m
unfolding smallest pick
smallest_le l zero = omega arith
smallest_le l (suc m) = go (smallest_le l m) (older (get_or l (suc m) zero_stamp) (get_or l (smallest l m) zero_stamp))
  where
    go : smallest l m ≤ m → (b : Bool) → pick b (suc m) (smallest l m) ≤ suc m
    go h true = omega arith
    go h false = omega arith

pub smallest_least : (l : List Stamp) (m p : ℕ) → p ≤ m → AtMost (get_or l (smallest l m) zero_stamp) (get_or l p zero_stamp)
unfolding smallest pick
smallest_least l zero p h = let e : 0 ≡ p = omega arith in inl (ap (λ i. get_or l i zero_stamp) e)
smallest_least l (suc m) p h = go (ℕ_discrete p (suc m)) (older (get_or l (suc m) zero_stamp) (get_or l (smallest l m) zero_stamp)) refl (smallest_least l m p)
  where
    go : Dec (p ≡ suc m) → (b : Bool) → older (get_or l (suc m) zero_stamp) (get_or l (smallest l m) zero_stamp) ≡ b
        → (p ≤ m → AtMost (get_or l (smallest l m) zero_stamp) (get_or l p zero_stamp))
        → AtMost (get_or l (pick b (suc m) (smallest l m)) zero_stamp) (get_or l p zero_stamp)
    go (yes e) true q f = inl (ap (λ i. get_or l i zero_stamp) (sym e))
    go (yes e) false q f = rw e (at_most_of (get_or l (smallest l m) zero_stamp) (get_or l (suc m) zero_stamp) q)
    go (no e) true q f =
        at_most_trans (get_or l (suc m) zero_stamp) (get_or l (smallest l m) zero_stamp) (get_or l p zero_stamp)
        (inr (less_of (get_or l (suc m) zero_stamp) (get_or l (smallest l m) zero_stamp) q)) (f (omega (arith, e)))
    go (no e) false q f = f (omega (arith, e))

pub record Goes (r : Row) (i : ℕ) : Type 0 where
  pub small : i < 4
  pub either : ((r.count < 4) × (i ≡ r.count)) ⊎ (4 ≤ r.count)

place_why : (r : Row) (x : Stamp) (b d : Bool) (i : ℕ) → ltb r.count 4 ≡ b
    → pick b (some r.count) (pick d (some (smallest r.stamps 3)) none) ≡ some i → Goes r i
unfolding pick
place_why r x true d i e q =
    let w : r.count ≡ i = cc in
    record { small = omega (arith, ltb-true r.count 4 e); either = inl (ltb-true r.count 4 e, sym w) }
place_why r x false true i e q =
    let w : smallest r.stamps 3 ≡ i = cc in
    record { small = omega (arith, smallest_le r.stamps 3); either = inr (ltb-false r.count 4 e) }
place_why r x false false i e q = impossible (cc)

pub goes : (r : Row) (x : Stamp) (i : ℕ) → place_for r x ≡ some i → Goes r i
unfolding place_for
goes r x i q = place_why r x (ltb r.count 4) _ i refl q

count_why : (r : Row) (i : ℕ) → Goes r i → (b : Bool) → ltb r.count 4 ≡ b → (p : ℕ) → p < pick b (r.count + 1) r.count → (p ≡ i → ⊥) → p < r.count
unfolding pick
count_why r i G true e p h ne = ⊎_elim (λ w. omega (arith, w.1, ne)) (λ w. absurd (omega (arith, ltb-true r.count 4 e))) G.either
count_why r i G false e p h ne = h

-- server j's row gets a stamp: the other rows stay, and so do the other places of that row
pub other_row : (s : Client) (j i : ℕ) (x : Stamp) (m : ℕ) → (m ≡ j → ⊥) → row_of (with_row s j (row_with (row_of s j) i x)) m ≡ row_of s m
other_row s j i x m ne = get_or-set_other s.rows j m (row_with (row_of s j) i x) no_row ne

pub place_stays : (g : Params) → Small g → (a : List ℕ) (j : ℕ) (r : Row) (x : Stamp) (e : Entry) → Sized g e → (i p : ℕ) → (p ≡ i → ⊥)
    → placed g (store_entry a (place_at j i) e) j (row_with r i x) p ≡ placed g a j r p
place_stays g M a j r x e Q i p ne =
    let u = get_or-set_other r.stamps i p x zero_stamp ne in
    let q = entry_other g M a (place_at j i) e Q (place_at j p) (λ z. ne (omega arith)) in
    λ d. record { stamp = u d; entry = q d }

module _ (g : Params) (M : Small g) (s : Client) (S : Shaped s.rows) (a : List ℕ) (room : rows_bytes ≤ length a) (j : ℕ) (at : Among 10 j)
    (x : Stamp) (e : Entry) (Q : Sized g e) (i : ℕ) (G : Goes (row_of s j) i) where
  abbrev next : Client
  next = with_row s j (row_with (row_of s j) i x)

  abbrev area : List ℕ
  area = store_entry a (place_at j i) e

  this_row : row_of next j ≡ row_with (row_of s j) i x
  this_row = get_or-set_same s.rows j (row_with (row_of s j) i x) no_row (omega (arith, S.rows_many))

  at_new : placed g area j (row_with (row_of s j) i x) i ≡ record { stamp = x; entry = e }
  at_new =
      let p = get_or-set_same (row_of s j).stamps i x zero_stamp (omega (arith, G.small, S.stamps_many j at.1)) in
      let q = entry_same g M a (place_at j i) e Q (omega (arith, G.small)) in
      λ d. record { stamp = p d; entry = q d }

  in_this : (k : Kept) → Memᴰ k (places_from g area j (row_with (row_of s j) i x) 0 (used (row_with (row_of s j) i x)))
      → (k ≡ record { stamp = x; entry = e }) ⊎ Memᴰ k (places_from g a j (row_of s j) 0 (used (row_of s j)))
  in_this k h =
      let w = placed_of g area j (row_with (row_of s j) i x) 0 (used (row_with (row_of s j) i x)) k h in
      go w (ℕ_discrete w.at i)
    where
      go : (w : Placed g area j (row_with (row_of s j) i x) 0 (used (row_with (row_of s j) i x)) k) → Dec (w.at ≡ i)
          → (k ≡ record { stamp = x; entry = e }) ⊎ Memᴰ k (places_from g a j (row_of s j) 0 (used (row_of s j)))
      go w (yes z) = inl (w.is ∙ ap (placed g area j (row_with (row_of s j) i x)) z ∙ at_new)
      go w (no z) =
          let c = count_why (row_of s j) i G (ltb (row_of s j).count 4) refl w.at (omega (arith, w.high)) z in
          let l : w.at < used (row_of s j) = omega (arith, w.high, c) in
          inr (rw (w.is, place_stays g M a j (row_of s j) x e Q i w.at z)
          (of_placed g a j (row_of s j) 0 (used (row_of s j)) w.at (omega arith) (omega arith)))

  in_other : (m : ℕ) → 1 ≤ m → (m ≡ j → ⊥) → (k : Kept) → Memᴰ k (places_from g area m (row_of s m) 0 (used (row_of s m)))
      → Memᴰ k (places_from g a m (row_of s m) 0 (used (row_of s m)))
  in_other m h ne k u =
      let w = placed_of g area m (row_of s m) 0 (used (row_of s m)) k u in
      let q = entry_other g M a (place_at j i) e Q (place_at m w.at) (λ z. ne (omega (arith, w.high, G.small))) in
      let v : k ≡ placed g a m (row_of s m) w.at = w.is ∙ (λ d. record { stamp = get_or (row_of s m).stamps w.at zero_stamp; entry = q d }) in
      rw v (of_placed g a m (row_of s m) 0 (used (row_of s m)) w.at (omega arith) (omega (arith, w.high)))

  -- what a row holds afterwards was there, or is the new value
  pub row_kept : (m : ℕ) → 1 ≤ m → (k : Kept) → Memᴰ k (row_view g next area m)
      → ((m ≡ j) × (k ≡ record { stamp = x; entry = e })) ⊎ Memᴰ k (row_view g s a m)
  unfolding row_view
  row_kept m h k u = go (ℕ_discrete m j)
    where
      go : Dec (m ≡ j) → ((m ≡ j) × (k ≡ record { stamp = x; entry = e })) ⊎ Memᴰ k (places_from g a m (row_of s m) 0 (used (row_of s m)))
      go (yes z) =
          let v : Memᴰ k (places_from g area j (row_of next j) 0 (used (row_of next j))) =
          subst (λ y. Memᴰ k (places_from g area y (row_of next y) 0 (used (row_of next y)))) z u in
          ⊎_elim (λ w. inl (z, w)) (λ w. inr (rw z w))
          (in_this k (subst (λ r. Memᴰ k (places_from g area j r 0 (used r))) this_row v))
      go (no z) = inr (in_other m h z k (subst (λ r. Memᴰ k (places_from g area m r 0 (used r))) (other_row s j i x m z) u))
