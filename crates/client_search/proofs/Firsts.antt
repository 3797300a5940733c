-- The first place with a stamp, and what a row has at a stamp. Assumes nothing.
use Prim.Native.Nat.{ℕ, zero, suc, ◌+◌, ◌-◌, ◌≤◌, ◌<◌}
use native.Mathlib.Omega.{arith}
use native.Mathlib.Nat.{zero-add}
use native.Mathlib.Numerals.{add-one}
use native.Mathlib.Decide.{dec_le}
use mathlib.Core.Bool.{Bool, true, false, ◌&&◌}
use mathlib.Core.Path.{◌≡◌, refl, ap, sym, ◌∙◌}
use mathlib.Core.Option.{some}
use mathlib.Core.List.{List}
use lib.ListN.{length, get_or, get_or-eq_default}
use lib.Dec.{leb, ltb}
use borrow.Author.Tests.{le-leb, lt-leb, lt-ltb, le-ltb, ltb-true}
use Rattle.area.specs.Area.{pick, kept, table}
use Rattle.area.proofs.Tests.{and_right}
use Rattle.area.proofs.Fills.{get_d_table, length_table}
use Rattle.blocks.specs.declared.Params.{Params}
use Rattle.frame.specs.declared.Stamp.{Stamp}
use Rattle.frame.specs.Stamps.{same_stamp, zero_stamp}
use Rattle.frame.specs.Chunks.{chunk_bytes, entry_at, place_at, chunk_at, rows_bytes}
use Rattle.group.specs.Entries.{marked, entries, Within}
use Rattle.client_rules.specs.declared.Row.{Row}
use Rattle.client_rules.specs.State.{no_row}
use Rattle.client_rules.specs.Rows.{used, places_from, at_stamp}
use Rattle.std.specs.Prelude.{Option, Some, None, is_some, unwrap_or}
use Rattle.client_search.specs.declared.Hits.{Hits}
use Rattle.client_search.specs.AtStamp.{first_from, first_in, hit_at, hits_of}

-- ---- a turn of the loop over the places, and its two ends

module _ (l : List Stamp) (x : Stamp) (i m : ℕ) where
  module _ (b : Bool) (h : i < m) (p : b ≡ same_stamp (get_or l i zero_stamp) x) where
    pub first_next : b ≡ false → first_from l i (m - i) x ≡ first_from l (i + 1) (m - (i + 1)) x
    unfolding first_from pick
    first_next q =
        let e : m - i ≡ suc (m - (i + 1)) = omega arith in
        let z : same_stamp (get_or l i zero_stamp) x ≡ false = sym p ∙ q in
        rw e (rw (z, add-one))

    pub first_found : b ≡ true → first_from l i (m - i) x ≡ i
    unfolding first_from pick
    first_found q =
        let e : m - i ≡ suc (m - (i + 1)) = omega arith in
        let z : same_stamp (get_or l i zero_stamp) x ≡ true = sym p ∙ q in
        rw (e, z)

  pub first_end : m ≤ i → first_from l i (m - i) x ≡ i
  unfolding first_from
  first_end h = let e : m - i ≡ 0 = omega arith in rw e

-- ---- what a row has at a stamp

abbrev no_hit : Option ℕ
no_hit = None

module _ (j : ℕ) (r : Row) (x : Stamp) where
  pub hit_zero : j < 1 → no_hit ≡ hit_at j r x
  unfolding hit_at pick
  hit_zero h = let e : leb 1 j ≡ false = lt-leb _ _ h in rw e

  module _ (low : 1 ≤ j) (m i : ℕ) (p : m ≡ used r) (q : i ≡ first_from r.stamps 0 m x) where
    in_row : i ≡ first_in r x
    in_row = q ∙ ap (λ k. first_from r.stamps 0 k x) p

    pub hit_none : m ≤ i → no_hit ≡ hit_at j r x
    unfolding hit_at pick
    hit_none h =
        let w = in_row in
        let d : used r ≤ first_in r x = omega arith in
        let e : leb 1 j ≡ true = le-leb _ _ low in
        let f : ltb (first_in r x) (used r) ≡ false = le-ltb _ _ d in
        rw (e, f)

    pub hit_some : i < m → Some (place_at j i) ≡ hit_at j r x
    unfolding hit_at pick
    hit_some h =
        let w = in_row in
        let d : first_in r x < used r = omega arith in
        let e : leb 1 j ≡ true = le-leb _ _ low in
        let f : ltb (first_in r x) (used r) ≡ true = lt-ltb _ _ d in
        rw (e, f) (λ k. Some (place_at j (w k)))

  -- its chunk is one of the 40
  pub hit_chunk : j ≤ 10 → unwrap_or (hit_at j r x) 0 ≤ 39
  unfolding hit_at pick
  hit_chunk h = go (leb 1 j && ltb (first_in r x) (used r)) refl
    where
      go : (b : Bool) → leb 1 j && ltb (first_in r x) (used r) ≡ b → unwrap_or (pick b (Some (place_at j (first_in r x))) no_hit) 0 ≤ 39
      go true e =
          let f : first_in r x < used r = ltb-true _ _ (and_right (leb 1 j) (ltb (first_in r x) (used r)) e) in
          omega arith
      go false e = omega arith

module _ (g : Params) (a : List ℕ) (j : ℕ) (r : Row) (x : Stamp) where
  at_places : (i m : ℕ)
      → at_stamp (places_from g a j r i m) x ≡ kept (ltb (first_from r.stamps i m x) (i + m)) (entry_at g a (place_at j (first_from r.stamps i m x)))
  unfolding at_stamp places_from first_from pick
  at_places i zero =
      let h : i + 0 ≤ i = omega arith in
      let e : ltb i (i + 0) ≡ false = le-ltb _ _ h in
      rw e
  at_places i (suc m) = go (same_stamp (get_or r.stamps i zero_stamp) x) (at_places (suc i) m)
    where
      go : (b : Bool)
          → at_stamp (places_from g a j r (suc i) m) x
          ≡ kept (ltb (first_from r.stamps (suc i) m x) (suc i + m)) (entry_at g a (place_at j (first_from r.stamps (suc i) m x)))
          → pick b (some (entry_at g a (place_at j i))) (at_stamp (places_from g a j r (suc i) m) x)
          ≡ kept (ltb (pick b i (first_from r.stamps (suc i) m x)) (i + suc m)) (entry_at g a (place_at j (pick b i (first_from r.stamps (suc i) m x))))
      go true h =
          let l : i < i + suc m = omega arith in
          let e : ltb i (i + suc m) ≡ true = lt-ltb _ _ l in
          rw e
      go false h =
          let e : suc i + m ≡ i + suc m = omega arith in
          h ∙ ap (λ n. kept (ltb (first_from r.stamps (suc i) m x) n) (entry_at g a (place_at j (first_from r.stamps (suc i) m x)))) e

  -- the entry of a hit is what the row has at the stamp
  pub hit_entry : 1 ≤ j → kept (is_some (hit_at j r x)) (entry_at g a (unwrap_or (hit_at j r x) 0)) ≡ at_stamp (places_from g a j r 0 (used r)) x
  unfolding hit_at pick
  hit_entry low = rw (le-leb 1 j low) (go (ltb (first_in r x) (used r)) refl)
    where
      go : (b : Bool) → ltb (first_in r x) (used r) ≡ b
          → kept (is_some (pick b (Some (place_at j (first_in r x))) no_hit))
          (entry_at g a (unwrap_or (pick b (Some (place_at j (first_in r x))) no_hit) 0))
          ≡ at_stamp (places_from g a j r 0 (used r)) x
      go true e = ap (λ c. kept c (entry_at g a (place_at j (first_in r x)))) (sym e) ∙ sym (at_places 0 (used r) ∙ rw zero-add refl)
      go false e = ap (λ c. kept c (entry_at g a (place_at j (first_in r x)))) (sym e) ∙ sym (at_places 0 (used r) ∙ rw zero-add refl)

-- ---- what all rows have

module _ (rows : List Row) (x : Stamp) where
  pub hits_law : (on : List Bool) (at : List ℕ) → on ≡ table 11 (λ j. is_some (hit_at j (get_or rows j no_row) x))
      → at ≡ table 11 (λ j. unwrap_or (hit_at j (get_or rows j no_row) x) 0) → ◌≡◌ {A = Hits} (record { on = on; at = at }) (hits_of rows x)
  unfolding hits_of
  hits_law on at p q = λ i. record { on = p i; at = q i }

  chunk_law : (j : ℕ) → j ≤ 10 → get_or (hits_of rows x).at j 0 ≡ unwrap_or (hit_at j (get_or rows j no_row) x) 0
  unfolding hits_of
  chunk_law j h = let k : j < 11 = omega arith in get_d_table 11 (λ i. unwrap_or (hit_at i (get_or rows i no_row) x) 0) j 0 k

  no_chunk : (j : ℕ) → 11 ≤ j → get_or (hits_of rows x).at j 0 ≡ 0
  unfolding hits_of
  no_chunk j h =
      let n = length_table 11 (λ i. unwrap_or (hit_at i (get_or rows i no_row) x) 0) in
      let k : length (table 11 (λ i. unwrap_or (hit_at i (get_or rows i no_row) x) 0)) ≤ j = omega arith in
      get_or-eq_default (table 11 (λ i. unwrap_or (hit_at i (get_or rows i no_row) x) 0)) 0 k

  -- every chunk lies in the rows area
  pub hits_within : (a : List ℕ) → rows_bytes ≤ length a → Within (hits_of rows x).at a
  unfolding Within
  hits_within a h j = go (dec_le j 10)
    where
      go : Dec (j ≤ 10) → chunk_at (get_or (hits_of rows x).at j 0) + chunk_bytes ≤ length a
      go (yes k) = rw (chunk_law j k) (omega (arith, hit_chunk j (get_or rows j no_row) x k))
      go (no k) = let m : 11 ≤ j = omega (arith, k) in rw (no_chunk j m) (omega arith)

  -- the entries by flags and chunks are what the rows have at the stamp
  pub hits_entry : (g : Params) (a : List ℕ) (j : ℕ) → 1 ≤ j → j ≤ 10
      → entries g (hits_of rows x).on (hits_of rows x).at a j ≡ at_stamp (places_from g a j (get_or rows j no_row) 0 (used (get_or rows j no_row))) x
  unfolding entries marked hits_of
  hits_entry g a j low h =
      let k : j < 11 = omega arith in
      let p = get_d_table 11 (λ i. is_some (hit_at i (get_or rows i no_row) x)) j false k in
      let q = get_d_table 11 (λ i. unwrap_or (hit_at i (get_or rows i no_row) x) 0) j 0 k in
      (λ i. kept (p i) (entry_at g a (q i))) ∙ hit_entry g a j (get_or rows j no_row) x low
