-- The search of the rows: what a candidate's count says, one turn of each loop, and the ends. Assumes nothing.
use Prim.Native.Nat.{ℕ, suc, ◌+◌, ◌-◌, ◌≤◌, ◌<◌}
use native.Mathlib.Omega.{arith}
use native.Mathlib.Numerals.{add-one}
use mathlib.Core.Bool.{Bool, true, false}
use mathlib.Core.Path.{◌≡◌, ap, sym, ◌∙◌}
use mathlib.Core.Option.{Option, none, some}
use mathlib.Core.List.{List, ◌++◌}
use lib.ListN.{length, get_or}
use lib.Dec.{leb}
use borrow.Author.Tests.{lt-leb}
use Rattle.quorum.specs.Quorum.{count}
use Rattle.quorum.proofs.Counting.{count_mono}
use Rattle.blocks.specs.declared.Params.{Params}
use Rattle.frame.specs.declared.Stamp.{Stamp}
use Rattle.frame.specs.Messages.{Entry}
use Rattle.frame.specs.Chunks.{chunk_bytes, chunk_at, entry_at, rows_bytes}
use Rattle.group_rules.specs.Coded.{has_list, lowest_value, agreeing}
use Rattle.group.specs.Entries.{marked, entries, sent_list, flags}
use Rattle.group.specs.Choice.{value_from, all_of}
use Rattle.group.specs.Needs.{Comparing}
use Rattle.group.proofs.Matched.{sent_flagged, count_flags, matched_count, matched_value, matched_all}
use Rattle.client_rules.specs.declared.Row.{Row}
use Rattle.client_rules.specs.State.{no_row}
use Rattle.client_rules.specs.Rows.{Kept, used, places_from, at_stamp, rows_from, agreed, first_by, first_agreed}
use Rattle.client_search.specs.declared.Hits.{Hits}
use Rattle.client_search.specs.AtStamp.{hits_of}
use Rattle.client_search.specs.Search.{view, holders_of, kept_at, Searching}
use Rattle.client_search.proofs.Firsts.{hits_within, hits_entry}

-- ---- a candidate: stamp x, and the digest list in chunk p

pub comparing : (g : Params) (rows : List Row) (a : List ℕ) (x : Stamp) → Searching g (length a) → (h : Hits) → h ≡ hits_of rows x
    → Comparing g h.at a
comparing g rows a x q h e = record { bounded = q.bounded; within = rw e (hits_within rows x a q.whole) }

pub chunk_room : (p l : ℕ) → p ≤ 39 → rows_bytes ≤ l → chunk_at p + chunk_bytes ≤ l
chunk_room p l h w = omega arith

pub holders_law : (g : Params) (a : List ℕ) (h : Hits) (p : ℕ) (list : List ℕ) (on : List Bool) → list ≡ (entry_at g a p).digests
    → on ≡ flags (sent_list g h.on h.at a list) g.n → ◌≡◌ {A = Hits} (record { on = on; at = h.at }) (holders_of g a h p)
unfolding holders_of
holders_law g a h p list on d q =
    let w = q ∙ ap (λ l. flags (sent_list g h.on h.at a l) g.n) d in
    λ i. record { on = w i; at = h.at }

module _ (g : Params) (rows : List Row) (a : List ℕ) (x : Stamp) (p : ℕ) (q : Searching g (length a)) where
  -- what row j has at the stamp, and how many have it with the list
  abbrev at_row : ℕ → Option Entry
  at_row j = at_stamp (view g rows a j) x

  abbrev with_list : ℕ
  with_list = count (λ j. has_list (at_row j) (entry_at g a p).digests) g.n

  agree : (j : ℕ) → 1 ≤ j → j ≤ g.n → entries g (hits_of rows x).on (hits_of rows x).at a j ≡ at_row j
  agree j low high = hits_entry rows x g a j low (omega (arith, high, q.bounded.servers_high))

  pub holders_count : count (marked (holders_of g a (hits_of rows x) p).on) g.n ≡ with_list
  unfolding holders_of
  holders_count = matched_count g (hits_of rows x).on (hits_of rows x).at a (entry_at g a p).digests at_row agree q.bounded.servers_high

  -- the value that the k lowest of those servers give, and whether all have its blocks
  pub holders_value : value_from g (holders_of g a (hits_of rows x) p).on (holders_of g a (hits_of rows x) p).at a ≡ lowest_value g at_row (entry_at g a p).digests
  unfolding holders_of
  holders_value =
      matched_value g (hits_of rows x).on (hits_of rows x).at a (entry_at g a p).digests at_row agree q.bounded.servers_high q.bounded
      (hits_within rows x a q.whole)

  pub holders_all : all_of g (holders_of g a (hits_of rows x) p).on (holders_of g a (hits_of rows x) p).at a
      (value_from g (holders_of g a (hits_of rows x) p).on (holders_of g a (hits_of rows x) p).at a) ≡ agreeing g at_row (entry_at g a p).digests
  unfolding holders_of
  holders_all =
      matched_all g (hits_of rows x).on (hits_of rows x).at a (entry_at g a p).digests at_row agree q.bounded.servers_high q.bounded
      (hits_within rows x a q.whole)

  -- at most as many as have the stamp
  with_list_le : with_list ≤ count (marked (hits_of rows x).on) g.n
  unfolding holders_of
  with_list_le =
      let on = (hits_of rows x).on in
      let at = (hits_of rows x).at in
      let d = (entry_at g a p).digests in
      let e : with_list ≡ count (sent_list g on at a d) g.n = sym holders_count ∙ count_flags (sent_list g on at a d) g.n q.bounded.servers_high in
      let l = count_mono (sent_list g on at a d) (marked on) g.n (λ j h. sent_flagged g on at a d j) in
      omega (arith, e, l)

  module _ (h : Hits) (e : h ≡ hits_of rows x) (c : ℕ) where
    -- too few rows have the stamp
    pub agreed_few : c ≡ count (marked h.on) g.n → c + g.t < g.n
        → false ≡ agreed g (view g rows a) (record { stamp = x; entry = entry_at g a p })
    unfolding agreed
    agreed_few d o =
        let f : c ≡ count (marked (hits_of rows x).on) g.n = d ∙ ap (λ (k : Hits). count (marked k.on) g.n) e in
        let n : with_list + g.t < g.n = omega (arith, with_list_le) in
        sym (lt-leb g.n (with_list + g.t) n)

    pub agreed_law : (k : Hits) → k ≡ holders_of g a h p → c ≡ count (marked k.on) g.n
        → leb g.n (c + g.t) ≡ agreed g (view g rows a) (record { stamp = x; entry = entry_at g a p })
    unfolding agreed
    agreed_law k u d =
        let w : k ≡ holders_of g a (hits_of rows x) p = u ∙ ap (λ z. holders_of g a z p) e in
        let f : c ≡ with_list = d ∙ ap (λ (z : Hits). count (marked z.on) g.n) w ∙ holders_count in
        ap (λ m. leb g.n (m + g.t)) f

-- ---- the loops

module _ (g : Params) (rows : List Row) (a : List ℕ) where
  abbrev first : List Kept → Option Kept
  first l = first_agreed g (view g rows a) l

  -- the places from i on of the first m of server j's row, and then l
  abbrev places : ℕ → ℕ → ℕ → List Kept → List Kept
  places j i m l = places_from g a j (get_or rows j no_row) i (m - i) ++ l

  -- the rows from server j on
  abbrev pub rest : ℕ → List Kept
  rest j = rows_from (view g rows a) j (g.n + 1 - j)

  pub rows_start : first (rows_from (view g rows a) 1 g.n) ≡ first (rest 1)
  rows_start = let e : g.n ≡ g.n + 1 - 1 = omega arith in ap (λ m. first (rows_from (view g rows a) 1 m)) e

  pub rows_end : (j : ℕ) → g.n + 1 ≤ j → first (rest j) ≡ none
  unfolding rows_from first_agreed
  rows_end j h = let e : g.n + 1 - j ≡ 0 = omega arith in rw e

  pub row_start : (j m : ℕ) → j < g.n + 1 → m ≡ used (get_or rows j no_row) → first (rest j) ≡ first (places j 0 m (rest (j + 1)))
  unfolding rows_from
  row_start j m h e =
      let d : g.n + 1 - j ≡ suc (g.n + 1 - (j + 1)) = omega arith in
      let z : m - 0 ≡ used (get_or rows j no_row) = omega arith in
      rw d (rw (z, add-one j))

  pub row_end : (j i m : ℕ) (l : List Kept) → m ≤ i → first (places j i m l) ≡ first l
  unfolding places_from
  row_end j i m l h = let e : m - i ≡ 0 = omega arith in rw e

  module _ (j i m : ℕ) (l : List Kept) (b : Bool) (h : i < m) (p : b ≡ agreed g (view g rows a) (kept_at g rows a j i)) where
    open_place : first (places j i m l) ≡ first_by g (view g rows a) b (kept_at g rows a j i) (first (places j (i + 1) m l))
    unfolding places_from first_agreed
    open_place =
        let e : m - i ≡ suc (m - (i + 1)) = omega arith in
        rw e (rw (p, add-one i))

    pub place_next : b ≡ false → first (places j i m l) ≡ first (places j (i + 1) m l)
    unfolding first_by
    place_next q = open_place ∙ rw q

    pub place_found : b ≡ true → first (places j i m l) ≡ some (kept_at g rows a j i)
    unfolding first_by
    place_found q = open_place ∙ rw q
