-- The rows of an open read: "The client keeps for each server the 4 largest stamps received, dropping the smallest, be it the new one; then the
-- search of the rows stops at the first stamp and digest list found in n - t of them." These are definitions.
use Rattle.std.specs.Prelude.{ℕ, zero, suc, ◌+◌, min, Bool, true, false, ◌||◌, List, [], ◌∷◌, ◌++◌, get_or, set, leb, ltb}
use Rattle.std.proofs.Math.Option.{Option, none, some}
use Rattle.quorum.specs.Quorum.{count}
use Rattle.area.specs.Area.{pick}
use Rattle.blocks.specs.declared.Params.{Params}
use Rattle.frame.specs.declared.Stamp.{Stamp}
use Rattle.frame.specs.Stamps.{older, same_stamp, zero_stamp}
use Rattle.frame.specs.Messages.{Entry}
use Rattle.frame.specs.Chunks.{entry_at, place_at}
use Rattle.group_rules.specs.Coded.{has_list, decoded}
use Rattle.client_rules.specs.declared.Row.{Row}
use Rattle.client_rules.specs.declared.Client.{Client}
use Rattle.client_rules.specs.State.{row_of}

-- ---- the rows as a client shows them

-- a stamp with a digest list and a block
pub record Kept : Type 0 where
  pub stamp : Stamp
  pub entry : Entry

-- A row has four places. A record that no run makes may say more, and then has four.
abbrev pub used : Row → ℕ
used r = min r.count 4

-- places i to i + m - 1 of server j's row, whose entries lie in the area a
unfoldable pub places_from : Params → List ℕ → ℕ → Row → ℕ → ℕ → List Kept
places_from g a j r i zero = []
places_from g a j r i (suc m) = record { stamp = get_or r.stamps i zero_stamp; entry = entry_at g a (place_at j i) } ∷ places_from g a j r (suc i) m

-- server j's row, in the order of its places
unfoldable pub row_view : Params → Client → List ℕ → ℕ → List Kept
row_view g s a j = places_from g a j (row_of s j) 0 (used (row_of s j))

-- ---- keeping a value

-- whether x is among the first m stamps of a list
unfoldable pub has_stamp : List Stamp → ℕ → Stamp → Bool
has_stamp l zero x = false
has_stamp l (suc m) x = same_stamp (get_or l m zero_stamp) x || has_stamp l m x

-- the place of the smallest of the first m + 1 stamps
unfoldable pub smallest : List Stamp → ℕ → ℕ
smallest l zero = 0
smallest l (suc m) = pick (older (get_or l (suc m) zero_stamp) (get_or l (smallest l m) zero_stamp)) (suc m) (smallest l m)

-- where a new stamp goes: after the others, in place of the smallest of four, or nowhere
unfoldable pub place_for : Row → Stamp → Option ℕ
place_for r x =
    pick (ltb r.count 4) (some r.count)
    (pick (older (get_or r.stamps (smallest r.stamps 3) zero_stamp) x) (some (smallest r.stamps 3))
    none)

abbrev pub row_with : Row → ℕ → Stamp → Row
row_with r i x = record { count = pick (ltb r.count 4) (r.count + 1) r.count; stamps = set r.stamps i x }

-- ---- the search

-- what a row has at a stamp
unfoldable pub at_stamp : List Kept → Stamp → Option Entry
at_stamp [] x = none
at_stamp (k ∷ l) x = pick (same_stamp k.stamp x) (some k.entry) (at_stamp l x)

-- the rows f j to f (j + m - 1), one after the other
unfoldable pub rows_from : (ℕ → List Kept) → ℕ → ℕ → List Kept
rows_from f j zero = []
rows_from f j (suc m) = f j ++ rows_from f (suc j) m

-- where the search stopped, and the value, if the blocks found there agree
pub record Found : Type 0 where
  pub stamp : Stamp
  pub digests : List ℕ
  pub bytes : Option (List ℕ)

module _ (g : Params) (f : ℕ → List Kept) where
  -- whether a stamp and digest list are in n - t rows
  unfoldable pub agreed : Kept → Bool
  agreed k = leb g.n (count (λ j. has_list (at_stamp (f j) k.stamp) k.entry.digests) g.n + g.t)

  unfoldable pub first_by : Bool → Kept → Option Kept → Option Kept
  first_by true k o = some k
  first_by false k o = o

  -- the first in a list that is agreed
  unfoldable pub first_agreed : List Kept → Option Kept
  first_agreed [] = none
  first_agreed (k ∷ l) = first_by (agreed k) k (first_agreed l)

  -- "the value is decoded", "with all blocks" of those servers (request F-7)
  unfoldable pub found_of : Kept → Found
  found_of k = record {
    stamp = k.stamp;
    digests = k.entry.digests;
    bytes = decoded g (λ j. at_stamp (f j) k.stamp) k.entry.digests;
  }

  unfoldable pub found_by : Option Kept → Option Found
  found_by none = none
  found_by (some k) = some (found_of k)

  -- rows by rising server, within a row the places in their order
  unfoldable pub search : Option Found
  search = found_by (first_agreed (rows_from f 1 g.n))
