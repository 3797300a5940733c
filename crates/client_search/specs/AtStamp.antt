-- What the rows of a read have at a stamp, by flags and chunks: the code's form of `at_stamp`. These are definitions.
use Rattle.std.specs.Prelude.{ℕ, zero, suc, ◌&&◌, List, get_or, leb, ltb, Option, Some, None, is_some, unwrap_or}
use Rattle.area.specs.Area.{pick, table}
use Rattle.frame.specs.declared.Stamp.{Stamp}
use Rattle.frame.specs.Stamps.{same_stamp, zero_stamp}
use Rattle.frame.specs.Chunks.{place_at}
use Rattle.client_rules.specs.declared.Row.{Row}
use Rattle.client_rules.specs.State.{no_row}
use Rattle.client_rules.specs.Rows.{used}
use Rattle.client_search.specs.declared.Hits.{Hits}

-- the first of the m places from i on with stamp x, or i + m
unfoldable pub first_from : List Stamp → ℕ → ℕ → Stamp → ℕ
first_from l i zero x = i
first_from l i (suc m) x = pick (same_stamp (get_or l i zero_stamp) x) i (first_from l (suc i) m x)

-- the same of a row
abbrev pub first_in : Row → Stamp → ℕ
first_in r x = first_from r.stamps 0 (used r) x

-- the chunk of what server j's row has at stamp x; server 0 has nothing
unfoldable pub hit_at : ℕ → Row → Stamp → Option ℕ
hit_at j r x =
    pick (leb 1 j && ltb (first_in r x) (used r))
    (Some (place_at j (first_in r x)))
    None

-- what all rows have
unfoldable pub hits_of : List Row → Stamp → Hits
hits_of rows x = record {
  on = table 11 (λ j. is_some (hit_at j (get_or rows j no_row) x));
  at = table 11 (λ j. unwrap_or (hit_at j (get_or rows j no_row) x) 0);
}
