-- After j turns the flags and chunks of servers 0 to j - 1 are stored. Assumes nothing.
use Rattle.std.specs.Prelude.{is_some, unwrap_or}
use mathlib.Core.Bool.{false}
use mathlib.Core.Path.{◌≡◌}
use lib.ListN.{get_or, replicate}
use lib.Seq.{sets}
use Rattle.area.specs.Area.{table}
use Rattle.client_rules.specs.State.{no_row}
use Rattle.client_search.specs.AtStamp.{hit_at}
use Rattle.client_search.proofs.at_stamp.hits.Given as goal

abbrev pub invariant-loop-j : goal.invariant-loop-j
invariant-loop-j l =
    (l.on ≡ sets (replicate 11 false) 0 (table l.j (λ i. is_some (hit_at i (get_or l.rows i no_row) l.x))))
    × (l.at ≡ sets (replicate 11 0) 0 (table l.j (λ i. unwrap_or (hit_at i (get_or l.rows i no_row) l.x) 0)))
