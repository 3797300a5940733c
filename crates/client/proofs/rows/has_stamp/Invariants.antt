-- After i turns the stamp was not found among the first i. Assumes nothing.
use mathlib.Core.Path.{◌≡◌}
use mathlib.Core.Bool.{false}
use Rattle.client_rules.specs.Rows.{has_stamp}
use Rattle.client.proofs.rows.has_stamp.Given as goal

abbrev pub invariant-loop-i : goal.invariant-loop-i
invariant-loop-i l = has_stamp l.stamps l.i l.x ≡ false
