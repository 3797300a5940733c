-- After each turn, storing the digits that are left in the columns that are left would still give the whole number. Assumes nothing.
use mathlib.Core.Path.{◌≡◌}
use Prim.Native.Nat.{◌≤◌}
use lib.ListN.{length}
use lib.Seq.{sets}
use Rattle.history_text.specs.Decimals.{decimal}
use Rattle.history_sheet.specs.Sheet.{aligned}
use Rattle.history_sheet.proofs.number.put_number.Given as goal

abbrev pub invariant-loop-x : goal.invariant-loop-x
invariant-loop-x l =
    (1 ≤ l.k) × (l.k ≤ l.w) × (l.x ≤ l.n) × (length l.out ≡ length l.initial.out) × (length (decimal l.x) ≤ l.k)
    × (sets l.out l.at (aligned l.k (decimal l.x)) ≡ sets l.initial.out l.at (aligned l.w (decimal l.n)))

abbrev pub decreases-loop-x : goal.decreases-loop-x
decreases-loop-x l = l.x
