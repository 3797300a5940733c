-- The lines read so far and those that are left give what is read of the whole text. Assumes nothing.
use mathlib.Core.Path.{◌≡◌}
use Prim.Native.Nat.{ℕ, ◌-◌, ◌≤◌}
use lib.ListN.{length, drop}
use Rattle.history_text.specs.Lines.{lines_of}
use Rattle.history_text.specs.ReadLines.{lines_read}
use Rattle.history_text.specs.Readings.{reading_of}
use Rattle.history_text.proofs.Readings.{final}
use Rattle.history_text.proofs.text.read_text.Given as goal

abbrev pub invariant-loop-at : goal.invariant-loop-at
invariant-loop-at l =
    (l.at ≤ length l.s) × ((n : ℕ) × (length l.s - l.at ≤ n) × (final l.history (lines_read n (drop l.at l.s)) ≡ reading_of (lines_of l.s)))

abbrev pub decreases-loop-at : goal.decreases-loop-at
decreases-loop-at l = length l.s - l.at
