use mathlib.Core.Path.{◌≡◌}
use Prim.Native.Nat.{◌+◌, ◌≤◌}
use lib.ListN.{drop}
use Rattle.history_text.specs.ReadNumbers.{digits_of}
use Rattle.history_text.proofs.number.read_digits.Given as goal

abbrev pub invariant-loop-used : goal.invariant-loop-used
invariant-loop-used l = (l.value ≤ l.limit) × (digits_of l.limit l.value l.used (drop (l.at + l.used) l.s) ≡ digits_of l.limit 0 0 (drop l.at l.s))
