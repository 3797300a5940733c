-- After j turns the k lowest flagged servers of 1 to j are stored, c of them. Assumes nothing.
use Prim.Native.Nat.{◌≤◌}
use mathlib.Core.Path.{◌≡◌}
use lib.ListN.{length}
use lib.Seq.{sets}
use Rattle.group.specs.Entries.{marked}
use Rattle.group.specs.Choice.{lowest}
use Rattle.group.proofs.decoding.choose.Given as goal

abbrev pub invariant-loop-j : goal.invariant-loop-j
invariant-loop-j l = (l.numbers ≡ sets l.initial.numbers 0 (lowest (marked l.on) l.k l.j)) × (l.c ≡ length (lowest (marked l.on) l.k l.j)) × (l.c ≤ l.k)
