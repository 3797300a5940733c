-- After j turns the first j servers are in order, and what is left decides. Assumes nothing.
use mathlib.Core.Path.{◌≡◌}
use Rattle.group.specs.Choice.{all_of}
use Rattle.group.proofs.Unanimous.{left}
use Rattle.group.proofs.decoding.all_of.Given as goal

abbrev pub invariant-loop-j : goal.invariant-loop-j
invariant-loop-j l = (all_of l.g l.on l.at l.area l.value ≡ left l.g l.at l.area l.on l.value l.j)
