-- After j turns the first j servers and digests are in order, and what is left decides. Assumes nothing.
use mathlib.Core.Path.{◌≡◌}
use mathlib.Core.Bool.{◌&&◌}
use Rattle.area.specs.Area.{same}
use Rattle.sha256.specs.Hash.{digest_of}
use Rattle.group_rules.specs.Coded.{digests_of}
use Rattle.group.specs.Choice.{all_of}
use Rattle.group.proofs.Comparing.{to_compare}
use Rattle.group.proofs.digesting.agrees.Given as goal

abbrev pub invariant-loop-j : goal.invariant-loop-j
invariant-loop-j l = (all_of l.g l.on l.at l.area l.value && same (digests_of digest_of l.g l.value) l.list ≡ to_compare l.g l.at l.area l.on l.value l.list l.j)
