-- After j turns the first j digests are stored. Assumes nothing.
use mathlib.Core.Path.{refl, ◌∙◌}
use Rattle.area.specs.Area.{joined}
use Rattle.group_rules.specs.Coded.{digests_of}
use Rattle.group.proofs.Digests.{block_digests, joined_turn, joined_end}
use native.Mathlib.Omega.{arith}
use Rattle.group.proofs.digesting.digests.Goals as goal

pub loop-j-init : goal.loop-j-init
unfolding joined
loop-j-init c = (refl, refl)

pub loop-j-preserved : goal.loop-j-preserved
loop-j-preserved c =
    let inv = c.loop-j.invariant in
    let p = c.put in
    (p.ensures ∙ joined_turn _ (block_digests _ _) _ _ _ _ _ inv.0 c.block_digest-d.ensures, omega arith)

pub returns : goal.returns
unfolding digests_of
returns c = joined_end _ (block_digests _ _) _ _ _ _ _ (omega arith) (omega arith) c.loop-j.invariant.0
