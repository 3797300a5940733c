-- After j turns the first 4j rounds of x are done. Assumes nothing.
use Rattle.std.proofs.Common.{◌≡◌, refl, ◌∙◌, arith}
use Rattle.sha256.proofs.Turns.{four_turn}
use Rattle.sha256.specs.Hash.{rounds}
use Rattle.sha256.proofs.State.rounds.Goals as goal

pub loop-j-init : goal.loop-j-init
unfolding rounds
loop-j-init c = refl

pub loop-j-preserved : goal.loop-j-preserved
loop-j-preserved c = four_turn _ _ _ _ _ c.loop-j.invariant c.four_rounds-x.ensures

pub returns : goal.returns
returns c = c.loop-j.invariant ∙ (let e : c.loop-j.j ≡ 16 = omega arith in rw e)
