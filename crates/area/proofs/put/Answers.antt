-- After j turns the first j bytes of src are stored. Assumes nothing.
use mathlib.Core.Path.{refl, ◌∙◌}
use lib.ListN.{length-set}
use lib.Seq.{take_all}
use Rattle.area.proofs.Sets.{sets_more}
use native.Mathlib.Omega.{arith}
use borrow.Author.Rules.{rules}
use Rattle.area.proofs.put.Goals as goal

pub loop-j-init : goal.loop-j-init
loop-j-init c = (refl, omega arith, refl)

pub bounds-area-at : goal.bounds-area-at
bounds-area-at c = omega arith

pub loop-j-preserved : goal.loop-j-preserved
loop-j-preserved c = (rw c.loop-j.invariant.0 (sets_more _ _ _ _ c.loop-j-test.true), omega arith, simp length-set (search rules))

pub returns : goal.returns
returns c = c.loop-j.invariant.0 ∙ rw (take_all _ _ c.loop-j-test.false)
