-- Before each turn the answer is r times s to the power e. Assumes nothing.
use Rattle.field.proofs.Power.{turn_odd, turn_even, turn_none}
use mathlib.Core.Path.{◌∙◌}
use Rattle.field.proofs.Ring.{one_left}
use Rattle.field.proofs.Power.{power_byte}
use native.Mathlib.Omega.{arith}
use borrow.Author.Rules.{rules}
use Rattle.field.proofs.inverse.Goals as goal
use Rattle.field.proofs.inverse.Goals.{then-e-eq1, else-e-eq1}

pub loop-e-init : goal.loop-e-init
loop-e-init c = (one_left _ (power_byte _ 254), search rules)

pub loop-e-preserved : goal.loop-e-preserved
loop-e-preserved c =
    elim c.if-e-eq1.branch [
      | then-e-eq1 w ↦ turn_odd _ _ _ _ _ _ w.if-e-eq1.true (w.r-is ∙ w.product-r.ensures) c.product-s.ensures c.loop-e.invariant.0
      | else-e-eq1 w ↦ turn_even _ _ _ _ _ _ w.if-e-eq1.false w.r-is c.product-s.ensures c.loop-e.invariant.1 c.loop-e.invariant.0
    ]

pub returns : goal.returns
returns c = turn_none _ _ _ _ (omega arith) (omega arith) c.loop-e.invariant.0
