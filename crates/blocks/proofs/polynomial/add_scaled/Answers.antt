-- After i turns the first i coefficients are those of the sum. Assumes nothing.
use mathlib.Core.Path.{sym, ◌∙◌}
use native.Mathlib.Omega.{arith}
use Rattle.area.proofs.Fills.{mixed_start, mixed_end}
use Rattle.blocks.proofs.Turns.{sum_length, sum_turn}
use Rattle.blocks.proofs.polynomial.add_scaled.Goals as goal

pub loop-i-init : goal.loop-i-init
loop-i-init c = sym (mixed_start _ _)

pub loop-i-preserved : goal.loop-i-preserved
loop-i-preserved c = sum_turn _ _ _ _ _ _ c.requires (omega arith) c.loop-i.invariant c.product.ensures

pub returns : goal.returns
returns c = c.loop-i.invariant ∙ mixed_end _ _ _ (sum_length _ _ _ c.requires) (omega arith)
