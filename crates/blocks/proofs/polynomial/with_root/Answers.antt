-- Before the turn of coefficient i - 1 those from i on are the product's. Assumes nothing.
use mathlib.Core.Path.{◌≡◌, sym, ap, ◌∙◌}
use native.Mathlib.Omega.{arith}
use Rattle.area.proofs.Fills.{mixed, mixed_end}
use Rattle.blocks.proofs.Turns.{rooted, rooted_length, root_turn, root_last}
use Rattle.blocks.proofs.polynomial.with_root.Goals as goal

pub loop-i-init : goal.loop-i-init
loop-i-init c =
    (c.requires, sym (mixed_end _ _ _ (sym (rooted_length c.args.x c.args.m.now)) (omega (arith, rooted_length c.args.x c.args.m.now))))

pub loop-i-preserved : goal.loop-i-preserved
loop-i-preserved c = (omega arith, root_turn _ _ _ c.loop-i.i _ _ (omega arith) (omega arith) (omega arith) c.loop-i.invariant.1 c.product.ensures)

pub returns : goal.returns
unfolding rooted
returns c =
    let z : c.loop-i.i ≡ 1 = omega arith in
    root_last _ _ _ _ c.requires (c.loop-i.invariant.1 ∙ ap (mixed c.args.m.now (rooted c.args.x c.args.m.now)) z) c.product-2.ensures
