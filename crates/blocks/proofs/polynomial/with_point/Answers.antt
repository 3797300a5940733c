use mathlib.Core.Path.{◌∙◌}
use native.Mathlib.Omega.{arith}
use lib.ListN.{length, length-set, length-take, take}
use Rattle.blocks.proofs.Point.{step_front, root_front}
use Rattle.blocks.proofs.polynomial.with_point.Goals as goal

pub slice_bounds-newton_step-end-2 : goal.slice_bounds-newton_step-end-2
slice_bounds-newton_step-end-2 c = simp length-take (omega arith)

pub newton_step-requires : goal.newton_step-requires
newton_step-requires c = simp (length-set, length-take) (omega arith)

pub with_root-requires : goal.with_root-requires
with_root-requires c = simp length-set (omega arith)

pub shape_of-p : goal.shape_of-p
shape_of-p c = c.newton_step.auto.p ∙ simp length-set

pub shape_of-m : goal.shape_of-m
shape_of-m c = c.with_root.auto.m ∙ simp length-set

pub returns : goal.returns
returns c = (
  c.newton_step.ensures
      ∙ step_front c.args.p.now (take (length c.args.p.now) c.args.m.now) _ _ c.requires.0 (simp length-take (omega arith)),
  c.with_root.ensures ∙ root_front c.args.m.now _ (length c.args.p.now) c.requires.1,
)
