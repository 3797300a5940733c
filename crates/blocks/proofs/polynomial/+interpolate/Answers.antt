-- No point: the zero polynomial and 1; else the points but the first, and then the first. Assumes nothing.
use mathlib.Core.Path.{◌∙◌}
use native.Mathlib.Omega.{arith}
use Rattle.blocks.proofs.Point.{Level, level, no_points}
use Rattle.blocks.proofs.polynomial.+interpolate.Goals as goal

pub returns-then-k-eq0 : goal.returns-then-k-eq0
returns-then-k-eq0 t c = no_points c.args.xs.now c.args.ys.now c.args.p.now c.args.m.now c.if-k-eq0.true (omega arith) (omega arith)

pub returns : goal.returns
unfolding Level
returns t c =
    let r = c.interpolate in
    let w = c.with_point in
    let v = level c.args.xs.now c.args.ys.now c.args.p.now c.args.m.now r.new.p r.new.m (omega (arith, c.if-k-eq0.false)) c.requires.0 c.requires.1 r.ensures.0 r.ensures.1 in
    (w.ensures.0 ∙ v.0, w.ensures.1 ∙ v.1)
