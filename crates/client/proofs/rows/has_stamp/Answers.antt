-- After i turns the stamp was not found among the first i. Assumes nothing.
use mathlib.Core.Path.{◌≡◌, refl, sym, ap, ◌∙◌}
use native.Mathlib.Omega.{arith}
use Rattle.client_rules.specs.Rows.{has_stamp}
use Rattle.client.proofs.RowLaws.{has_found, has_next}
use Rattle.client.proofs.rows.has_stamp.Goals as goal

pub loop-i-init : goal.loop-i-init
unfolding has_stamp
loop-i-init c = refl

pub returns-then-is_same : goal.returns-then-is_same
returns-then-is_same c = has_found _ _ _ _ c.loop-i-test.true (sym c.is_same.ensures ∙ c.if-is_same.true)

pub loop-i-preserved : goal.loop-i-preserved
loop-i-preserved c = has_next _ _ _ c.loop-i.invariant (sym c.is_same.ensures ∙ c.if-is_same.false)

pub returns : goal.returns
returns c = let e : c.loop-i.i ≡ c.args.m = omega arith in sym (ap (λ n. has_stamp c.args.stamps n c.args.x) (sym e) ∙ c.loop-i.invariant)
