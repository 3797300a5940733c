-- The places before i have other stamps. Assumes nothing.
use native.Mathlib.Nat.{sub-zero}
use mathlib.Core.Path.{◌≡◌, refl, sym, ◌∙◌}
use Rattle.client_search.proofs.Firsts.{first_next, first_found, first_end}
use native.Mathlib.Omega.{arith}
use Rattle.client_search.proofs.at_stamp.first_place.Goals as goal

pub loop-i-init : goal.loop-i-init
loop-i-init c = rw sub-zero refl

pub returns-then-is_same : goal.returns-then-is_same
returns-then-is_same c =
    let l = c.loop-i in
    (sym (l.invariant ∙ first_found _ _ _ _ _ c.loop-i-test.true c.is_same.ensures c.if-is_same.true), omega arith)

pub loop-i-preserved : goal.loop-i-preserved
loop-i-preserved c = c.loop-i.invariant ∙ first_next _ _ _ _ _ c.loop-i-test.true c.is_same.ensures c.if-is_same.false

pub returns : goal.returns
returns c =
    let e : c.loop-i.i ≡ c.args.m = omega arith in
    (sym (c.loop-i.invariant ∙ first_end _ _ _ _ (omega arith) ∙ e), omega arith)
