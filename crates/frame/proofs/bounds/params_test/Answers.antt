use mathlib.Core.Bool.{not}
use mathlib.Core.Path.{◌≡◌, ap, ◌∙◌}
use Rattle.std.specs.Prelude.{Err}
use borrow.Author.Rules.{rules}
use Rattle.frame.specs.Params.{params_test}
use Rattle.frame.proofs.Within.{stop_not, go_on, stop_first, go_second}
use Rattle.frame.proofs.bounds.params_test.Goals as goal

pub returns-then-not-parties_fit : goal.returns-then-not-parties_fit
unfolding params_test
returns-then-not-parties_fit c = stop_not _ _ _ _ c.parties_fit.ensures (ap not c.if-not-parties_fit.true)

pub returns-in_err-own_test : goal.returns-in_err-own_test
unfolding params_test
returns-in_err-own_test c =
    let e : c.from_residual.result ≡ Err c.in_err-own_test.field-0.0 = search rules in
    go_on _ _ _ _ _ c.parties_fit.ensures (ap not c.if-not-parties_fit.false) (e ∙ stop_first _ _ _ _ c.own_test.ensures c.in_err-own_test.was)

pub returns : goal.returns
unfolding params_test
returns c = go_on _ _ _ _ _ c.parties_fit.ensures (ap not c.if-not-parties_fit.false) (go_second _ _ _ _ c.own_test.ensures c.in_ok-own_test.was c.code_test.ensures)
