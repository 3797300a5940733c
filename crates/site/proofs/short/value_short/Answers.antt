-- The parameters first, then the value's length. Assumes nothing.
use Rattle.std.specs.Prelude.{Err}
use borrow.Author.Rules.{rules}
use mathlib.Core.Path.{◌≡◌, ◌∙◌, refl}
use Rattle.frame.proofs.Within.{stop_first, go_second}
use Rattle.site.specs.Short.{value_short}
use Rattle.site.proofs.short.value_short.Goals as goal

pub returns-in_err-params_test : goal.returns-in_err-params_test
unfolding value_short
returns-in_err-params_test c =
    let e : c.from_residual.result ≡ Err c.in_err-params_test.field-0.0 = search rules in
    e ∙ stop_first _ _ _ _ c.params_test.ensures c.in_err-params_test.was

pub returns-in_err-length_test : goal.returns-in_err-length_test
unfolding value_short
returns-in_err-length_test c =
    let e : c.from_residual-in_err-length_test.result ≡ Err c.in_err-length_test.field-0.0 = search rules in
    e ∙ go_second _ _ _ _ c.params_test.ensures c.in_ok-params_test.was (stop_first _ _ _ _ c.length_test.ensures c.in_err-length_test.was)

pub returns : goal.returns
unfolding value_short
returns c = go_second _ _ _ _ c.params_test.ensures c.in_ok-params_test.was (go_second _ _ _ _ c.length_test.ensures c.in_ok-length_test.was refl)
