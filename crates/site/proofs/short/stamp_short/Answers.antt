-- The parameters first, then the value, then the frame. Assumes nothing.
use Rattle.std.specs.Prelude.{Err}
use borrow.Author.Rules.{rules}
use mathlib.Core.Path.{◌≡◌, ◌∙◌}
use Rattle.site.proofs.ShortLaws.{bounded_by, stamp_refused, stamp_value, stamp_bad, stamp_good}
use Rattle.site.proofs.short.stamp_short.Goals as goal

pub returns-in_err-params_test : goal.returns-in_err-params_test
returns-in_err-params_test c =
    let e : c.from_residual.result ≡ Err c.in_err-params_test.field-0.0 = search rules in
    e ∙ stamp_refused _ _ _ _ _ _ c.params_test.ensures _ c.in_err-params_test.was

pub returns-in_err-value_test : goal.returns-in_err-value_test
returns-in_err-value_test c =
    let e : c.from_residual-in_err-value_test.result ≡ Err c.in_err-value_test.field-0.0 = search rules in
    e ∙ stamp_value _ _ _ _ _ _ c.params_test.ensures _ c.in_ok-params_test.was c.value_test.ensures _ c.in_err-value_test.was

pub open_frame-requires : goal.open_frame-requires
open_frame-requires c = bounded_by _ _ _ _ c.params_test.ensures c.in_ok-params_test.was

pub returns-in_err-open_frame : goal.returns-in_err-open_frame
returns-in_err-open_frame c =
    let e : c.from_residual-in_err-open_frame.result ≡ Err c.in_err-open_frame.field-0.0 = search rules in
    e ∙ stamp_bad _ _ _ _ _ _ c.params_test.ensures _ c.in_ok-params_test.was c.value_test.ensures c.in_ok-value_test.was _ c.open_frame.ensures _ c.in_err-open_frame.was

pub returns : goal.returns
returns c =
    stamp_good _ _ _ _ _ _ c.params_test.ensures _ c.in_ok-params_test.was c.value_test.ensures c.in_ok-value_test.was _ c.open_frame.ensures _
    c.in_ok-open_frame.was
