-- The constructor's tests, one after the other. Assumes nothing.
use mathlib.Core.Path.{◌≡◌, sym, ◌∙◌}
use Rattle.std.specs.Prelude.{Err}
use borrow.Author.Rules.{rules}
use Rattle.sha256.specs.Hash.{digest_of}
use Rattle.frame.proofs.Within.{admitted_of}
use Rattle.server.proofs.Constructing.{bounds_bad, length_bad, area_short, initial_short, all_fine}
use Rattle.server.proofs.setup.construct_test.Goals as goal

pub returns-in_err-params_test : goal.returns-in_err-params_test
returns-in_err-params_test c =
    let a = c.args in
    let e : c.from_residual.result ≡ Err c.in_err-params_test.field-0.0 = search rules in
    e ∙ bounds_bad digest_of a.g a.me a.value.now _ _ _ c.params_test.ensures _ c.in_err-params_test.was

pub returns-then-value-g : goal.returns-then-value-g
returns-then-value-g c =
    let a = c.args in
    length_bad digest_of a.g a.me a.value.now _ _ _ c.params_test.ensures c.in_ok-params_test.was c.if-value-g.true

pub returns-then-area-lt-AREA_BYTES : goal.returns-then-area-lt-AREA_BYTES
returns-then-area-lt-AREA_BYTES c =
    let a = c.args in
    area_short digest_of a.g a.me a.value.now _ _ _ c.params_test.ensures c.in_ok-params_test.was c.if-value-g.false c.if-area-lt-AREA_BYTES.true

pub width-requires : goal.width-requires
width-requires c = let a = c.args in (admitted_of a.g a.me a.g.n (sym c.params_test.ensures ∙ c.in_ok-params_test.was)).bounded

pub returns-then-initial-width : goal.returns-then-initial-width
returns-then-initial-width c =
    let a = c.args in
    initial_short digest_of a.g a.me a.value.now _ _ _ c.params_test.ensures _ c.in_ok-params_test.was c.if-value-g.false c.if-area-lt-AREA_BYTES.false c.width.ensures.0 c.if-initial-width.true

pub returns : goal.returns
returns c =
    let a = c.args in
    all_fine digest_of a.g a.me a.value.now _ _ _ c.params_test.ensures _ c.in_ok-params_test.was c.if-value-g.false c.if-area-lt-AREA_BYTES.false c.width.ensures.0 c.if-initial-width.false
