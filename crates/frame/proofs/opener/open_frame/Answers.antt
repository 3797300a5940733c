use Rattle.std.specs.Prelude.{Err}
use Rattle.frame.proofs.Chain.{header_long, value_long, stop_framing, stop_header, stop_body, stop_content, opens_at_last}
use mathlib.Core.Path.{◌≡◌, ◌∙◌}
use borrow.Author.Rules.{rules}
use native.Mathlib.Omega.{arith}
use Rattle.frame.proofs.opener.open_frame.Goals as goal

pub returns-in_err-framing_test : goal.returns-in_err-framing_test
returns-in_err-framing_test c =
    let e : c.from_residual.result ≡ Err c.in_err-framing_test.field-0.0 = search rules in
    e ∙ stop_framing _ _ _ _ c.framing_test.ensures c.in_err-framing_test.was

pub header_in-h-requires : goal.header_in-h-requires
header_in-h-requires c = header_long _ _ c.framing_test.ensures c.in_ok-framing_test.was

pub bounds-f-2 : goal.bounds-f-2
bounds-f-2 c = let h = header_long _ _ c.framing_test.ensures c.in_ok-framing_test.was in omega (arith, h)

pub returns-in_err-header_test : goal.returns-in_err-header_test
returns-in_err-header_test c =
    let e : c.from_residual-in_err-header_test.result ≡ Err c.in_err-header_test.field-0.0 = search rules in
    e ∙ stop_header _ _ _ c.framing_test.ensures c.in_ok-framing_test.was _ c.header_in-h.ensures _ _ c.header_test.ensures c.in_err-header_test.was

pub body_test-requires : goal.body_test-requires
body_test-requires c = c.requires

pub returns-in_err-body_test : goal.returns-in_err-body_test
returns-in_err-body_test c =
    let e : c.from_residual-in_err-body_test.result ≡ Err c.in_err-body_test.field-0.0 = search rules in
    e ∙ stop_body _ _ _ c.framing_test.ensures c.in_ok-framing_test.was _ c.header_in-h.ensures _ c.header_test.ensures c.in_ok-header_test.was
    _ _ c.body_test.ensures c.in_err-body_test.was

pub content_test-requires : goal.content_test-requires
content_test-requires c = value_long _ _ _ _ c.body_test.ensures c.in_ok-body_test.was

pub returns-in_err-content_test : goal.returns-in_err-content_test
returns-in_err-content_test c =
    let e : c.from_residual-in_err-content_test.result ≡ Err c.in_err-content_test.field-0.0 = search rules in
    e ∙ stop_content _ _ _ c.framing_test.ensures c.in_ok-framing_test.was _ c.header_in-h.ensures _ c.header_test.ensures c.in_ok-header_test.was
    _ c.body_test.ensures c.in_ok-body_test.was _ _ c.content_test.ensures c.in_err-content_test.was

pub returns : goal.returns
returns c =
    opens_at_last _ _ _ c.framing_test.ensures c.in_ok-framing_test.was _ c.header_in-h.ensures _ c.header_test.ensures c.in_ok-header_test.was
    _ c.body_test.ensures c.in_ok-body_test.was _ c.content_test.ensures c.in_ok-content_test.was
