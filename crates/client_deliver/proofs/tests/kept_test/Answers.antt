-- 12 first, then 14. Assumes nothing.
use Rattle.std.specs.Prelude.{Err}
use borrow.Author.Rules.{rules}
use mathlib.Core.Path.{◌≡◌, ◌∙◌}
use Rattle.frame.proofs.Within.{stop_first, go_second}
use Rattle.client_deliver.proofs.Senders.{awaited_new}
use Rattle.client_deliver.proofs.tests.kept_test.Goals as goal

pub returns-in_err-awaited_test : goal.returns-in_err-awaited_test
returns-in_err-awaited_test c =
    let a = c.args in
    let e : c.from_residual.result ≡ Err c.in_err-awaited_test.field-0.0 = search rules in
    let o = awaited_new _ _ _ a.q a.s.reads _ _ _ _ a.x c.awaited_test.ensures c.is_reading.ensures c.has_stamp-again.ensures c.used_places.ensures.0 in
    e ∙ stop_first _ _ _ _ o c.in_err-awaited_test.was

pub returns : goal.returns
returns c =
    let a = c.args in
    let o = awaited_new _ _ _ a.q a.s.reads _ _ _ _ a.x c.awaited_test.ensures c.is_reading.ensures c.has_stamp-again.ensures c.used_places.ensures.0 in
    go_second _ _ _ _ o c.in_ok-awaited_test.was c.entry_fit.ensures
