use Rattle.std.specs.Prelude.{Err}
use borrow.Author.Rules.{rules}
use mathlib.Core.Path.{◌≡◌, ◌∙◌}
use Rattle.frame.proofs.Within.{stop_first, go_second}
use Rattle.client.proofs.begin.ready_test.Goals as goal

pub returns-in_err-idle_test : goal.returns-in_err-idle_test
returns-in_err-idle_test c =
    let e : c.from_residual.result ≡ Err c.in_err-idle_test.field-0.0 = search rules in
    e ∙ stop_first _ _ _ _ c.idle_test.ensures c.in_err-idle_test.was

pub returns : goal.returns
returns c = go_second _ _ _ _ c.idle_test.ensures c.in_ok-idle_test.was c.closed_test.ensures
