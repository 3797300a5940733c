-- The tests in their order. Assumes nothing.
use mathlib.Core.Path.{◌≡◌, ◌∙◌}
use Rattle.std.specs.Prelude.{Err}
use borrow.Author.Rules.{rules}
use Rattle.server_deliver.proofs.FreshRecords.{params_bad, length_bad, record_short, all_fine}
use Rattle.server_deliver.proofs.fresh.fresh_test.Goals as goal

pub returns-in_err-params_test : goal.returns-in_err-params_test
returns-in_err-params_test c =
    let e : c.from_residual.result ≡ Err c.in_err-params_test.field-0.0 = search rules in
    e ∙ params_bad _ _ _ _ _ c.params_test.ensures _ c.in_err-params_test.was

pub returns-then-len-g : goal.returns-then-len-g
returns-then-len-g c = length_bad _ _ _ _ _ c.params_test.ensures c.in_ok-params_test.was c.if-len-g.true

pub returns-then-state-lt-SERVER_SIZE : goal.returns-then-state-lt-SERVER_SIZE
returns-then-state-lt-SERVER_SIZE c = record_short _ _ _ _ _ c.params_test.ensures c.in_ok-params_test.was c.if-len-g.false c.if-state-lt-SERVER_SIZE.true

pub returns : goal.returns
returns c = all_fine _ _ _ _ _ c.params_test.ensures c.in_ok-params_test.was c.if-len-g.false c.if-state-lt-SERVER_SIZE.false
