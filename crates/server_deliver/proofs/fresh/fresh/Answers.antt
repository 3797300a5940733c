-- By the tests, and then by the constructor. Assumes nothing.
use mathlib.Core.Path.{◌≡◌}
use Rattle.std.specs.Prelude.{Err}
use borrow.Author.Rules.{rules}
use native.Mathlib.Omega.{arith}
use Rattle.server_deliver.proofs.FreshRecords.{fine_fresh, fresh_refused, fresh_done}
use Rattle.server_deliver.proofs.fresh.fresh.Goals as goal

pub returns-in_err-fresh_test : goal.returns-in_err-fresh_test
returns-in_err-fresh_test c =
    let a = c.args in
    let e : c.from_residual.result ≡ Err c.in_err-fresh_test.field-0.0 = search rules in
    rw e (fresh_refused a.g a.me a.value.now a.area.now a.initial.now a.state.now _ c.fresh_test.ensures _ c.in_err-fresh_test.was)

pub overflow_cast-me : goal.overflow_cast-me
overflow_cast-me c =
    let A = (fine_fresh _ _ _ _ _ c.fresh_test.ensures c.in_ok-fresh_test.was).0 in
    record { fits = omega (arith, A.own_high, A.bounded.servers_high) }

pub keep_fresh-requires : goal.keep_fresh-requires
keep_fresh-requires c = (fine_fresh _ _ _ _ _ c.fresh_test.ensures c.in_ok-fresh_test.was).1

pub returns : goal.returns
returns c =
    let a = c.args in
    fresh_done a.g a.me a.value.now a.area.now a.initial.now a.state.now
    (fine_fresh _ _ _ _ _ c.fresh_test.ensures c.in_ok-fresh_test.was).1 _ _ _ _ _ _ (search rules) c.construct-done.ensures c.keep_fresh.ensures
