-- By the tests, in their order; then every entry is played. Assumes nothing.
use mathlib.Core.Path.{◌≡◌}
use Rattle.std.specs.Prelude.{Err}
use borrow.Author.Rules.{rules}
use Rattle.server_deliver.proofs.FreshRecords.{fine_fresh}
use Rattle.playback.proofs.Outcomes.{record_refused, play_refused, bounds, few_counted, out_refused, test_fine, play_done}
use native.Mathlib.Omega.{arith}
use Rattle.playback.proofs.play.Goals as goal

pub returns-in_err-fresh_test : goal.returns-in_err-fresh_test
returns-in_err-fresh_test c =
    let a = c.args in
    let e : c.from_residual.result ≡ Err c.in_err-fresh_test.field-0.0 = search rules in
    rw e (record_refused a.g a.me a.value.now a.trace.now a.area.now a.initial.now a.state.now a.out.now _ c.fresh_test.ensures _
    c.in_err-fresh_test.was)

pub overflow_cast-me : goal.overflow_cast-me
overflow_cast-me c =
    let A = (fine_fresh _ _ _ _ _ c.fresh_test.ensures c.in_ok-fresh_test.was).0 in
    record { fits = omega (arith, A.own_high, A.bounded.servers_high) }

pub returns-in_err-construct_test : goal.returns-in_err-construct_test
returns-in_err-construct_test c =
    let a = c.args in
    let e : c.from_residual-in_err-construct_test.result ≡ Err c.in_err-construct_test.field-0.0 = search rules in
    rw e (play_refused a.g a.me a.value.now a.trace.now a.area.now a.initial.now a.state.now a.out.now _ c.fresh_test.ensures
    c.in_ok-fresh_test.was _ c.construct_test.ensures _ c.in_err-construct_test.was)

pub out_test-requires : goal.out_test-requires
out_test-requires c =
    let a = c.args in
    bounds a.g a.me a.value.now a.trace.now a.area.now a.initial.now a.state.now a.out.now _ c.fresh_test.ensures
    c.in_ok-fresh_test.was _ c.construct_test.ensures c.in_ok-construct_test.was c.survey-found.result c.survey-found.ensures

pub returns-in_err-out_test : goal.returns-in_err-out_test
returns-in_err-out_test c =
    let a = c.args in
    let e : c.from_residual-in_err-out_test.result ≡ Err c.in_err-out_test.field-0.0 = search rules in
    rw e (out_refused a.g a.me a.value.now a.trace.now a.area.now a.initial.now a.state.now a.out.now _ c.fresh_test.ensures
    c.in_ok-fresh_test.was _ c.construct_test.ensures c.in_ok-construct_test.was c.survey-found.result c.survey-found.ensures _ c.out_test.ensures _ c.in_err-out_test.was)

pub play_all-bytes-requires : goal.play_all-bytes-requires
play_all-bytes-requires c =
    let a = c.args in
    test_fine a.g a.me a.value.now a.trace.now a.area.now a.initial.now a.state.now a.out.now _ c.fresh_test.ensures
    c.in_ok-fresh_test.was _ c.construct_test.ensures c.in_ok-construct_test.was c.survey-found.result c.survey-found.ensures _ c.out_test.ensures c.in_ok-out_test.was

pub ending_of-ending-requires : goal.ending_of-ending-requires
ending_of-ending-requires c =
    let a = c.args in
    let n = few_counted a.g a.me a.value.now a.trace.now a.area.now a.initial.now a.state.now a.out.now _ c.fresh_test.ensures
    c.in_ok-fresh_test.was _ c.construct_test.ensures c.in_ok-construct_test.was c.survey-found.result c.survey-found.ensures in
    omega (arith, n, c.well_formed.1.1.1.0.1)

pub returns : goal.returns
returns c =
    let a = c.args in
    play_done a.g a.me a.value.now a.trace.now a.area.now a.initial.now a.state.now a.out.now _ c.fresh_test.ensures
    c.in_ok-fresh_test.was _ c.construct_test.ensures c.in_ok-construct_test.was c.survey-found.result c.survey-found.ensures _ c.out_test.ensures c.in_ok-out_test.was
    _ _ _ _ _ c.ending_of-ending.result c.play_all-bytes.ensures c.ending_of-ending.ensures
