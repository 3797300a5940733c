-- The tests in their order. Assumes nothing.
use Rattle.std.specs.Prelude.{Err}
use borrow.Author.Rules.{rules}
use mathlib.Core.Path.{sym, ◌∙◌, ◌≡◌}
use Rattle.frame.proofs.Within.{admitted_of}
use Rattle.playback.proofs.Resumes.{params_refused, record_refused, rooms_tested}
use Rattle.playback.proofs.resume.resume_test.Goals as goal

pub returns-in_err-params_test : goal.returns-in_err-params_test
returns-in_err-params_test c =
    let e : c.from_residual.result ≡ Err c.in_err-params_test.field-0.0 = search rules in
    e ∙ params_refused _ _ _ _ _ _ _ _ c.params_test.ensures _ c.in_err-params_test.was

pub returns-then-state-lt-SERVER_SIZE : goal.returns-then-state-lt-SERVER_SIZE
returns-then-state-lt-SERVER_SIZE c = record_refused _ _ _ _ _ _ _ _ c.params_test.ensures c.in_ok-params_test.was c.if-state-lt-SERVER_SIZE.true

pub room_test-requires : goal.room_test-requires
room_test-requires c = (admitted_of _ _ _ (sym c.params_test.ensures ∙ c.in_ok-params_test.was)).bounded

pub returns : goal.returns
returns c = rooms_tested _ _ _ _ _ _ _ _ c.params_test.ensures c.in_ok-params_test.was c.if-state-lt-SERVER_SIZE.false _ c.room_test.ensures
