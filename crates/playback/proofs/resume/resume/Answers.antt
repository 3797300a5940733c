-- The tests, in their order; then every entry is handed in. Assumes nothing.
use mathlib.Core.Path.{◌≡◌}
use Rattle.std.specs.Prelude.{Err}
use borrow.Author.Rules.{rules}
use Rattle.playback.specs.Resume.{areas}
use Rattle.playback.proofs.Resumes.{resume_refused, resume_counted, resume_done}
use native.Mathlib.Omega.{arith}
use Rattle.playback.proofs.resume.resume.Goals as goal

pub returns-in_err-resume_test : goal.returns-in_err-resume_test
returns-in_err-resume_test c =
    let a = c.args in
    let e : c.from_residual.result ≡ Err c.in_err-resume_test.field-0.0 = search rules in
    rw e (resume_refused a.g a.me a.initial.now a.trace.now (areas a.area.now a.state.now a.out.now a.to.now) _ c.resume_test.ensures _ c.in_err-resume_test.was)

pub ending_of-ending-requires : goal.ending_of-ending-requires
ending_of-ending-requires c =
    let a = c.args in
    let n = resume_counted a.g a.me a.initial.now a.trace.now (areas a.area.now a.state.now a.out.now a.to.now) _ c.resume_test.ensures
    c.in_ok-resume_test.was c.survey-found.result c.survey-found.ensures in
    omega (arith, n, c.well_formed.1.1.0.1)

pub returns : goal.returns
returns c =
    let a = c.args in
    resume_done a.g a.me a.initial.now a.trace.now (areas a.area.now a.state.now a.out.now a.to.now) _ c.resume_test.ensures
    c.in_ok-resume_test.was c.survey-found.result c.survey-found.ensures _ c.ending_of-ending.result c.resume_all.ensures c.ending_of-ending.ensures
