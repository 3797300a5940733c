-- Each return, by the laws of FrameLaws.antt. Assumes nothing.
use mathlib.Core.Bool.{not}
use mathlib.Core.Path.{ap, sym, ◌∙◌}
use borrow.Author.Tests.{not-true, not-false}
use Rattle.host_facts.proofs.FrameLaws.{time_refused, time_short, time_long, time_none, time_done}
use Rattle.host_facts.proofs.frames.frame_time.Goals as goal

pub returns-in_default : goal.returns-in_default
returns-in_default c = time_refused _ _ _ _ c.opened_under-opened.ensures _ _ c.in_default.is c.header_answer.ensures

pub returns-then-time-lt-TIME_BYTES : goal.returns-then-time-lt-TIME_BYTES
returns-then-time-lt-TIME_BYTES c = time_short _ _ _ _ c.opened_under-opened.ensures _ c.in-Ok.is c.if-time-lt-TIME_BYTES.true

pub returns-then-not-carries_time : goal.returns-then-not-carries_time
returns-then-not-carries_time c = time_none _ _ _ _ c.opened_under-opened.ensures _ c.in-Ok.is c.if-time-lt-TIME_BYTES.false (sym c.carries_time.ensures ∙ not-true _ (ap not c.if-not-carries_time.true))

pub read8-requires : goal.read8-requires
read8-requires c = time_long _ _ c.args.time.now _ c.opened_under-opened.ensures _ c.in-Ok.is (sym c.carries_time.ensures ∙ not-false _ (ap not c.if-not-carries_time.false))

pub returns : goal.returns
returns c = time_done _ _ _ _ c.opened_under-opened.ensures _ c.in-Ok.is _ _ c.if-time-lt-TIME_BYTES.false (sym c.carries_time.ensures ∙ not-false _ (ap not c.if-not-carries_time.false)) c.read8.ensures c.write8.ensures
