use mathlib.Core.Bool.{not}
use mathlib.Core.Path.{ap}
use Rattle.client.proofs.Choices.{stop_unless, go_if, stop_from, pass_below}
use Rattle.client.proofs.tests.idle_test.Goals as goal

pub returns-then-not-is_idle : goal.returns-then-not-is_idle
returns-then-not-is_idle c = stop_unless _ _ _ c.is_idle.ensures _ (ap not c.if-not-is_idle.true)

pub returns-then-last-ge-LAST_SEQUENCE : goal.returns-then-last-ge-LAST_SEQUENCE
returns-then-last-ge-LAST_SEQUENCE c = go_if _ _ _ c.is_idle.ensures _ _ (ap not c.if-not-is_idle.false) (stop_from _ _ _ c.if-last-ge-LAST_SEQUENCE.true)

pub returns : goal.returns
returns c = go_if _ _ _ c.is_idle.ensures _ _ (ap not c.if-not-is_idle.false) (pass_below _ _ _ c.if-last-ge-LAST_SEQUENCE.false)
