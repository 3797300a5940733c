-- A quotient compared in place of a product. Assumes nothing.
use Rattle.playback.proofs.Needs.{out_short, out_enough}
use Rattle.playback.proofs.out_test.Goals as goal

pub returns-then-out-need : goal.returns-then-out-need
returns-then-out-need c = out_short _ _ _ _ c.entry_need-need.ensures.0 c.entry_need-need.ensures.2 c.if-out-need.true

pub returns : goal.returns
returns c = out_enough _ _ _ _ c.entry_need-need.ensures.0 c.entry_need-need.ensures.2 c.if-out-need.false
