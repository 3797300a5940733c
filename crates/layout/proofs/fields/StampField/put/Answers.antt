-- The parts are stored one after the other. Assumes nothing.
use mathlib.Core.Path.{refl}
use Rattle.frame.proofs.RoundTrip.{length_stamp}
use Rattle.layout.proofs.Puts.{stamp_put}
use Rattle.layout.proofs.fields.StampField.put.Goals as goal

pub returns-clause-puts : goal.returns-clause-puts
returns-clause-puts c = stamp_put _ _ _ _ _ c.args.self.now c.write8.ensures refl c.write4.ensures

pub returns-clause-wide : goal.returns-clause-wide
returns-clause-wide c = length_stamp c.args.self.now
