-- The parts are stored one after the other. Assumes nothing.
use Rattle.layout.proofs.Lengths.{length_slot}
use Rattle.layout.proofs.Puts.{slot_put}
use Rattle.layout.proofs.servers.SlotField.put.Goals as goal

pub returns-clause-puts : goal.returns-clause-puts
returns-clause-puts c = slot_put _ _ _ _ c.args.self.now c.write8.ensures c.put_blocks.ensures

pub returns-clause-wide : goal.returns-clause-wide
returns-clause-wide c = length_slot c.args.self.now
