-- The parts are stored one after the other. Assumes nothing.
use Rattle.layout.specs.Clients.{stamps_bytes}
use Rattle.layout.proofs.Lengths.{length_kept}
use Rattle.layout.proofs.Puts.{kept_put}
use Rattle.layout.proofs.clients.RowField.put.Goals as goal

pub returns-clause-puts : goal.returns-clause-puts
unfolding stamps_bytes
returns-clause-puts c = kept_put _ _ _ _ c.args.self.now c.write8.ensures c.put_all.ensures

pub returns-clause-wide : goal.returns-clause-wide
returns-clause-wide c = length_kept c.args.self.now
