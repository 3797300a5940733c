-- The parts are stored one after the other. Assumes nothing.
use Rattle.layout.specs.Fields.{flags_bytes}
use Rattle.layout.proofs.Puts.{votes_put}
use Rattle.layout.proofs.servers.put_votes.Goals as goal

pub returns : goal.returns
unfolding flags_bytes
returns c = votes_put _ _ _ _ c.args.echoes.now c.args.readies.now c.put_all.ensures c.put_all-2.ensures
