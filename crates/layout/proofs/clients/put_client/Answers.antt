-- The parts are stored one after the other. Assumes nothing.
use Rattle.layout.specs.Clients.{rows_bytes}
use Rattle.layout.specs.Fields.{flags_bytes, numbers_bytes}
use Rattle.layout.proofs.Puts.{client_put}
use Rattle.layout.proofs.clients.put_client.Goals as goal

pub returns : goal.returns
unfolding flags_bytes numbers_bytes rows_bytes
returns c = client_put _ _ _ _ _ _ _ c.args.s c.put_head.ensures c.put_all.ensures c.put_all-2.ensures c.put_all-3.ensures c.put_all-4.ensures
