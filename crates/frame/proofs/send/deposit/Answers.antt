use Rattle.frame.proofs.Writing.{one_sent, length_written}
use Rattle.frame.proofs.send.deposit.Goals as goal

pub returns : goal.returns
returns c = one_sent _ _ _ _ _ _ _ _ _ c.party_bytes-bytes.ensures c.put.ensures c.put_frame.ensures (length_written c.args.h.kind c.args.h.client c.args.h.sequence c.args.b.lead.now c.args.b.digests.now c.args.b.block.now)
