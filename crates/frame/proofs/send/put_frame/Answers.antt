use Rattle.frame.proofs.Writing.{frame_written}
use Rattle.frame.proofs.send.put_frame.Goals as goal

pub returns : goal.returns
returns c = frame_written _ _ _ _ _ _ c.args.b.lead.now c.args.b.digests.now c.args.b.block.now _ _ _ _ c.header_bytes.ensures c.put.ensures c.put-2.ensures c.put-3.ensures c.put-4.ensures
