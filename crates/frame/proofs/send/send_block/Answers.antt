use mathlib.Core.Path.{refl}
use Rattle.frame.specs.Messages.{send}
use Rattle.frame.specs.Frames.{kind_of}
use Rattle.frame.proofs.Writing.{block_frame_lem, sent_one}
use Rattle.frame.proofs.send.send_block.Goals as goal

pub returns : goal.returns
unfolding kind_of
returns c =
    let a = c.args in
    let t = c.time_bytes-t in
    let f = block_frame_lem 3 _ _ a.w.time send t.result a.digests.now a.block.now refl t.ensures in
    sent_one _ _ _ _ _ _ _ _ _ f c.deposit.ensures
