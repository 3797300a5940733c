use Rattle.frame.proofs.Writing.{ack_frame, sent_one}
use Rattle.frame.proofs.send.send_ack.Goals as goal

pub deposit-requires : goal.deposit-requires
deposit-requires c = c.requires

pub returns : goal.returns
returns c = sent_one _ _ _ _ _ _ _ _ _ (ack_frame _ _) c.deposit.ensures
