use Rattle.frame.proofs.Writing.{ask_frame, sent_all}
use Rattle.frame.proofs.send.ask_all.Goals as goal

pub deposit_all-requires : goal.deposit_all-requires
deposit_all-requires c = (c.requires.0.servers_high, c.requires.1)

pub returns : goal.returns
returns c = sent_all c.args.g _ _ _ _ _ _ _ _ (ask_frame _ _ _ c.args.a c.ask_kind.ensures) c.deposit_all.ensures
