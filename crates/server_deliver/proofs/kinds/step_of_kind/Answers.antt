use native.Mathlib.Omega.{arith}
use Rattle.server_deliver.proofs.KindSteps.{is_get_stamp, is_read, is_read_complete, to_client_lem}
use Rattle.sha256.specs.Hash.{digest_of}
use Rattle.server_deliver.proofs.kinds.step_of_kind.Goals as goal

pub on_get_stamp-requires : goal.on_get_stamp-requires
on_get_stamp-requires c = let P = c.requires.0.lent in (P.bounded, P.room)

pub returns-in-1 : goal.returns-in-1
returns-in-1 c = let a = c.args in λ rs w K. is_get_stamp digest_of a.k w a.area.now a.initial.now a.f.now _ _ _ c.in-1.is (c.on_get_stamp.ensures w K.scope a.area.now)

pub on_read-requires : goal.on_read-requires
on_read-requires c = let P = c.requires.0.lent in (P.bounded, P.whole, c.requires.1, P.room)

pub returns-in-10 : goal.returns-in-10
returns-in-10 c = let a = c.args in λ rs w K. is_read digest_of a.k w a.area.now a.initial.now a.f.now _ _ _ c.in-10.is (c.on_read.ensures w K.scope)

pub returns-in-12 : goal.returns-in-12
returns-in-12 c = let a = c.args in λ rs w K. is_read_complete digest_of a.k w a.area.now a.initial.now a.f.now _ _ _ c.in-12.is (c.on_read_complete.ensures w K.scope _ _ _)

pub step_of_send-requires : goal.step_of_send-requires
step_of_send-requires c = let P = c.requires.0 in (record { bounded = P.lent.bounded; room = P.lent.room; own_low = P.own_low; own_high = P.own_high; frame_is = P.frame_is }, c.in-3.is)

pub returns-in-3 : goal.returns-in-3
returns-in-3 c = let a = c.args in λ rs. c.step_of_send.ensures rs a.area.now a.initial.now

pub returns-in_default : goal.returns-in_default
returns-in_default c = let a = c.args in let P = c.requires.0 in λ rs w K. to_client_lem digest_of a.k w a.area.now a.initial.now a.f.now _ _ P.kind_low P.kind_high P.kind_used (λ e. omega arith) (λ e. omega arith) (λ e. omega arith) (λ e. omega arith) c.requires.2
