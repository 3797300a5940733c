use mathlib.Core.Path.{◌∙◌}
use Rattle.server_deliver.proofs.Records.{refused_bytes, taken_bytes}
use Rattle.server_deliver.proofs.Openings.{handed}
use native.Mathlib.Omega.{arith}
use Rattle.server_deliver.proofs.deliver.Goals as goal

-- src/lib.rt:87:21
pub overflow_cast-k : goal.overflow_cast-k
overflow_cast-k c = let a = c.args in let P = handed (record { params = a.g; me = a.me; from = a.from; header = _ }) a.f.now _ _ _ _ _ _ c.admit-opened.ensures c.in-Ok.is in record { fits = omega (arith, P.0.own_high, P.0.lent.bounded.servers_high) }

-- src/lib.rt:91:13
pub step-requires : goal.step-requires
step-requires c = let a = c.args in handed (record { params = a.g; me = a.me; from = a.from; header = _ }) a.f.now _ _ _ _ _ _ c.admit-opened.ensures c.in-Ok.is

-- src/lib.rt:57:1
pub returns-in-Err : goal.returns-in-Err
returns-in-Err c = let a = c.args in refused_bytes a.g a.me a.from a.f.now a.area.now a.initial.now a.state.now a.out.now a.to.now _ c.admit-opened.ensures _ c.in-Err.is

-- src/lib.rt:57:1
pub returns-in-Ok : goal.returns-in-Ok
returns-in-Ok c = let a = c.args in c.step.ensures ∙ taken_bytes a.g a.me a.from a.f.now a.area.now a.initial.now a.state.now a.out.now a.to.now _ c.admit-opened.ensures _ c.in-Ok.is
