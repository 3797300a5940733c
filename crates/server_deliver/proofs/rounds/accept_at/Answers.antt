use Rattle.layout.specs.Servers.{server_in, server_at}
use Rattle.server_deliver.proofs.Records.{nine_slots}
use Rattle.server_rules.specs.declared.Scope.{Scope}
use mathlib.Core.Path.{ap}
use Rattle.server_accept.proofs.Acceptance.{may_within}
use Rattle.server_deliver.proofs.Acceptances.{accepted_here}
use native.Mathlib.Omega.{arith}
use Rattle.server_deliver.proofs.rounds.accept_at.Goals as goal

-- src/rounds.rt:74:9
pub accept-m-requires : goal.accept-m-requires
accept-m-requires c = let P = c.requires in let a = c.args in let w = may_within a.g _ a.c P.2 in let e = c.scope_at-s.ensures in (P.0, omega (arith, w.0, ap (λ (x : Scope). x.slot.blocks.time) e), omega (arith, w.1, ap (λ (x : Scope). x.slot.sequence) e))

-- src/rounds.rt:78:5
pub put_opened-requires : goal.put_opened-requires
put_opened-requires c = let P = c.requires in (P.1, P.0.client_high)

-- src/rounds.rt:58:1
pub returns : goal.returns
unfolding server_in server_at
returns c = let P = c.requires in let a = c.args in accepted_here a.g a.state.now _ a.area.now _ a.c _ _ _ _ P.0.client_high c.scope_at-s.ensures (c.accept-m.ensures (server_in a.state.now) (record { many = nine_slots _; scope = c.scope_at-s.ensures; readers = c.readers_at-readers.ensures })) c.put_opened.ensures (nine_slots _)
