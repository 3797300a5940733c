use Rattle.layout.specs.Servers.{server_in}
use mathlib.Core.Path.{refl}
use Rattle.server_deliver.proofs.Acceptances.{low_found, low_turn, low_end}
use native.Mathlib.Omega.{arith}
use Rattle.server_deliver.proofs.rounds.lowest.Goals as goal

pub loop-c-init : goal.loop-c-init
loop-c-init c = refl

pub may_accept-requires : goal.may_accept-requires
may_accept-requires c = let P = c.requires in (P.0, P.1, omega arith)

pub returns-then-may_accept : goal.returns-then-may_accept
returns-then-may_accept c =
    let a = c.args in
    low_found a.g (server_in a.state.now) c.loop-c.c _ c.loop-c-test.true c.loop-c.invariant _ c.may_accept.ensures c.if-may_accept.true

pub loop-c-preserved : goal.loop-c-preserved
loop-c-preserved c =
    let a = c.args in
    low_turn a.g (server_in a.state.now) c.loop-c.c _ c.loop-c-test.true c.loop-c.invariant _ c.may_accept.ensures c.if-may_accept.false

pub returns : goal.returns
returns c = let a = c.args in low_end a.g (server_in a.state.now) c.loop-c.c _ (omega arith) c.loop-c.invariant
