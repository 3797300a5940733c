-- No write may be accepted, or one more is accepted and the rest follows. Assumes nothing.
use Prim.Native.Nat.{ℕ, ◌+◌, ◌-◌}
use mathlib.Core.Path.{◌≡◌, sym, ap, subst, ◌∙◌}
use lib.ListN.{length}
use native.Mathlib.Omega.{arith}
use Rattle.area.proofs.Numbers.{bytes_of}
use Rattle.frame.specs.Outbox.{outbox}
use Rattle.server_deliver.specs.Rounds.{RoundsRoom, freed_in}
use Rattle.server_deliver.proofs.Acceptances.{no_rounds, none_found, one_found, accept_asks, rounds_left}
use Rattle.server_deliver.proofs.rounds.settle.Goals as goal

pub loop-init : goal.loop-init
loop-init c =
    let a = c.args in
    let z : a.rounds - 0 ≡ a.rounds = omega arith in (
      ap (λ (k : ℕ). freed_in a.g k a.state.now a.area.now (outbox a.out.now a.to.now a.p)) z,
      subst (λ (k : ℕ). RoundsRoom k a.g (length a.state.now) (length a.area.now) a.p (length a.out.now) (length a.to.now)) (sym z) c.requires,
      bytes_of a.state.now (λ i. let f = c.type_inv.state i in omega arith),
    )

pub returns-then-c-eq0 : goal.returns-then-c-eq0
returns-then-c-eq0 c =
    let a = c.args in
    let l = c.loop in
    none_found a.g l.state l.area _ (a.rounds - l.counter) (λ e. omega (arith, e, c.loop-test.true)) (sym c.lowest-c.ensures ∙ c.if-c-eq0.true)
    ∙ l.invariant.0

pub accept_at-q-requires : goal.accept_at-q-requires
accept_at-q-requires c =
    let a = c.args in
    let l = c.loop in
    accept_asks (a.rounds - l.counter) (a.rounds - (l.counter + 1)) (omega (arith, c.loop-test.true)) a.g l.state l.area l.q l.out l.to l.invariant.1
    _ c.lowest-c.ensures c.if-c-eq0.false

pub loop-preserved : goal.loop-preserved
loop-preserved c =
    let a = c.args in
    let l = c.loop in
    let n = a.rounds - l.counter in
    let m = a.rounds - (l.counter + 1) in
    let d = c.accept_at-q in (
      one_found a.g l.state l.area _ n m _ _ _ _ (omega (arith, c.loop-test.true)) l.invariant.1.record_whole l.invariant.2 c.lowest-c.ensures
          c.if-c-eq0.false d.ensures
          ∙ l.invariant.0,
      rounds_left n m (omega (arith, c.loop-test.true)) a.g l.state l.area l.q l.out l.to l.invariant.1 _ c.lowest-c.ensures c.if-c-eq0.false
          _ _ _ _ _ d.ensures d.auto.area,
      bytes_of d.new.state (λ i. let f = c.type_inv.state i in omega arith),
    )

pub returns : goal.returns
returns c =
    let a = c.args in
    let l = c.loop in
    no_rounds a.g l.state l.area _ (a.rounds - l.counter) (omega (arith, c.loop-test.false)) ∙ l.invariant.0
