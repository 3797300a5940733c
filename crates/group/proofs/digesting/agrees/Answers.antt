-- After j turns the first j servers and digests are in order, and what is left decides. Assumes nothing.
use mathlib.Core.Bool.{not}
use mathlib.Core.Path.{ap}
use Prim.Native.Nat.{◌+◌}
use Rattle.group.proofs.Unanimous.{within_at}
use Rattle.group.proofs.Comparing.{compare_start, step_is, compare_turn, compare_out, compare_end}
use native.Mathlib.Omega.{arith}
use Rattle.group.proofs.digesting.agrees.Goals as goal

pub loop-j-init : goal.loop-j-init
loop-j-init c =
    let p = c.requires in
    compare_start _ _ _ p.0.bounded p.1 _ _ p.0.whole _ p.2

pub block_at-own-requires : goal.block_at-own-requires
block_at-own-requires c =
    let p = c.requires in
    (p.0.bounded, within_at _ _ p.1 (c.loop-j.j + 1))

pub agrees_at-requires : goal.agrees_at-requires
agrees_at-requires c =
    let p = c.requires in
    let h = p.0.bounded in
    (h.blocks_low, omega (arith, h.servers_high, h.faults_low, h.blocks_high), omega (arith, p.0.whole, h.size_high), omega arith, omega (arith, p.2))

pub returns-then-not-agrees_at : goal.returns-then-not-agrees_at
returns-then-not-agrees_at c =
    let p = c.requires in
    compare_out _ _ _ p.0.bounded p.1 _ _ p.0.whole _ p.2 _ _ c.loop-j-test.true
    (step_is _ _ _ p.0.bounded p.1 _ _ p.0.whole _ p.2 c.loop-j.j _ _ c.block_at-own.ensures c.agrees_at.ensures) (ap not c.if-not-agrees_at.true) c.loop-j.invariant

pub loop-j-preserved : goal.loop-j-preserved
loop-j-preserved c =
    let p = c.requires in
    compare_turn _ _ _ p.0.bounded p.1 _ _ p.0.whole _ p.2 _ _ c.loop-j-test.true
    (step_is _ _ _ p.0.bounded p.1 _ _ p.0.whole _ p.2 c.loop-j.j _ _ c.block_at-own.ensures c.agrees_at.ensures) (ap not c.if-not-agrees_at.false) c.loop-j.invariant

pub returns : goal.returns
returns c =
    let p = c.requires in
    compare_end _ _ _ p.0.bounded p.1 _ _ p.0.whole _ p.2 _ (omega arith) c.loop-j.invariant
