-- After j turns the first j servers are in order, and what is left decides. Assumes nothing.
use mathlib.Core.Bool.{not}
use Prim.Native.Nat.{◌+◌}
use mathlib.Core.Path.{ap, sym, ◌∙◌}
use Rattle.group.proofs.Unanimous.{within_at, in_order_lem, left_start, own_long, left_turn, left_out, left_end}
use native.Mathlib.Omega.{arith}
use Rattle.group.proofs.decoding.all_of.Goals as goal

pub loop-j-init : goal.loop-j-init
loop-j-init c =
    let p = c.requires in
    left_start _ _ _ p.0.bounded p.1 _ _ p.0.whole

pub block_at-own-requires : goal.block_at-own-requires
block_at-own-requires c =
    let p = c.requires in
    (p.0.bounded, within_at _ _ p.1 (c.loop-j.j + 1))

pub is_block-requires : goal.is_block-requires
is_block-requires c =
    let p = c.requires in
    let h = p.0.bounded in
    (h.blocks_low, omega (arith, h.servers_high, h.faults_low, h.blocks_high), omega (arith, p.0.whole, h.size_high), own_long _ _ _ h p.1 c.args.value.now _ (c.loop-j.j + 1) p.0.whole c.block_at-own.ensures)

pub returns-then-not-is_block : goal.returns-then-not-is_block
returns-then-not-is_block c =
    let p = c.requires in
    left_out _ _ _ p.0.bounded p.1 _ _ p.0.whole _ _ c.loop-j-test.true (in_order_lem _ _ _ p.0.bounded p.1 _ _ p.0.whole _ (c.loop-j.j + 1) _ c.block_at-own.ensures c.is_block.ensures) (ap not c.if-not-is_block.true)
    c.loop-j.invariant

pub loop-j-preserved : goal.loop-j-preserved
loop-j-preserved c =
    let p = c.requires in
    left_turn _ _ _ p.0.bounded p.1 _ _ p.0.whole _ _ c.loop-j-test.true (in_order_lem _ _ _ p.0.bounded p.1 _ _ p.0.whole _ (c.loop-j.j + 1) _ c.block_at-own.ensures c.is_block.ensures) (ap not c.if-not-is_block.false)
    c.loop-j.invariant

pub returns : goal.returns
returns c =
    let p = c.requires in
    sym (c.loop-j.invariant ∙ left_end _ _ _ p.0.bounded p.1 _ _ p.0.whole _ (omega arith))
