-- After i turns the blocks of the first i servers are stored. Assumes nothing.
use mathlib.Core.Path.{refl, ◌∙◌}
use lib.ListN.{length}
use lib.Seq.{take_all}
use Rattle.area.proofs.Sets.{room}
use Rattle.group.specs.Entries.{Within}
use Rattle.group.specs.Choice.{blocks_in}
use Rattle.group.proofs.Collecting.{block_turn}
use native.Mathlib.Omega.{arith}
use Rattle.group.proofs.decoding.collect.Goals as goal

pub loop-i-init : goal.loop-i-init
unfolding blocks_in
loop-i-init c = (refl, refl)

pub overflow_cast-j : goal.overflow_cast-j
overflow_cast-j c = omega (arith, c.requires.numbers c.loop-i.i)

pub offset_bounds-at-j : goal.offset_bounds-at-j
offset_bounds-at-j c = omega (arith, c.requires.numbers c.loop-i.i)

pub bounds-at-j : goal.bounds-at-j
bounds-at-j c = omega (arith, c.requires.numbers c.loop-i.i)

pub overflow_mul-i : goal.overflow_mul-i
overflow_mul-i c =
    let h = room c.loop-i.i (length c.args.js.now) c.args.b c.loop-i-test.true in
    omega (arith, h, c.requires.room)

pub put_block-requires : goal.put_block-requires
unfolding Within
put_block-requires c =
    let h = room c.loop-i.i (length c.args.js.now) c.args.b c.loop-i-test.true in
    (c.requires.bounded, c.requires.within _, omega (arith, h, c.requires.room, c.requires.width_is))

pub loop-i-preserved : goal.loop-i-preserved
loop-i-preserved c =
    let inv = c.loop-i.invariant in
    let p = c.put_block in
    (p.ensures ∙ block_turn _ _ _ c.requires.bounded c.requires.within _ _ _ _ _ c.requires.width_is inv.0 c.loop-i-test.true, omega arith)

pub returns : goal.returns
returns c = c.loop-i.invariant.0 ∙ rw (take_all c.loop-i.i c.args.js.now (omega arith))
