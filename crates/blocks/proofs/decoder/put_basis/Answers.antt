-- After i turns the first i rows are stored. Assumes nothing.
use lib.ListN.{length}
use Rattle.blocks.proofs.Linear.{rows_start, rows_turn, row_room}
use native.Mathlib.Omega.{arith}
use Rattle.blocks.proofs.decoder.put_basis.Goals as goal

pub loop-i-init : goal.loop-i-init
loop-i-init c = rows_start _ _

pub put_unit-requires : goal.put_unit-requires
put_unit-requires c =
    (c.requires.0, c.loop-i-test.true, row_room c.loop-i.i (length c.args.js.now) (length c.loop-i.table) c.loop-i-test.true (omega arith))

pub loop-i-preserved : goal.loop-i-preserved
loop-i-preserved c =
    let h = row_room c.loop-i.i (length c.args.js.now) (length c.loop-i.table) c.loop-i-test.true (omega arith) in
    rows_turn c.args.js.now c.loop-i.table _ c.loop-i.i h c.loop-i.invariant c.put_unit.ensures

pub returns : goal.returns
returns c = record { room = omega arith; rows = λ j h. c.loop-i.invariant j (omega arith) }
