-- Each return, by the laws of PresentLaws.antt. Assumes nothing.
use mathlib.Core.Path.{sym, ◌∙◌}
use native.Mathlib.Omega.{arith}
use Rattle.frame.proofs.Within.{bounded_of}
use Rattle.host_facts.proofs.PresentLaws.{block_bounds, no_record, no_area, no_initial, no_room, block_done}
use Rattle.host_facts.proofs.present.server_block.Goals as goal
use Rattle.host_facts.proofs.present.server_block.Goals.{then-state-lt-SERVER_SIZE-via-then-state-lt-SERVER_SIZE, then-state-lt-SERVER_SIZE-via-else-state-lt-SERVER_SIZE+then-area-lt-AREA_BYTES}
use Rattle.host_facts.proofs.present.server_block.Goals.{then-state-lt-SERVER_SIZE-via-else-state-lt-SERVER_SIZE+else-area-lt-AREA_BYTES+then-initial-w}
use Rattle.host_facts.proofs.present.server_block.Goals.{then-state-lt-SERVER_SIZE-via-else-state-lt-SERVER_SIZE+else-area-lt-AREA_BYTES+else-initial-w+then-block-w}

pub returns-in-Err : goal.returns-in-Err
returns-in-Err c = block_bounds _ _ _ _ _ _ c.bounds_test.ensures _ _ c.in-Err.is c.number_of.ensures

pub width-w-requires : goal.width-w-requires
width-w-requires c = bounded_of _ (sym c.bounds_test.ensures ∙ c.in_default.is)

pub returns-then-state-lt-SERVER_SIZE : goal.returns-then-state-lt-SERVER_SIZE
returns-then-state-lt-SERVER_SIZE c = elim c.then-state-lt-SERVER_SIZE.branch [
  | then-state-lt-SERVER_SIZE-via-then-state-lt-SERVER_SIZE w ↦ no_record _ _ _ _ _ _ c.bounds_test.ensures c.in_default.is w.if-state-lt-SERVER_SIZE.true
  | then-state-lt-SERVER_SIZE-via-else-state-lt-SERVER_SIZE+then-area-lt-AREA_BYTES w ↦
      no_area _ _ _ _ _ _ c.bounds_test.ensures c.in_default.is w.if-state-lt-SERVER_SIZE.false w.if-area-lt-AREA_BYTES.true
  | then-state-lt-SERVER_SIZE-via-else-state-lt-SERVER_SIZE+else-area-lt-AREA_BYTES+then-initial-w w ↦
      no_initial _ _ _ _ _ _ c.bounds_test.ensures c.in_default.is w.if-state-lt-SERVER_SIZE.false w.if-area-lt-AREA_BYTES.false _ c.width-w.ensures.0 w.if-initial-w.true
  | then-state-lt-SERVER_SIZE-via-else-state-lt-SERVER_SIZE+else-area-lt-AREA_BYTES+else-initial-w+then-block-w w ↦
      no_room _ _ _ _ _ _ c.bounds_test.ensures c.in_default.is w.if-state-lt-SERVER_SIZE.false w.if-area-lt-AREA_BYTES.false _ c.width-w.ensures.0 w.if-initial-w.false w.if-block-w.true
]

pub present_block-requires : goal.present_block-requires
present_block-requires c = (
  bounded_of _ (sym c.bounds_test.ensures ∙ c.in_default.is),
  omega (arith, c.if-area-lt-AREA_BYTES.false),
  omega (arith, c.width-w.ensures.0, c.if-initial-w.false),
)

pub put-requires : goal.put-requires
put-requires c = omega (arith, c.present_block.ensures.1, c.width-w.ensures.0, c.if-block-w.false)

pub returns : goal.returns
returns c = block_done _ _ _ _ _ _ c.bounds_test.ensures c.in_default.is c.if-state-lt-SERVER_SIZE.false c.if-area-lt-AREA_BYTES.false _ c.width-w.ensures.0 c.if-initial-w.false _ _ _ c.if-block-w.false c.get-x.ensures c.present_block.ensures.0 c.put.ensures
