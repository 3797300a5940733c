-- The entries counted, and those that are left, are those of the whole trace. Assumes nothing.
use Rattle.entries.proofs.Traces.{counts_start, rest_within, counts_next, counts_end}
use native.Mathlib.Omega.{arith}
use Rattle.entries.proofs.reader.survey.Goals as goal

pub loop-closing-init : goal.loop-closing-init
loop-closing-init c = (omega arith, omega arith, counts_start _)

pub returns-in-Err : goal.returns-in-Err
returns-in-Err c =
    counts_end _ _ _ c.loop-closing.invariant.2 _ c.read_entry-reading.ensures _ c.in-Err.is

pub overflow_add-at : goal.overflow_add-at
overflow_add-at c =
    let w = rest_within c.args.trace.now
    c.loop-closing.at _ c.read_entry-reading.ensures _
    c.in-Ok.is in
    record { fits = omega arith }

pub loop-closing-smaller : goal.loop-closing-smaller
loop-closing-smaller c =
    let w = rest_within c.args.trace.now
    c.loop-closing.at _ c.read_entry-reading.ensures _
    c.in-Ok.is in
    omega arith

pub loop-closing-preserved : goal.loop-closing-preserved
loop-closing-preserved c =
    let w = rest_within c.args.trace.now
    c.loop-closing.at _ c.read_entry-reading.ensures _
    c.in-Ok.is in (
      omega arith,
      omega arith,
      counts_next _ _ _ c.loop-closing.invariant.2 _
          c.read_entry-reading.ensures _ c.in-Ok.is,
    )
