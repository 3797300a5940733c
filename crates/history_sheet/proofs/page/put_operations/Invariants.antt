-- Each turn stores one more line. Assumes nothing.
use mathlib.Core.Path.{◌≡◌}
use Prim.Native.Nat.{◌+◌}
use lib.ListN.{length}
use lib.Seq.{sets}
use Rattle.area.specs.Area.{joined}
use Rattle.history_sheet.specs.Sheet.{operation_line, ended}
use Rattle.history_sheet.specs.Stages.{named}
use Rattle.history_sheet.proofs.page.put_operations.Given as goal

abbrev pub invariant-loop-j : goal.invariant-loop-j
invariant-loop-j l =
    (length l.out ≡ length l.initial.out) × (l.out ≡ sets l.initial.out l.at (joined (λ i. ended (operation_line (i + 1) (named l.rows l.lines i))) l.first l.j))
