-- Each turn stores one more line. Assumes nothing.
use mathlib.Core.Path.{◌≡◌}
use mathlib.Core.List.{[]}
use lib.ListN.{length}
use lib.Seq.{sets}
use Rattle.area.specs.Area.{joined}
use Rattle.history_sheet.specs.Sheet.{filled, ended}
use Rattle.history_sheet.proofs.page.put_blanks.Given as goal

abbrev pub invariant-loop-j : goal.invariant-loop-j
invariant-loop-j l = (length l.out ≡ length l.initial.out) × (l.out ≡ sets l.initial.out l.at (joined (λ i. ended (filled [])) 0 l.j))
