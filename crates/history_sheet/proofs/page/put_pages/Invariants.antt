-- Each turn stores one more page. Assumes nothing.
use mathlib.Core.Path.{◌≡◌}
use lib.ListN.{length}
use lib.Seq.{sets}
use Rattle.area.specs.Area.{joined}
use Rattle.history_sheet.specs.Sheet.{page_of}
use Rattle.history_sheet.specs.Stages.{named_all}
use Rattle.history_sheet.proofs.page.put_pages.Given as goal

abbrev pub invariant-loop-p : goal.invariant-loop-p
invariant-loop-p l =
    (length l.out ≡ length l.initial.out) × (l.out ≡ sets l.initial.out 0 (joined (page_of (named_all l.rows l.lines l.m)) 0 l.p))
