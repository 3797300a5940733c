-- Each turn stores one more line. Assumes nothing.
use mathlib.Core.Path.{refl, ◌∙◌}
use mathlib.Core.List.{[]}
use Rattle.history_sheet.specs.Sheet.{filled, ended}
use Rattle.history_sheet.proofs.Lines.{length_blank}
use Rattle.history_sheet.proofs.Pages.{no_lines, turn, all_lines}
use native.Mathlib.Omega.{arith}
use Rattle.history_sheet.proofs.page.put_blanks.Goals as goal

pub loop-j-init : goal.loop-j-init
loop-j-init c = (refl, no_lines _ _ _ _)

pub loop-j-preserved : goal.loop-j-preserved
loop-j-preserved c =
    let l = c.loop-j in
    let a = c.args in
    (c.put_blank.auto.out ∙ l.invariant.0, turn (λ i. ended (filled [])) 73 0 l.j a.out.now l.out _ a.at (λ k p q. length_blank) l.invariant.1 c.put_blank.ensures)

pub returns : goal.returns
returns c =
    let l = c.loop-j in
    all_lines (λ i. ended (filled [])) 0 l.j c.args.count _ _ c.args.at l.invariant.1 (omega arith)
