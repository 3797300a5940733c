-- Each turn stores one more page. Assumes nothing.
use mathlib.Core.Path.{refl, ◌∙◌}
use Rattle.history_sheet.specs.Sheet.{page_size, page_of}
use Rattle.history_sheet.specs.Stages.{named_all}
use Rattle.history_sheet.proofs.Pages.{no_lines, turn_front, all_lines, length_page, named_fits}
use native.Mathlib.Omega.{arith}
use Rattle.history_sheet.proofs.page.put_pages.Goals as goal

pub loop-p-init : goal.loop-p-init
loop-p-init c = (refl, no_lines _ _ _ _)

pub loop-p-preserved : goal.loop-p-preserved
loop-p-preserved c =
    let l = c.loop-p in
    let a = c.args in
    let row = named_all a.rows a.lines a.m in
    let two = c.requires.2 in (
      c.put_page.auto.out ∙ l.invariant.0,
      turn_front (page_of row) page_size l.p a.out.now l.out _ (λ k x. length_page row (named_fits a.rows a.lines a.m c.requires.1) k (omega arith)) l.invariant.1 c.put_page.ensures,
    )

pub returns : goal.returns
returns c =
    let l = c.loop-p in
    let a = c.args in
    all_lines (page_of (named_all a.rows a.lines a.m)) 0 l.p a.pages _ _ 0 l.invariant.1 (omega arith)
