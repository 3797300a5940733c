-- Lines of operations, lines of spaces and the number, end to end. Assumes nothing.
use Rattle.history_sheet.proofs.Pages.{one_digit, page_put}
use native.Mathlib.Omega.{arith}
use borrow.Author.Rules.{rules}
use Rattle.history_sheet.proofs.page.put_page.Goals as goal

pub put_field-requires : goal.put_field-requires
put_field-requires c = let d = one_digit c.args.p c.requires.2 in (search rules, omega arith)

pub returns : goal.returns
returns c =
    let a = c.args in
    page_put a.rows a.lines a.m c.requires.1 a.p _ c.min-count.ensures c.requires.3 a.out.now _ _ _ a.at
    c.put_operations.ensures c.put_blanks.ensures c.put_field.ensures
