-- The area is long enough, or it is not. Assumes nothing.
use Rattle.history_sheet.specs.Stages.{named_all}
use Rattle.history_sheet.proofs.Pages.{named_count, pages_begin}
use Rattle.history_sheet.proofs.Layings.{sheet_short, sheet_laid}
use borrow.Author.Rules.{rules}
use Rattle.history_sheet.proofs.put_sheet.Goals as goal

pub returns-then-out-pages : goal.returns-then-out-pages
returns-then-out-pages c =
    let a = c.args in
    rw c.number_of.ensures
    (sheet_short (named_all a.rows a.lines a.m) a.out.now a.m _ (named_count a.rows a.lines a.m c.requires) c.page_count-pages.ensures.0 (search rules))

pub put_pages-requires : goal.put_pages-requires
put_pages-requires c =
    let a = c.args in
    (search rules, c.requires, search rules, pages_begin a.m _ c.page_count-pages.ensures.0)

pub returns : goal.returns
returns c =
    let a = c.args in
    sheet_laid (named_all a.rows a.lines a.m) a.out.now _ a.m _ (named_count a.rows a.lines a.m c.requires) c.page_count-pages.ensures.0 (search rules) c.put_pages.ensures
