-- No operations, or some. Assumes nothing.
use Rattle.history_sheet.proofs.Pages.{no_operations, some_operations}
use borrow.Author.Rules.{rules}
use Rattle.history_sheet.proofs.page_count.Goals as goal

pub returns-then-m-eq0 : goal.returns-then-m-eq0
returns-then-m-eq0 c = no_operations _ (search rules)

pub returns-else-m-eq0 : goal.returns-else-m-eq0
returns-else-m-eq0 c = some_operations _ (search rules) (search rules)
