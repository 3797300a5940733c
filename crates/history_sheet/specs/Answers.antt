-- The answer to a host for a season sheet, as one number. Its lowest byte is 0, or the number of the refusal, and then all other bytes are 0. These are
-- definitions.
use Rattle.std.specs.Prelude.{ℕ, ◌*◌, ◌%◌}
use Rattle.area.specs.Responses.{Response, turned_down, gives}
use Rattle.order.specs.Histories.{no_order}
use Rattle.order.specs.Answers.{history_answer}
use Rattle.history_sheet.specs.Laying.{SheetResult, pages_laid, unordered}

-- the second byte is 0 where the sheet is laid, and the third says how many pages it has; 1 where a pair of operations offends, with the pair's line
-- numbers as for a judged history; refusals 18, 19 and 10
unfoldable pub sheet_answer : Response SheetResult → ℕ
sheet_answer (gives (pages_laid p)) = 65536 * (p % 256)
sheet_answer (gives (unordered a b)) = history_answer (gives (no_order a b))
sheet_answer (turned_down n) = n
