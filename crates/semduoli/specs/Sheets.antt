-- The whole outcome of a host's call for the season sheet of a history: the answer, and every byte of the area. These are definitions.
use Rattle.std.specs.Prelude.{ℕ, List}
use Rattle.history_sheet.specs.Laying.{Outcome, laying}
use Rattle.history_sheet.specs.Answers.{sheet_answer}
use Rattle.semduoli.specs.Calls.{Wrote, wrote}

unfoldable pub sheet_wrote : Outcome → Wrote
sheet_wrote x = wrote (sheet_answer x.answer) x.out

unfoldable pub sheet_call : List ℕ → List ℕ → Wrote
sheet_call text out = sheet_wrote (laying text out)
