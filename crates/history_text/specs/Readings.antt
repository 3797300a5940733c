-- What the code has read of a text, and the answer to that. These are stages of `judge_text`; Lines.antt says what a text says, and what is answered.
-- Assumes nothing: these are definitions.
use Rattle.std.specs.Prelude.{Result, Ok, Err}
use Rattle.frame.specs.declared.Refusal.{Refusal}
use Rattle.frame.specs.declared.Refusal.TheVariants.{Record}
use Rattle.frame.specs.Refusals.{number_of}
use Rattle.order.specs.Histories.{Judgement, refused}
use Rattle.history_row.specs.Rows.{none, added_all, verdict_of}
use Rattle.history_row.specs.declared.History.{History}
use Rattle.history_text.specs.Lines.{Lines, Records, Malformed}

-- the operations added one after the other, or the refusal of a malformed line
unfoldable pub reading_of : Lines → Result History Refusal
reading_of (Records ops) = Ok (added_all none ops)
reading_of Malformed = Err Record

unfoldable pub answer_by : Result History Refusal → Judgement
answer_by (Ok h) = verdict_of h
answer_by (Err r) = refused (number_of r)
