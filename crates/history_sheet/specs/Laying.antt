-- The whole outcome of laying a history out: the answer, and every byte of the lent area. Document 02, F-5: "A history without an order answers an offending
-- pair and, like a refused one, needs no area and writes nothing." Assumes nothing: these are definitions.
use Rattle.std.specs.Prelude.{ℕ, ◌*◌, List, map, ltb, length, Result, Ok, Err}
use Rattle.std.proofs.lemmas.List.Edits.{sets}
use Rattle.area.specs.Area.{pick}
use Rattle.area.specs.Responses.{Response, turned_down, gives}
use Rattle.order.specs.Histories.{row_of, Finding, has_order, no_order, judged}
use Rattle.order.specs.declared.operation.Operation.{Operation}
use Rattle.history_text.specs.Lines.{Lines, Records, Malformed, lines_of}
use Rattle.history_sheet.specs.Sheet.{page_size, pages_of, sheet_of}
use Rattle.order.specs.declared.judge.Fault.{Fault}
use Rattle.order.specs.declared.judge.Fault.TheVariants.{Offending, Refused}

-- what a history that is not refused gives: how many pages, or an offending pair by the line numbers of its earlier and of its later operation
pub data SheetResult : Type 0 where
  pages_laid : ℕ → SheetResult
  unordered : ℕ → ℕ → SheetResult

-- what the code's answer says
abbrev pub laid_response : Result ℕ Fault → Response SheetResult
laid_response (Ok n) = gives (pages_laid n)
laid_response (Err (Offending p)) = gives (unordered p.earlier p.later)
laid_response (Err (Refused x)) = turned_down x

pub record Outcome : Type 0 where
  pub answer : Response SheetResult
  pub out : List ℕ

abbrev pub outcome : Response SheetResult → List ℕ → Outcome
outcome x out = record { answer = x; out = out }

-- the operations of a history "in the order found"
unfoldable pub in_order : List Operation → List Operation
in_order ops = map (λ e. e.operation) (row_of ops)

-- the pages of operations in a row, from the front of the area on; the bytes after them stay as lent; refusal 10, "lent area short"
unfoldable pub laid_out : List Operation → List ℕ → Outcome
laid_out row out =
    pick (ltb (length out) (pages_of (length row) * page_size)) (outcome (turned_down 10) out)
    (outcome (gives (pages_laid (pages_of (length row)))) (sets out 0 (sheet_of row)))

-- the history is judged first, which needs no area
unfoldable pub laying_by : Response Finding → List Operation → List ℕ → Outcome
laying_by (turned_down x) ops out = outcome (turned_down x) out
laying_by (gives (no_order a b)) ops out = outcome (gives (unordered a b)) out
laying_by (gives (has_order m)) ops out = laid_out (in_order ops) out

unfoldable pub laying_of : Lines → List ℕ → Outcome
laying_of (Records ops) out = laying_by (judged ops).answer ops out
laying_of Malformed out = outcome (turned_down 18) out

unfoldable pub laying : List ℕ → List ℕ → Outcome
laying text out = laying_of (lines_of text) out
