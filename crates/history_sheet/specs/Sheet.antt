-- The season sheet. Document 02, F-5: "Lay an accepted history out on pages of 72 columns and 60 lines. Each operation has one line, in the order found:
-- order place (3 columns), kind (1), start (10), end (10), time (20), writer (1), sequence (10) and caller (1). Numbers are right-aligned with spaces, one
-- space stands between fields, and spaces fill the line. Each page ends with a line holding its number, right-aligned; unused lines are spaces. A newline
-- after each line is not counted. A page has 59 operations; an empty history gives one page." 10 is a newline, 32 a space.
-- Assumes nothing: these are definitions.
use Rattle.std.specs.Prelude.{ℕ, ◌+◌, ◌-◌, ◌*◌, ◌/◌, List, [], ◌∷◌, ◌++◌, eqb, ltb, length, get_or, replicate}
use Rattle.area.specs.Area.{pick, joined}
use Rattle.order.specs.Histories.{no_operation}
use Rattle.order.specs.declared.operation.Operation.{Operation}
use Rattle.history_text.specs.Decimals.{decimal}
use Rattle.history_text.specs.Printed.{join, fields_of}

-- ---- sizes

-- "pages of 72 columns", "A page has 59 operations"
abbrev pub line_columns : ℕ
line_columns = 72

abbrev pub on_page : ℕ
on_page = 59

-- 60 lines, each with its newline
abbrev pub page_size : ℕ
page_size = 60 * 73

-- how many pages n operations take: "an empty history gives one page"
unfoldable pub pages_of : ℕ → ℕ
pages_of n = pick (eqb n 0) 1 ((n + 58) / on_page)

-- ---- a line

-- a text "right-aligned with spaces" in w columns
unfoldable pub aligned : ℕ → List ℕ → List ℕ
aligned w text = replicate (w - length text) 32 ++ text

-- the columns of place, kind, start, end, time, writer, sequence and caller
unfoldable pub columns : List ℕ
columns = 3 ∷ 1 ∷ 10 ∷ 10 ∷ 20 ∷ 1 ∷ 10 ∷ 1 ∷ []

-- each field in its columns
unfoldable pub aligned_all : List ℕ → List (List ℕ) → List (List ℕ)
aligned_all [] fields = []
aligned_all (w ∷ ws) [] = []
aligned_all (w ∷ ws) (field ∷ fields) = aligned w field ∷ aligned_all ws fields

-- "spaces fill the line"
unfoldable pub filled : List ℕ → List ℕ
filled text = text ++ replicate (line_columns - length text) 32

-- the line of the operation a at a place: the place, and then the fields that a line of a history has
unfoldable pub operation_line : ℕ → Operation → List ℕ
operation_line place a = filled (join 32 (aligned_all columns (decimal place ∷ fields_of a)))

-- ---- pages; row has the operations in the order found

-- "A newline after each line is not counted"
unfoldable pub ended : List ℕ → List ℕ
ended line = line ++ (10 ∷ [])

-- the line of index i, for the place i + 1; "unused lines are spaces"
unfoldable pub place_line : List Operation → ℕ → List ℕ
place_line row i = ended (pick (ltb i (length row)) (operation_line (i + 1) (get_or row i no_operation)) (filled []))

-- page p, counted from 0: the lines of its operations, and its number
unfoldable pub page_of : List Operation → ℕ → List ℕ
page_of row p = joined (place_line row) (on_page * p) on_page ++ ended (aligned line_columns (decimal (p + 1)))

unfoldable pub sheet_of : List Operation → List ℕ
sheet_of row = joined (page_of row) 0 (pages_of (length row))
