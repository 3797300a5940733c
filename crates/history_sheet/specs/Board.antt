-- A sheet read again, as a reader of the board does: a line's fields are cut at their columns. And what is proved of sheets (`Theorem`; its proof is in
-- proofs/Theorem.antt). Assumes nothing: these are definitions and statements.
use Rattle.std.specs.Prelude.{◌≡◌, ℕ, ◌+◌, ◌*◌, ◌/◌, ◌%◌, ◌<◌, ◌≤◌, List, [], ◌∷◌, map, eqb, length, get_or, take, drop}
use Rattle.area.specs.Area.{pick, part}
use Rattle.order.specs.Histories.{no_operation}
use Rattle.order.specs.Orders.{Row, in_place}
use Rattle.order.specs.declared.operation.Operation.{Operation}
use Rattle.history_text.specs.Decimals.{value_of, decimal}
use Rattle.history_text.specs.Lines.{record_of}
use Rattle.history_text.specs.Printed.{InWidth, AllInWidth}
use Rattle.history_sheet.specs.Sheet.{line_columns, on_page, page_size, pages_of, aligned, columns, sheet_of}
use Rattle.history_sheet.specs.Laying.{in_order}

-- ---- reading

-- line r of a sheet, counted from 0, without its newline
abbrev pub line_on : List ℕ → ℕ → List ℕ
line_on sheet r = part sheet (73 * r) line_columns

-- the line for place i + 1: 59 of the 60 lines of each page
abbrev pub line_for : ℕ → ℕ
line_for i = 60 * (i / on_page) + i % on_page

-- the fields of a line, which has one space between its columns
unfoldable pub cut : List ℕ → List ℕ → List (List ℕ)
cut [] line = []
cut (w ∷ ws) line = take w line ∷ cut ws (drop (w + 1) line)

-- a field without the spaces before it
unfoldable pub trimmed : List ℕ → List ℕ
trimmed [] = []
trimmed (c ∷ text) = pick (eqb c 32) (trimmed text) (c ∷ text)

unfoldable pub fields_in : List ℕ → List (List ℕ)
fields_in line = map trimmed (cut columns line)

-- the place, which is the first field; and the operation, which the other fields say as in a line of a history
unfoldable pub place_of : List (List ℕ) → ℕ
place_of [] = 0
place_of (place ∷ fields) = value_of place

unfoldable pub operation_of : List (List ℕ) → Operation
operation_of [] = no_operation
operation_of (place ∷ fields) = record_of fields

-- ---- what is proved

-- a row that an accepted history can have: at most 64 operations, each number in its width
pub record Fits (row : List Operation) : Type 0 where
  pub few : length row ≤ 64
  pub widths : (i : ℕ) → i < length row → InWidth (get_or row i no_operation)

pub record Theorem : Type 0 where
  -- a sheet has 60 lines of 73 bytes for each page: 72 columns and a newline
  pub size : (row : List Operation) → Fits row → length (sheet_of row) ≡ pages_of (length row) * page_size
  pub newlines : (row : List Operation) → Fits row → (r : ℕ) → r < pages_of (length row) * 60 → get_or (sheet_of row) (73 * r + 72) 0 ≡ 10
  -- line 60 of each page holds its number, right-aligned
  pub numbered : (row : List Operation) → Fits row → (p : ℕ) → p < pages_of (length row)
      → line_on (sheet_of row) (60 * p + 59) ≡ aligned line_columns (decimal (p + 1))
  -- the line of each place reads back to its place and its operation
  pub back : (row : List Operation) → Fits row → (i : ℕ) → i < length row
      → (place_of (fields_in (line_on (sheet_of row) (line_for i))) ≡ i + 1)
      × (operation_of (fields_in (line_on (sheet_of row) (line_for i))) ≡ get_or row i no_operation)
  -- so a sheet determines the row
  pub determines : (a b : List Operation) → Fits a → Fits b → sheet_of a ≡ sheet_of b → a ≡ b
  -- each operation of a history is on its sheet once: every line number has one place, and the place's line says the operation of that line
  pub once : (ops : List Operation) → AllInWidth ops → length ops ≤ 64
      → (row : List ℕ) × Row ops row
      × ((p : ℕ) → p < length row → operation_of (fields_in (line_on (sheet_of (in_order ops)) (line_for p))) ≡ in_place ops row p)
  -- "an empty history gives one page"; and 60 operations take two
  pub empty : pages_of 0 ≡ 1
  pub full : (pages_of 59 ≡ 1) × (pages_of 60 ≡ 2)
