-- Stages of the code that lays a sheet: pieces with a space after each, and the operations that line numbers name. Sheet.antt says what a sheet is.
-- Assumes nothing: these are definitions.
use Rattle.std.specs.Prelude.{ℕ, ◌-◌, ◌<◌, ◌≤◌, List, [], ◌∷◌, ◌++◌, get_or}
use Rattle.area.specs.Area.{table}
use Rattle.order.specs.Histories.{no_operation}
use Rattle.order.specs.declared.operation.Operation.{Operation}
use Rattle.history_text.specs.Printed.{InWidth}

-- pieces, each with a space after it
unfoldable pub spaced : List (List ℕ) → List ℕ
spaced [] = []
spaced (piece ∷ pieces) = piece ++ 32 ∷ spaced pieces

-- the operation that entry i of lines names; line numbers are counted from 1
unfoldable pub named : List Operation → List ℕ → ℕ → Operation
named rows lines i = get_or rows (get_or lines i 0 - 1) no_operation

unfoldable pub named_all : List Operation → List ℕ → ℕ → List Operation
named_all rows lines m = table m (named rows lines)

-- the first m line numbers name operations that are there, and whose numbers are within their widths
pub record Named (rows : List Operation) (lines : List ℕ) (m : ℕ) : Type 0 where
  pub few : m ≤ 64
  pub low : (i : ℕ) → i < m → 1 ≤ get_or lines i 0
  pub high : (i : ℕ) → i < m → get_or lines i 0 ≤ 64
  pub widths : (i : ℕ) → i < m → InWidth (named rows lines i)
