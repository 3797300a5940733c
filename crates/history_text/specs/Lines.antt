-- The text of a history. Document 01: "Fields: kind, start, end, time, writer, sequence. A record is malformed unless it has these six, without leading
-- zeros, one space between, a newline after, R or W, start below end, each number in its width and writer at most 8." Request F-2: "Each history line gains
-- a seventh field, the caller, 0 to 8"; "A caller above 8 or a line of six fields is malformed". That start is below end is part of `malformed`. 10 is a
-- newline, 32 a space, 82 R and 87 W. Assumes nothing: these are definitions.
use Rattle.std.specs.Prelude.{ℕ, Bool, true, false, List, [], ◌∷◌, map, eqb, get_or}
use Rattle.area.specs.Area.{pick, same}
use Rattle.order.specs.Histories.{Judgement, refused, judged, no_operation}
use Rattle.order.specs.declared.operation.Operation.{Operation}
use Rattle.history_text.specs.Decimals.{value_of, is_number}

-- ---- a text in pieces

-- a byte in front of the first piece
unfoldable pub longer : ℕ → List (List ℕ) → List (List ℕ)
longer x [] = []
longer x (piece ∷ pieces) = (x ∷ piece) ∷ pieces

-- the pieces into which the bytes c divide a text: one more than there are such bytes
unfoldable pub split : ℕ → List ℕ → List (List ℕ)
split c [] = [] ∷ []
split c (x ∷ text) = pick (eqb x c) ([] ∷ split c text) (longer x (split c text))

-- ---- a line

unfoldable pub is_write : List ℕ → Bool
is_write field = same field (87 ∷ [])

-- "R or W"
unfoldable pub is_kind : List ℕ → Bool
is_kind field = pick (same field (82 ∷ [])) true (is_write field)

-- the largest start, end, time, writer, sequence and caller
unfoldable pub widths : List ℕ
widths = 4294967295 ∷ 4294967295 ∷ 18446744073709551615 ∷ 8 ∷ 4294967295 ∷ 8 ∷ []

-- a number for each width
unfoldable pub are_numbers : List ℕ → List (List ℕ) → Bool
are_numbers [] [] = true
are_numbers [] (field ∷ fields) = false
are_numbers (width ∷ widths) [] = false
are_numbers (width ∷ widths) (field ∷ fields) = pick (is_number width field) (are_numbers widths fields) false

-- whether fields are those of a record: a kind and the numbers
unfoldable pub is_formed : List (List ℕ) → Bool
is_formed [] = false
is_formed (kind ∷ numbers) = pick (is_kind kind) (are_numbers widths numbers) false

-- the record of a kind and numbers
abbrev pub record_with : Bool → List ℕ → Operation
record_with write x =
    record { write = write; start = get_or x 0 0; end = get_or x 1 0; time = get_or x 2 0; writer = get_or x 3 0; sequence = get_or x 4 0; caller = get_or x 5 0 }

-- the record that fields say
unfoldable pub record_of : List (List ℕ) → Operation
record_of [] = no_operation
record_of (kind ∷ numbers) = record_with (is_write kind) (map value_of numbers)

-- ---- the whole text

-- the records of all lines, or a malformed line
pub data Lines : Type 0 where
  Records : List Operation → Lines
  Malformed : Lines

unfoldable pub record_then : Operation → Lines → Lines
record_then a (Records ops) = Records (a ∷ ops)
record_then a Malformed = Malformed

-- "a newline after": after the last newline there is nothing
unfoldable pub records_of : List (List ℕ) → Lines
records_of [] = Malformed
records_of (rest ∷ []) = pick (same rest []) (Records []) Malformed
records_of (line ∷ next ∷ lines) = pick (is_formed (split 32 line)) (record_then (record_of (split 32 line)) (records_of (next ∷ lines))) Malformed

unfoldable pub lines_of : List ℕ → Lines
lines_of text = records_of (split 10 text)

-- the answer to a text: 18 where a line is malformed, else what is judged of its records
unfoldable pub answer_of : Lines → Judgement
answer_of (Records ops) = judged ops
answer_of Malformed = refused 18

unfoldable pub answer_to : List ℕ → Judgement
answer_to text = answer_of (lines_of text)
