-- The lines that are printed for records. Assumes nothing: these are definitions.
use Rattle.std.specs.Prelude.{ℕ, ◌≤◌, List, [], ◌∷◌, ◌++◌, map}
use Rattle.area.specs.Area.{pick}
use Rattle.order.specs.declared.operation.Operation.{Operation}
use Rattle.history_text.specs.Decimals.{decimal}
use Rattle.history_text.specs.Lines.{widths}

-- pieces as one text, with a byte c between them
unfoldable pub join : ℕ → List (List ℕ) → List ℕ
join c [] = []
join c (piece ∷ []) = piece
join c (piece ∷ next ∷ pieces) = piece ++ c ∷ join c (next ∷ pieces)

-- the kind and the numbers of a record
unfoldable pub kind_of : Operation → List ℕ
kind_of a = pick a.write 87 82 ∷ []

abbrev pub numbers_in : Operation → List ℕ
numbers_in a = a.start ∷ a.end ∷ a.time ∷ a.writer ∷ a.sequence ∷ a.caller ∷ []

unfoldable pub fields_of : Operation → List (List ℕ)
fields_of a = kind_of a ∷ map decimal (numbers_in a)

-- one space between, a newline after
unfoldable pub printed : Operation → List ℕ
printed a = join 32 (fields_of a) ++ (10 ∷ [])

unfoldable pub printed_all : List Operation → List ℕ
printed_all [] = []
printed_all (a ∷ ops) = printed a ++ printed_all ops

-- numbers that are each in their width
abbrev pub Within : List ℕ → List ℕ → Type 0
Within [] [] = Unit {0}
Within [] (x ∷ numbers) = ⊥
Within (width ∷ widths) [] = ⊥
Within (width ∷ widths) (x ∷ numbers) = (x ≤ width) × Within widths numbers

abbrev pub InWidth : Operation → Type 0
InWidth a = Within widths (numbers_in a)

abbrev pub AllInWidth : List Operation → Type 0
AllInWidth [] = Unit {0}
AllInWidth (a ∷ ops) = InWidth a × AllInWidth ops
