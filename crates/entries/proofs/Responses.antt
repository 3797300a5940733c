-- A closing can be told from its number, and a reading or a writing from what it says, so no two say the same. Assumes
-- nothing.
use Rattle.std.specs.Prelude.{Ok, Err}
use Prim.Native.Nat.{ℕ}
use mathlib.Core.Path.{◌≡◌, refl, ap}
use mathlib.Core.Option.{Option, none, some}
use mathlib.Core.List.{[], ◌∷◌}
use Rattle.area.specs.Area.{numbered}
use Rattle.area.specs.Responses.{Response, turned_down, gives}
use Rattle.entries.specs.declared.Closing.{Closing}
use Rattle.entries.specs.declared.Closing.TheVariants as C
use Rattle.entries.specs.declared.Found.{Found}
use Rattle.entries.specs.declared.Survey.{Survey}
use Rattle.frame.specs.Refusals.{refusal}
use Rattle.frame.proofs.Responses.{one_each}
use Rattle.entries.specs.Entries.{Reading, closing_number, reading_response, Surveyed, surveyed}
use Rattle.entries.specs.Writing.{Writing, writing_response}

-- the closing with the number n (0 where none has it)
abbrev closing : ℕ → Closing
closing n = numbered closing_number C.Whole (C.Whole ∷ C.Malformed ∷ C.Cut ∷ []) n

pub closing_back : (c : Closing) → closing (closing_number c) ≡ c
closing_back C.Whole = refl
closing_back C.Malformed = refl
closing_back C.Cut = refl

abbrev reading_in : Response (Option Found) → Reading
reading_in (gives (some x)) = Ok x
reading_in (gives none) = Err C.Whole
reading_in (turned_down n) = Err (closing n)

pub reading_back : (r : Reading) → reading_in (reading_response r) ≡ r
reading_back (Ok x) = refl
reading_back (Err C.Whole) = refl
reading_back (Err C.Malformed) = refl
reading_back (Err C.Cut) = refl

abbrev survey_in : Surveyed → Survey
survey_in x = record { count = x.count; closing = closing x.closing }

pub survey_back : (s : Survey) → survey_in (surveyed s) ≡ s
survey_back s = ap (λ (c : Closing). record { count = s.count; closing = c }) (closing_back s.closing)

abbrev writing_in : Response ℕ → Writing
writing_in (gives m) = Ok m
writing_in (turned_down n) = Err (refusal n)

pub writing_back : (w : Writing) → writing_in (writing_response w) ≡ w
writing_back (Ok m) = refl
writing_back (Err r) = ap Err (one_each r)
