-- An insertion's answer can be told from what it says, and so can a search's: no two answers say the same. Assumes nothing.
use Prim.Native.Nat.{ℕ}
use mathlib.Core.Path.{◌≡◌, refl, ap}
use mathlib.Core.Option.{Option, none, some}
use mathlib.Core.List.{[], ◌∷◌}
use Rattle.area.specs.Area.{numbered}
use Rattle.area.specs.Responses.{Response, turned_down, gives}
use Rattle.accession_index.specs.Index.{number_of, insertion_response, found_place}
use Rattle.accession_index.specs.declared.Refusal.{Refusal}
use Rattle.accession_index.specs.declared.Refusal.TheVariants.{Full, Short}
use Rattle.std.specs.Prelude as Std
use Rattle.std.specs.Prelude.{Result, Ok, Err, Some, None}

-- the refusal with the number n (25 where none has it)
abbrev refusal : ℕ → Refusal
refusal n = numbered number_of Full (Full ∷ Short ∷ []) n

refusal_back : (r : Refusal) → refusal (number_of r) ≡ r
refusal_back Full = refl
refusal_back Short = refl

abbrev insertion_in : Response ℕ → Result ℕ Refusal
insertion_in (gives p) = Ok p
insertion_in (turned_down n) = Err (refusal n)

pub insertion_back : (a : Result ℕ Refusal) → insertion_in (insertion_response a) ≡ a
insertion_back (Ok p) = refl
insertion_back (Err r) = ap Err (refusal_back r)

abbrev found_in : Option ℕ → Std.Option ℕ
found_in (some p) = Some p
found_in none = None

pub found_back : (f : Std.Option ℕ) → found_in (found_place f) ≡ f
found_back (Some p) = refl
found_back None = refl
