-- An answer of the block code can be told from what it says, so no two answers say the same. Assumes nothing.
use mathlib.Core.Path.{◌≡◌, refl, ap}
use Rattle.area.specs.Responses.{Response, turned_down, gives}
use Rattle.blocks.specs.declared.Fault.{Fault}
use Rattle.blocks.specs.declared.Fault.TheVariants.{Parties, Threshold, Length, Blocks, Room, Disagreement}
use Rattle.std.specs.Prelude.{Ok, Err}
use Rattle.blocks.specs.Params.{Coded, number_of, fault}
use Rattle.blocks.specs.Calls.{code_response}

fault_back : (f : Fault) → fault (number_of f) ≡ f
fault_back Parties = refl
fault_back Threshold = refl
fault_back Length = refl
fault_back Blocks = refl
fault_back Room = refl
fault_back Disagreement = refl

abbrev coded_in : Response (Unit {0}) → Coded
coded_in (gives x) = Ok tt
coded_in (turned_down n) = Err (fault n)

pub coded_back : (c : Coded) → coded_in (code_response c) ≡ c
coded_back (Ok x) = refl
coded_back (Err f) = ap Err (fault_back f)
