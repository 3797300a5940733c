-- What is proved of frames and refusals (`Theorem`; its proof is in proofs/Theorem.antt). Demand 2: "Frames read back to what was written, only written forms
-- are read". Assumes nothing: these are definitions and statements.
use Rattle.std.specs.Prelude.{ℕ, ◌≡◌, List, [], ◌∷◌, map, Ok}
use Rattle.area.specs.Area.{Bytes}
use Rattle.blocks.specs.declared.Params.{Params}
use Rattle.frame.specs.declared.Header.{Header}
use Rattle.frame.specs.declared.Refusal.{Refusal}
use Rattle.frame.specs.Refusals.{number_of, refusals, refusal}
use Rattle.frame.specs.Params.{Bounded}
use Rattle.frame.specs.Messages.{Message, Formed}
use Rattle.frame.specs.Frames.{build, opened, message_in, header_for}

-- the whole of a message from its frame: it opens, and says what was said
pub record Back (g : Params) (m : Message) : Type 0 where
  pub opens : opened g (build m) ≡ Ok (header_for m)
  pub says : message_in g (header_for m) (build m) ≡ m

-- the bytes f are the frame of what they say under the header h, and that is within its bounds
pub record Written (g : Params) (f : List ℕ) (h : Header) : Type 0 where
  pub formed : Formed g (message_in g h f)
  pub is : build (message_in g h f) ≡ f

pub record Theorem : Type 0 where
  -- what is built opens, and says what was said
  pub back : (g : Params) → Bounded g → (m : Message) → Formed g m → Back g m
  -- only written forms open
  pub only : (g : Params) (f : List ℕ) (h : Header) → Bytes f → opened g f ≡ Ok h → Written g f h
  -- document 01's numbers: there is one refusal for each of 1 to 19
  pub numbers : map number_of refusals ≡ 1 ∷ 2 ∷ 3 ∷ 4 ∷ 5 ∷ 6 ∷ 7 ∷ 8 ∷ 9 ∷ 10 ∷ 11 ∷ 12 ∷ 13 ∷ 14 ∷ 15 ∷ 16 ∷ 17 ∷ 18 ∷ 19 ∷ []
  pub one_each : (r : Refusal) → refusal (number_of r) ≡ r
