-- Frames sent: end to end in the out area, and for each the class and number of its receiver in the to area, "the answer names each
-- sent frame's receiver". Assumes nothing: these are definitions.
use Rattle.std.specs.Prelude.{ℕ, zero, suc, ◌+◌, ◌*◌, ◌≤◌, List, [], ◌∷◌, ◌++◌, length, eqb}
use Rattle.std.proofs.lemmas.List.Edits.{sets}
use Rattle.area.specs.Area.{pick}
use Rattle.frame.specs.declared.Party.{Party}
use Rattle.frame.specs.declared.Party.TheVariants as P
use Rattle.frame.specs.declared.Place.{Place}
use Rattle.frame.specs.declared.Broadcast.{Broadcast}
use Rattle.frame.specs.declared.Broadcast.TheVariants as B
use Rattle.frame.specs.declared.Ask.{Ask}
use Rattle.frame.specs.declared.Ask.TheVariants as A
use Rattle.frame.specs.Messages.{Sending, Stage, echo, ready, Body, get_stamp, ask_read, read_complete}
use Rattle.frame.specs.Frames.{build}

-- frames end to end
unfoldable pub frames : List Sending → List ℕ
frames [] = []
frames (x ∷ xs) = build x.says ++ frames xs

-- the class (0 client, 1 server) and the number of a party
unfoldable pub party_bytes : Party → List ℕ
party_bytes (P.Client c) = 0 ∷ c ∷ []
party_bytes (P.Server j) = 1 ∷ j ∷ []

-- the party that they name
unfoldable pub party_in : ℕ → ℕ → Party
party_in class j = pick (eqb class 0) (P.Client j) (P.Server j)

unfoldable pub receivers : List Sending → List ℕ
receivers [] = []
receivers (x ∷ xs) = party_bytes x.receiver ++ receivers xs

-- the two areas, with the place of the next frame
pub record Outbox : Type 0 where
  pub out : List ℕ
  pub to : List ℕ
  pub place : Place

abbrev pub outbox : List ℕ → List ℕ → Place → Outbox
outbox out to p = record { out = out; to = to; place = p }

abbrev pub first_place : Place
first_place = record { at = 0; count = 0 }

-- after xs are sent; every other byte stays as it is
unfoldable pub sent : Outbox → List Sending → Outbox
sent q xs = record {
  out = sets q.out q.place.at (frames xs);
  to = sets q.to (2 * q.place.count) (receivers xs);
  place = record { at = q.place.at + length (frames xs); count = q.place.count + length xs };
}

-- after one frame f is sent to a party
unfoldable pub wrote : Outbox → Party → List ℕ → Outbox
wrote q p f = record {
  out = sets q.out q.place.at f;
  to = sets q.to (2 * q.place.count) (party_bytes p);
  place = record { at = q.place.at + length f; count = q.place.count + 1 };
}

-- after the frame f is sent to the parties 1 to m of a class
unfoldable pub wrote_to : ℕ → Outbox → List ℕ → ℕ → Outbox
wrote_to class q f zero = q
wrote_to class q f (suc m) = wrote (wrote_to class q f m) (party_in class (suc m)) f

-- room for m frames of a size from a place on, in areas of these lengths
pub record Room (p : Place) (m size out to : ℕ) : Type 0 where
  pub out_room_lem : p.at + m * size ≤ out
  pub to_room_lem : 2 * (p.count + m) ≤ to

-- the code's names of a broadcast's steps and of what clients ask
abbrev pub stage_of : Broadcast → Stage
stage_of B.Echo = echo
stage_of B.Ready = ready

abbrev pub ask_of : Ask → Body
ask_of A.GetStamp = get_stamp
ask_of A.Read = ask_read
ask_of A.ReadComplete = read_complete
