-- How much room the frames of a step take. Assumes nothing.
use Prim.Native.Nat.{ℕ, zero, suc, ◌+◌, ◌*◌, ◌≤◌}
use native.Mathlib.Omega.{arith}
use native.Mathlib.Nat.{suc-mul}
use mathlib.Core.Path.{◌≡◌, ap, ◌∙◌}
use mathlib.Core.Bool.{Bool, true, false}
use mathlib.Core.List.{List, [], ◌∷◌, ◌++◌}
use lib.ListN.{length, length-append}
use Rattle.area.specs.Area.{pick}
use Rattle.area.proofs.Sets.{length_part}
use Rattle.blocks.specs.declared.Params.{Params}
use Rattle.frame.specs.Params.{width, listed, largest_frame, Bounded}
use Rattle.frame.specs.Chunks.{entry_at, chunk_bytes, chunk_at, block_place}
use Rattle.frame.proofs.Sizes.{small}
use Rattle.frame.specs.declared.Stamp.{Stamp}
use Rattle.frame.specs.declared.Place.{Place}
use Rattle.frame.specs.Messages.{Entry, message, Message, Sending, value_is, to_from, to_all}
use Rattle.frame.specs.Frames.{offer_at, value_at, kind_of, entry_bytes, stamp_bytes, body_bytes, build}
use Rattle.frame.specs.Outbox.{frames, outbox, sent, Room}
use Rattle.frame.proofs.RoundTrip.{length_frame, length_stamp}
use Rattle.frame.proofs.Rooms.{room_within, room_left}

-- ---- values

pub length_value : (c q : ℕ) (x : Stamp) (e : Entry) → length (build (message c q (value_is x e))) ≡ value_at + (length e.digests + length e.block)
unfolding build kind_of body_bytes entry_bytes
length_value c q x e =
    omega (
      arith,
      length_frame 11 c q (stamp_bytes x ++ (e.digests ++ e.block)),
      length-append (stamp_bytes x) (e.digests ++ e.block),
      length_stamp x,
      length-append e.digests e.block,
    )

one_length : (y : Sending) → length (frames (y ∷ [])) ≡ length (build y.says)
unfolding frames
one_length y = omega (arith, length-append (build y.says) [])

pub record Few (xs : List Sending) (k size : ℕ) : Type 0 where
  pub bytes : length (frames xs) ≤ k * size
  pub number : length xs ≤ k

pub few_none : (size : ℕ) → Few [] 0 size
unfolding frames
few_none size = record { bytes = omega arith; number = omega arith }

pub few_one : (b : Bool) (y : Sending) (size : ℕ) → length (build y.says) ≡ size → Few (pick b (y ∷ []) []) 1 size
unfolding pick frames
few_one true y size e = record { bytes = omega (arith, one_length y); number = omega arith }
few_one false y size e = record { bytes = omega arith; number = omega arith }

pub few_more : (b : Bool) (y : Sending) (l : List Sending) (m size : ℕ) → length (build y.says) ≡ size → Few l m size → Few (pick b (y ∷ l) l) (suc m) size
unfolding pick frames
few_more true y l m size e F = record {
  bytes = omega (arith, length-append (build y.says) (frames l), F.bytes, suc-mul m size);
  number = omega (arith, F.number);
}
few_more false y l m size e F = record { bytes = omega (arith, F.bytes, suc-mul m size); number = omega (arith, F.number) }

-- the size of a value, of which the entry lies in chunk f
pub value_size : (g : Params) (a : List ℕ) (f : ℕ) (d b : List ℕ) → Bounded g → chunk_at f + chunk_bytes ≤ length a → d ≡ (entry_at g a f).digests
    → b ≡ (entry_at g a f).block → value_at + (length d + length b) ≡ largest_frame g
unfolding largest_frame entry_at
value_size g a f d b B h i j =
    let M = small g B in
    let u : length d ≡ listed g = ap length i ∙ length_part a (chunk_at f) (listed g) (omega (arith, M.list_room)) in
    let v : length b ≡ width g = ap length j ∙ length_part a (block_place f) (width g) (omega (arith, M.block_room)) in
    omega arith

-- ---- one message to all servers

from_few : (m : Message) (j n size : ℕ) → length (build m) ≤ size → Few (to_from (λ i. m) j n) n size
unfolding to_from frames
from_few m j zero size h = few_none size
from_few m j (suc n) size h =
    let F = from_few m (suc j) n size h in
    record {
      bytes = omega (arith, length-append (build m) (frames (to_from (λ i. m) (suc j) n)), F.bytes, suc-mul n size);
      number = omega (arith, F.number);
    }

due_few : (d : Bool) (l : List Sending) (n size : ℕ) → Few l n size → Few (pick d l []) n size
unfolding pick frames
due_few true l n size F = F
due_few false l n size F = record { bytes = omega arith; number = omega arith }

-- after one message to all, if it is due, there is room for k frames more
pub all_room : (g : Params) (d : Bool) (m : Message) (p r : Place) (o t o₀ t₀ : List ℕ) (k size : ℕ) → length (build m) ≤ size
    → outbox o t r ≡ sent (outbox o₀ t₀ p) (pick d (to_all g (λ j. m)) []) → Room p (g.n + k) size (length o₀) (length t₀) → Room r k size (length o) (length t)
unfolding to_all
all_room g d m p r o t o₀ t₀ k size h f R =
    let F = due_few d (to_from (λ j. m) 1 g.n) g.n size (from_few m 1 g.n size h) in
    room_left p r o t o₀ t₀ (pick d (to_from (λ j. m) 1 g.n) []) g.n k (g.n + k) size size f F.bytes F.number (omega arith) (omega arith) R

pub stamp_room : (g : Params) (p : Place) (m out to : ℕ) → 1 ≤ m → Room p m (largest_frame g) out to → Room p 1 offer_at out to
unfolding largest_frame
stamp_room g p m out to l R =
    room_within p m 1 (largest_frame g) offer_at out to (omega arith) (omega arith) R
