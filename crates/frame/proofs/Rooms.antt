-- Frames of messages within their bounds are no longer than the largest frame, and say how long they are; and the room that is left after frames.
-- Assumes nothing.
use Prim.Native.Nat.{ℕ, ◌+◌, ◌*◌, ◌≤◌}
use native.Mathlib.Omega.{arith}
use native.Mathlib.Nat.{add-mul, suc-mul, mul-le-mul_left, mul-le-mul_right}
use mathlib.Core.List.{List, [], ◌∷◌, ◌++◌, Memᴰ}
use mathlib.Core.Path.{◌≡◌, refl, ap, ◌∙◌}
use lib.ListN.{length, length-append}
use lib.Seq.{length-sets}
use Rattle.area.specs.Numbers.{be2}
use Rattle.area.proofs.Numbers.{length_bytes8, be2_front}
use Rattle.blocks.specs.declared.Params.{Params}
use Rattle.frame.specs.Params.{entry_length, largest_frame, Bounded}
use Rattle.frame.specs.Messages.{Body, get_stamp, ack, ask_read, read_complete}
use Rattle.frame.specs.Messages.{stamp_is, block_is, value_is, report, Message, Sending, FormedBody, Formed}
use Rattle.frame.specs.Frames.{kind_of, entry_bytes, stamp_bytes, body_bytes, build}
use Rattle.frame.specs.declared.Place.{Place}
use Rattle.frame.specs.Outbox.{frames, receivers, Outbox, outbox, sent, Room}
use Rattle.frame.proofs.RoundTrip.{length_frame, length_field, length_entry, length_offer, length_stamp}
use Rattle.frame.proofs.Sizes.{small}

pub body_room : (g : Params) (b : Body) → FormedBody g b → length (body_bytes b) ≤ 13 + entry_length g
unfolding body_bytes
body_room g get_stamp f = omega arith
body_room g ack f = omega arith
body_room g ask_read f = omega arith
body_room g read_complete f = omega arith
body_room g (stamp_is T) f = omega (arith, length_bytes8 T)
body_room g (block_is z o) f = omega (arith, length_offer g o f.0)
body_room g (report T) f = omega (arith, length_bytes8 T)
body_room g (value_is s e) f = omega (arith, length-append (stamp_bytes s) (entry_bytes e), length_stamp s, length_entry g e f.0)

pub build_room : (g : Params) (m : Message) → FormedBody g m.body → length (build m) ≤ largest_frame g
unfolding build largest_frame
build_room g m f =
    let l = length_frame (kind_of m.body) m.client m.sequence (body_bytes m.body) in
    omega (arith, l, body_room g m.body f)

-- every sending's body is within its bounds
abbrev pub AllFormed : Params → List Sending → Type 0
AllFormed g [] = Unit {0}
AllFormed g (x ∷ xs) = FormedBody g x.says.body × AllFormed g xs

pub all_formed : (g : Params) (xs : List Sending) → ((x : Sending) → Memᴰ x xs → Formed g x.says) → AllFormed g xs
all_formed g [] f = tt
all_formed g (x ∷ xs) f = ((f x (Memᴰ.head refl)).body, all_formed g xs (λ y u. f y (Memᴰ.tail u)))

pub frames_room : (g : Params) (xs : List Sending) → AllFormed g xs → length (frames xs) ≤ length xs * largest_frame g
unfolding frames
frames_room g [] f = omega arith
frames_room g (x ∷ xs) f =
    rw suc-mul (omega (arith, length-append (build x.says) (frames xs), build_room g x.says f.0, frames_room g xs f.1))

-- a frame's length field says how long it is, whatever follows it
module _ (g : Params) (B : Bounded g) where
  frame_says : (m : Message) → FormedBody g m.body → 2 + be2 (build m) 0 ≡ length (build m)
  unfolding build
  frame_says m f =
      let S = small g B in
      let r = body_room g m.body f in
      omega (arith, length_field (kind_of m.body) m.client m.sequence (body_bytes m.body) (omega (arith, r, S.list_room, S.block_room)))

  pub front_says : (m : Message) → FormedBody g m.body → (rest : List ℕ) → 2 + be2 (build m ++ rest) 0 ≡ length (build m)
  front_says m f rest = ap (λ k. 2 + k) (be2_front (build m) rest (omega (arith, frame_says m f))) ∙ frame_says m f

-- ---- the room of lent areas

-- room for m frames is room for fewer that are smaller
pub room_within : (p : Place) (m k size small out to : ℕ) → k ≤ m → small ≤ size → Room p m size out to → Room p k small out to
room_within p m k size small out to h s R =
    let d : k * size ≤ m * size = mul-le-mul_right size h in
    let x : k * small ≤ k * size = mul-le-mul_left k s in
    record { out_room_lem = omega (arith, R.out_room_lem); to_room_lem = omega (arith, R.to_room_lem) }

-- of room for N frames k were taken: there is room for m more, which may be smaller
pub room_left : (p r : Place) (o t o₀ t₀ : List ℕ) (xs : List Sending) (k m N size size' : ℕ)
    → outbox o t r ≡ sent (outbox o₀ t₀ p) xs → length (frames xs) ≤ k * size → length xs ≤ k → k + m ≤ N → size' ≤ size
    → Room p N size (length o₀) (length t₀) → Room r m size' (length o) (length t)
unfolding sent
room_left p r o t o₀ t₀ xs k m N size size' e f l h s R =
    let a : r.at ≡ p.at + length (frames xs) = ap (λ (q : Outbox). q.place.at) e in
    let c : r.count ≡ p.count + length xs = ap (λ (q : Outbox). q.place.count) e in
    let u : length o ≡ length o₀ = ap (λ (q : Outbox). length q.out) e ∙ length-sets o₀ p.at (frames xs) in
    let v : length t ≡ length t₀ = ap (λ (q : Outbox). length q.to) e ∙ length-sets t₀ (2 * p.count) (receivers xs) in
    let d : (k + m) * size ≡ k * size + m * size = add-mul k m size in
    let b : (k + m) * size ≤ N * size = mul-le-mul_right size h in
    let w : m * size' ≤ m * size = mul-le-mul_left m s in
    record { out_room_lem = omega (arith, R.out_room_lem); to_room_lem = omega (arith, R.to_room_lem) }
