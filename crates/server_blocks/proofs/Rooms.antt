-- Room for the frames of a write, and what is left after them. Assumes nothing.
use Prim.Native.Nat.{ℕ, ◌+◌, ◌*◌, ◌≤◌}
use native.Mathlib.Omega.{arith}
use mathlib.Core.Path.{◌≡◌, ap, ◌∙◌}
use mathlib.Core.Bool.{Bool, true}
use mathlib.Core.List.{List, []}
use lib.ListN.{length}
use Rattle.area.specs.Area.{pick}
use Rattle.blocks.specs.declared.Params.{Params}
use Rattle.frame.specs.declared.Place.{Place}
use Rattle.frame.specs.Params.{Bounded, largest_frame, server_frames}
use Rattle.frame.specs.Messages.{Entry, entry, offer, Stage, Message, message, to_all, block_is}
use Rattle.frame.specs.Outbox.{outbox, sent, first_place, Room}
use Rattle.frame.specs.Chunks.{list_bytes, area_bytes, store_entry}
use Rattle.frame.specs.Frames.{offer_at, kind_of, offer_bytes, body_bytes, build}
use Rattle.frame.proofs.RoundTrip.{length_frame, length_offer}
use Rattle.frame.proofs.Chunks.{length_store}
use Rattle.frame.proofs.Sizes.{small}
use Rattle.frame.proofs.Rooms.{room_within}
use Rattle.server.proofs.Sending.{all_room}
use Rattle.server_blocks.specs.Stage.{Carried, freed_frames}

-- room for an offer to all servers
pub offer_room : (g : Params) (p : Place) (d b out to : ℕ) → Carried g d b → Room p (server_frames g) (largest_frame g) out to
    → Room p g.n (offer_at + (d + b)) out to
unfolding largest_frame
offer_room g p d b out to C R =
    let h : offer_at + (d + b) ≤ largest_frame g = omega (arith, C.list_is, C.block_is_lem) in
    room_within p (server_frames g) g.n (largest_frame g) (offer_at + (d + b)) out to (omega arith) h R

-- an entry fits into its chunk
pub entry_fits : (g : Params) (d b : ℕ) → Bounded g → Carried g d b → (d ≤ list_bytes) × (b ≤ 256)
entry_fits g d b B C =
    let M = small g B in
    (omega (arith, C.list_is, M.list_room), omega (arith, C.block_is_lem, M.block_room))

-- storing an entry changes no length
pub whole_after : (a a' : List ℕ) (p : ℕ) (e : Entry) → a' ≡ store_entry a p e → area_bytes ≤ length a → area_bytes ≤ length a'
whole_after a a' p e k h = let n = ap length k ∙ length_store a p e in omega (arith, n, h)

-- no frames were sent: there is room for those of an acceptance
pub room_before : (g : Params) (out to : ℕ) → Room first_place (server_frames g) (largest_frame g) out to → Room first_place (freed_frames g) (largest_frame g) out to
room_before g out to R = room_within first_place (server_frames g) (freed_frames g) (largest_frame g) (largest_frame g) out to (omega arith) (omega arith) R

-- an offer went to all, where it was due: there still is
module _ (g : Params) (o₀ t₀ : List ℕ) (R : Room first_place (server_frames g) (largest_frame g) (length o₀) (length t₀)) (c q : ℕ) (z : Stage) (T : ℕ)
    (d b : List ℕ)
    (C : Carried g (length d) (length b)) (o t : List ℕ) (p : Place) where
  abbrev m : Message
  m = message c q (block_is z (offer T (entry d b)))

  offer_small : length (build m) ≤ largest_frame g
  unfolding build body_bytes largest_frame
  offer_small =
      omega (
        arith,
        length_frame (kind_of (block_is z (offer T (entry d b)))) c q (offer_bytes (offer T (entry d b))),
        length_offer g (offer T (entry d b)) (record { list_is = C.list_is; block_is_lem = C.block_is_lem }),
      )

  pub room_behind : (r : Bool) → outbox o t p ≡ sent (outbox o₀ t₀ first_place) (pick r (to_all g (λ j. m)) [])
      → Room p (freed_frames g) (largest_frame g) (length o) (length t)
  room_behind r k =
      let e : g.n + freed_frames g ≡ server_frames g = omega arith in
      all_room g r m first_place p o t o₀ t₀ (freed_frames g) (largest_frame g) offer_small k (rw e R)

  pub room_sent : outbox o t p ≡ sent (outbox o₀ t₀ first_place) (to_all g (λ j. m)) → Room p (freed_frames g) (largest_frame g) (length o) (length t)
  unfolding pick
  room_sent k = room_behind true k
