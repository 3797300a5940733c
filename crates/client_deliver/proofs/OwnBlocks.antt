-- What the code sends of a write's value: one law a function. Assumes nothing.
use Prim.Native.Nat.{ℕ, ◌+◌, ◌*◌, ◌≤◌, ◌<◌}
use native.Mathlib.Omega.{arith}
use native.Mathlib.Numerals.{add-one}
use mathlib.Core.Path.{◌≡◌, ap, sym, ◌∙◌}
use mathlib.Core.List.{List, [], ◌∷◌, ◌++◌}
use lib.ListN.{length, take}
use lib.Seq.{sets}
use lib.ListN.{length-append}
use Rattle.sha256.specs.Hash.{digest_of}
use Rattle.area.specs.Numbers.{bytes8}
use Rattle.area.proofs.Sets.{take_front}
use Rattle.area.proofs.Numbers.{length_bytes8}
use Rattle.blocks.specs.declared.Params.{Params}
use Rattle.blocks.specs.Code.{block_length, block_of}
use Rattle.blocks.proofs.Stripes.{length_block_of}
use Rattle.frame.specs.declared.Place.{Place}
use Rattle.frame.specs.declared.WriteTime.{WriteTime}
use Rattle.frame.specs.declared.Party.TheVariants as P
use Rattle.frame.specs.Params.{Bounded, width, entry_length, largest_frame}
use Rattle.frame.specs.Messages.{entry, offer, Message, message, sending, to_from, to_all, block_is, send}
use Rattle.frame.specs.Frames.{offer_at, kind_of, entry_bytes, offer_bytes, body_bytes, build}
use Rattle.group_rules.specs.Coded.{digests_of, entry_of}
use Rattle.frame.specs.Chunks.{list_bytes}
use Rattle.frame.specs.Outbox.{Outbox, outbox, sent, Room}
use Rattle.group.proofs.DigestLaws.{block_front}
use Rattle.frame.proofs.Outbox.{sent_none, sent_append, to_from_more}
use Rattle.frame.proofs.RoundTrip.{length_frame}
use Rattle.frame.proofs.Sizes.{small}
use Rattle.group.proofs.Digests.{length_digests}
use Rattle.frame.proofs.Rooms.{room_within, room_left}
use Rattle.client_deliver.proofs.Rooms.{each_small}

-- kind 3 to server j
abbrev pub own : Params → List ℕ → WriteTime → ℕ → Message
own g v w j = message w.client w.sequence (block_is send (offer w.time (entry_of digest_of g v j)))

module _ (g : Params) (v : List ℕ) (whole : length v ≡ g.size) where
  pub length_own_block : (j : ℕ) → length (block_of g.k v j) ≡ width g
  unfolding width
  length_own_block j = length_block_of g.k v j ∙ ap (λ l. block_length l g.k) whole

  pub length_own : (w : WriteTime) (j : ℕ) → length (build (own g v w j)) ≡ offer_at + entry_length g
  unfolding build kind_of body_bytes offer_bytes entry_bytes entry_of
  length_own w j =
      omega (
        arith,
        length_frame 3 w.client w.sequence (bytes8 w.time ++ (digests_of digest_of g v ++ block_of g.k v j)),
        length-append (bytes8 w.time) (digests_of digest_of g v ++ block_of g.k v j),
        length_bytes8 w.time,
        length-append (digests_of digest_of g v) (block_of g.k v j),
        length_digests g v,
        length_own_block j,
      )

  -- the buffer's first bytes are the block
  pub own_block : (z a : List ℕ) (j b : ℕ) → Bounded g → b ≡ width g → 256 ≤ length z → a ≡ sets z 0 (block_of g.k v j) → take b a ≡ block_of g.k v j
  unfolding width
  own_block z a j b B e h s =
      let M = small g B in
      let n : b ≤ length z = omega (arith, M.block_room) in
      block_front z a g.k j b v (e ∙ ap (λ l. block_length l g.k) (sym whole)) n s

  -- one block went out
  pub own_sent : (d b : List ℕ) (w : WriteTime) (j : ℕ) (x y : Outbox) → d ≡ digests_of digest_of g v → b ≡ block_of g.k v j
      → y ≡ sent x (sending (P.Server j) (message w.client w.sequence (block_is send (offer w.time (entry d b)))) ∷ [])
      → y ≡ sent x (sending (P.Server j) (own g v w j) ∷ [])
  unfolding entry_of
  own_sent d b w j x y e f s =
      s ∙ (λ i. sent x (sending (P.Server j) (message w.client w.sequence (block_is send (offer w.time (entry (e i) (f i))))) ∷ []))

-- ---- one after the other

pub turn_none : (f : ℕ → Message) (x : Outbox) → x ≡ sent x (to_from f 1 0)
unfolding to_from
turn_none f x = sym (sent_none x)

pub turn_next : (f : ℕ → Message) (j : ℕ) (x y z : Outbox) → y ≡ sent x (to_from f 1 j) → z ≡ sent y (sending (P.Server (j + 1)) (f (j + 1)) ∷ [])
    → z ≡ sent x (to_from f 1 (j + 1))
turn_next f j x y z e s =
    let c : j + 1 ≡ 1 + j = omega arith in
    s ∙ ap (λ k. sent y (sending (P.Server k) (f k) ∷ [])) c
    ∙ ap (λ w. sent w (sending (P.Server (1 + j)) (f (1 + j)) ∷ [])) e
    ∙ sent_append x (to_from f 1 j) (sending (P.Server (1 + j)) (f (1 + j)) ∷ [])
    ∙ ap (sent x) (sym (to_from_more f 1 j))
    ∙ ap (λ k. sent x (to_from f 1 k)) (sym (add-one j))

pub turn_last : (g : Params) (f : ℕ → Message) (j : ℕ) (x y : Outbox) → j ≤ g.n → g.n ≤ j → y ≡ sent x (to_from f 1 j) → y ≡ sent x (to_all g f)
unfolding to_all
turn_last g f j x y a b e = let c : j ≡ g.n = omega arith in e ∙ ap (λ k. sent x (to_from f 1 k)) c

-- ---- rooms

pub turn_room : (g : Params) (v : List ℕ) → length v ≡ g.size → (w : WriteTime) (j : ℕ) (p r : Place) (o t o₀ t₀ : List ℕ) → j < g.n
    → outbox o t r ≡ sent (outbox o₀ t₀ p) (to_from (own g v w) 1 j) → Room p g.n (offer_at + entry_length g) (length o₀) (length t₀)
    → Room r 1 (offer_at + entry_length g) (length o) (length t)
turn_room g v e w j p r o t o₀ t₀ h s R =
    let l : (i : ℕ) → length (build (own g v w i)) ≤ offer_at + entry_length g = λ i. omega (arith, length_own g v e w i) in
    let E = each_small (own g v w) (offer_at + entry_length g) l 1 j in
    let n : j + 1 ≤ g.n = omega arith in
    let k : offer_at + entry_length g ≤ offer_at + entry_length g = omega arith in
    room_left p r o t o₀ t₀ (to_from (own g v w) 1 j) j 1 g.n (offer_at + entry_length g) (offer_at + entry_length g) s E.0 E.1 n k R

pub block_room : (g : Params) (p : Place) (out to : ℕ) → Room p g.n (largest_frame g) out to → Room p g.n (offer_at + entry_length g) out to
unfolding largest_frame
block_room g p out to R =
    let l : offer_at + entry_length g ≤ largest_frame g = omega arith in
    room_within p g.n g.n (largest_frame g) (offer_at + entry_length g) out to (omega arith) l R

-- ---- all of it

-- the front of an area in which the digest list was stored
pub list_front : (g : Params) (v z a : List ℕ) → Bounded g → list_bytes ≤ length z → a ≡ sets z 0 (digests_of digest_of g v)
    → take (32 * g.n) a ≡ digests_of digest_of g v
list_front g v z a B h s =
    let l = length_digests g v in
    let n : 32 * g.n ≤ length z = omega (arith, B.servers_high) in
    ap (take (32 * g.n)) s ∙ take_front z (digests_of digest_of g v) (32 * g.n) l n
