-- The acceptances of a step in a record's bytes: one, and those that follow it. Assumes nothing.
use Prim.Native.Nat.{ℕ, zero, suc, ◌+◌, ◌*◌, ◌-◌, ◌≤◌, ◌<◌}
use native.Mathlib.Nat.{suc-mul, mul-le-mul_right}
use native.Mathlib.Omega.{arith}
use native.Mathlib.Numerals.{add-one}
use mathlib.Core.Path.{◌≡◌, refl, ap, sym, ◌∙◌, subst}
use mathlib.Core.Bool.{Bool, true, false, ◌&&◌, not}
use mathlib.Core.Option.{Option, none, some}
use mathlib.Core.List.{List, [], ◌∷◌, ◌++◌, Memᴰ}
use lib.ListN.{length, get_or, set, length-append}
use lib.Seq.{sets, length-sets, get_or-set_same}
use Rattle.quorum.specs.Quorum.{Among}
use Rattle.area.specs.Area.{pick, Bytes}
use Rattle.area.specs.Numbers.{bytes8}
use Rattle.area.proofs.Numbers.{length_bytes8}
use Rattle.blocks.specs.declared.Params.{Params}
use Rattle.frame.specs.declared.Place.{Place}
use Rattle.frame.specs.declared.Stamp.{Stamp}
use Rattle.frame.specs.Params.{Bounded, largest_frame}
use Rattle.frame.specs.Stamps.{older, last_time, last_sequence}
use Rattle.frame.specs.Messages.{Message, Sending, Sized, message, ack, report}
use Rattle.frame.specs.Frames.{build, kind_of, body_bytes, stamp_bytes}
use Rattle.frame.specs.Chunks.{area_bytes, complete_at, chunk_at, chunk_bytes, entry_at}
use Rattle.frame.specs.Outbox.{Outbox, outbox, sent, frames, Room}
use Rattle.frame.proofs.Outbox.{sent_append, sent_none}
use Rattle.frame.proofs.RoundTrip.{length_frame, length_stamp}
use Rattle.frame.proofs.Rooms.{room_within, room_left}
use Rattle.server_rules.specs.declared.Reader.{Reader}
use Rattle.server_rules.specs.declared.Scope.{Scope}
use Rattle.server_rules.specs.declared.Server.{Server}
use Rattle.server_rules.specs.declared.Slot.{Slot}
use Rattle.server_rules.specs.State.{no_slot, slot_of, reader_at, fresh_slot}
use Rattle.server_rules.specs.Scopes.{scope_of, with_scope}
use Rattle.server_rules.specs.Steps.{Write, Effect, stamp_of, send_only, and_also, accept, lowest, free}
use Rattle.server_rules.specs.WellFormed.{Within}
use Rattle.server_rules.proofs.Within.{slot_within, fresh_within, either}
use Rattle.server_rules.proofs.Accepting.{Says, Told, ack_of, accept_mem, accept_length}
use Rattle.server_rules.proofs.Accepting as Y
use Rattle.server.specs.Stages.{progress, moved, Progress, Lent}
use Rattle.server.proofs.Sending.{length_value, value_size}
use Rattle.server_accept.specs.Telling.{ripe_at, may_accept, lowest_from, write_in}
use Rattle.server_accept.proofs.Acceptance.{may_within, found, lowest_is, found_may}
use Rattle.layout.specs.Servers.{server_size, slot_size, slots_place, slot_bytes, server_in, slot_sets}
use Rattle.layout.specs.Typed.{TypedStamp, TypedSlot, TypedServer, widths}
use Rattle.layout.proofs.ScopeBack.{slot_back}
use Rattle.layout.proofs.TypedSteps.{typed_in, leaves, empty_typed}
use Rattle.server_deliver.specs.Rounds.{Settled, settled, newest, opened_in, accepted_in, freed_in, RoundsRoom}

-- ---- room

-- frames that are small take little room
small_frames : (xs : List Sending) (size : ℕ) → ((y : Sending) → Memᴰ y xs → length (build y.says) ≤ size) → length (frames xs) ≤ length xs * size
unfolding frames
small_frames [] size h = omega arith
small_frames (x ∷ xs) size h =
    let t = small_frames xs size (λ y u. h y (Memᴰ.tail u)) in
    omega (arith, length-append (build x.says) (frames xs), h x (Memᴰ.head refl), t, suc-mul (length xs) size)

-- what an acceptance sends is at most a largest frame
module _ (g : Params) (s : Server) (w : Write) (L : length w.entry.digests + length w.entry.block + 22 ≤ largest_frame g) where
  says_small : (y : Sending) → Says g s w y → length (build y.says) ≤ largest_frame g
  unfolding build kind_of body_bytes
  says_small y (Y.told d i t) = subst (λ y. length (build y.says) ≤ largest_frame g) (sym t.is)
      (omega (arith, length_value d (reader_at s.readers d).sequence (stamp_of w) w.entry, L))
  says_small y (Y.acked e) = subst (λ y. length (build y.says) ≤ largest_frame g) (sym e) (omega (arith, length_frame 9 w.client w.sequence [], L))
  says_small y (Y.reports e t) = subst (λ m. length (build m) ≤ largest_frame g) (sym e)
      (omega (arith, length_frame 13 w.client w.sequence (bytes8 (w.time + 1)), length_bytes8 (w.time + 1), L))

module _ (g : Params) (B : Bounded g) (s : Server) (a : List ℕ) (c : ℕ) (few : c ≤ 8) (low : 1 ≤ c) (whole : area_bytes ≤ length a) where
  abbrev w : Write
  w = write_in g (scope_of s c) c a

  -- after an acceptance there is room for m frames more
  pub accept_room : (p r : Place) (o t o₀ t₀ : List ℕ) (m N : ℕ) → outbox o t r ≡ sent (outbox o₀ t₀ p) (accept g s a w).sends → g.n + 17 + m ≤ N
      → Room p N (largest_frame g) (length o₀) (length t₀) → Room r m (largest_frame g) (length o) (length t)
  accept_room p r o t o₀ t₀ m N e h R =
      let z = value_size g a (complete_at c) w.entry.digests w.entry.block B (omega (arith, few, low, whole)) refl refl in
      let l = accept_length g s a w in
      let b = small_frames (accept g s a w).sends (largest_frame g) (λ y u. says_small g s w (omega (arith, z)) y (accept_mem g s a w y u)) in
      let d : length (accept g s a w).sends * largest_frame g ≤ (g.n + 17) * largest_frame g = mul-le-mul_right (largest_frame g) l in
      room_left p r o t o₀ t₀ (accept g s a w).sends (g.n + 17) m N (largest_frame g) (largest_frame g) e (omega (arith, b, d)) l h (omega arith) R

-- ---- the record's bytes

-- they stay as many
pub opened_length : (x : Stamp) (ws : List Write) (l : List ℕ) → length (opened_in x ws l) ≡ length l
unfolding opened_in slot_sets
opened_length x [] l = refl
opened_length x (w ∷ ws) l =
    opened_length (newest x w) ws _
    ∙ length-sets (sets l 0 (stamp_bytes (newest x w))) (slots_place + w.client * slot_size) (slot_bytes (fresh_slot (w.sequence + 1)))
    ∙ length-sets l 0 (stamp_bytes (newest x w))

-- after one acceptance they say the server that it leaves
pub accept_back : (g : Params) (l a : List ℕ) (c : ℕ) → server_size ≤ length l → c ≤ 8 → 1 ≤ c → Bytes l → may_accept g (server_in l) c ≡ true
    → let w = write_in g (scope_of (server_in l) c) c a in
    server_in (opened_in (server_in l).stamp (w ∷ []) l) ≡ (accept g (server_in l) a w).server
unfolding opened_in accept
accept_back g l a c long few low p e =
    let s = server_in l in
    let w = write_in g (scope_of s c) c a in
    let (t, q) = may_within g s c e in
    let T = typed_in l p in
    let (x, n) = leaves w (low, few) (slot_within widths T c few).sequence q t in
    slot_back l c (newest s.stamp w) (fresh_slot (w.sequence + 1)) long few
    (either TypedStamp (older s.stamp (stamp_of w)) (stamp_of w) s.stamp x T.stamp)
    (fresh_within widths empty_typed (w.sequence + 1) n)

-- ---- one acceptance

-- what is left of client c's scope is written
pub accepted_here : (g : Params) (l l' a a' : List ℕ) (c : ℕ) (q q' : Outbox) (v z : Scope) → c ≤ 8 → v ≡ scope_of (server_in l) c
    → progress (with_scope (server_in l) c z) a' q' ≡ moved (accept g (server_in l) a (write_in g v c a)) q
    → l' ≡ slot_sets l c z.stamp z.slot
    → length (server_in l).slots ≡ 9
    → settled l' a' q' ≡ accepted_in g c l a q
unfolding accepted_in opened_in moved accept
accepted_here g l l' a a' c q q' v z few k b h nine =
    let s = server_in l in
    let e = b ∙ ap (λ (y : Scope). moved (accept g s a (write_in g y c a)) q) k in
    let w = write_in g (scope_of s c) c a in
    let x : z.stamp ≡ newest s.stamp w = ap (λ (y : Progress). y.server.stamp) e in
    let u : set s.slots c z.slot ≡ set s.slots c (fresh_slot (w.sequence + 1)) = ap (λ (y : Progress). y.server.slots) e in
    let m : c < length s.slots = omega (arith, few, nine) in
    let y : z.slot ≡ fresh_slot (w.sequence + 1) =
    sym (get_or-set_same s.slots c z.slot no_slot m) ∙ ap (λ (k : List Slot). get_or k c no_slot) u ∙ get_or-set_same s.slots c _ no_slot m in
    let d : l' ≡ slot_sets l c (newest s.stamp w) (fresh_slot (w.sequence + 1)) = h ∙ (λ i. slot_sets l c (x i) (y i)) in
    λ i. settled (d i) (e i).area (e i).box

-- ---- those that follow

module _ (g : Params) (l a : List ℕ) (q : Outbox) where
  abbrev s : Server
  s = server_in l

  -- none is left to try
  pub no_rounds : (m : ℕ) → m ≡ 0 → settled l a q ≡ freed_in g m l a q
  unfolding freed_in free opened_in
  no_rounds m e = ap (settled l a) (sym (sent_none q)) ∙ sym (ap (λ n. freed_in g n l a q) e)

  -- none can be accepted
  none_here : (m : ℕ) → lowest_from g s 1 8 ≡ 0 → settled l a q ≡ freed_in g (suc m) l a q
  unfolding freed_in free opened_in
  none_here m e =
      let z : lowest g s a 1 8 ≡ none = lowest_is g s a ∙ ap (found g s a) e in
      ap (settled l a) (sym (sent_none q)) ∙ sym (ap go z)
    where
      go : Option Write → Settled
      go o =
          let x : Effect = elim o [
            | some w ↦ and_also (accept g s a w) (free g m (accept g s a w).server (accept g s a w).area)
            | none ↦ send_only s a []
          ] in
          settled (opened_in s.stamp x.accepted l) x.area (sent q x.sends)

  -- one is, and then others
  one_here : (m c : ℕ) (l' a' : List ℕ) (q' : Outbox) → server_size ≤ length l → Bytes l → c ≡ lowest_from g s 1 8 → (c ≡ 0 → ⊥)
      → settled l' a' q' ≡ accepted_in g c l a q → freed_in g m l' a' q' ≡ freed_in g (suc m) l a q
  unfolding freed_in free opened_in accepted_in accept
  one_here m zero l' a' q' long p e n h = absurd (n refl)
  one_here m (suc c) l' a' q' long p e n h =
      let (u, v, k) = found_may g s 1 8 (λ y. n (e ∙ y)) in
      let w : Write = write_in g (scope_of s (suc c)) (suc c) a in
      let may : may_accept g s (suc c) ≡ true = subst (λ d. may_accept g s d ≡ true) (sym e) k in
      let z : lowest g s a 1 8 ≡ some w = lowest_is g s a ∙ ap (found g s a) (sym e) in
      let l₂ = opened_in s.stamp (w ∷ []) l in
      let x = accept g s a w in
      let b = accept_back g l a (suc c) long (omega (arith, v, e)) (omega arith) p may in
      ap (λ (y : Settled). freed_in g m y.state y.area y.box) h
      ∙ ap (λ (t : Server). settled (opened_in t.stamp (free g m t x.area).accepted l₂) (free g m t x.area).area
      (sent (sent q x.sends) (free g m t x.area).sends)) b
      ∙ ap (settled _ _) (sent_append q x.sends (free g m x.server x.area).sends)
      ∙ sym (ap go z)
    where
      go : Option Write → Settled
      go o =
          let x : Effect = elim o [
            | some w ↦ and_also (accept g s a w) (free g m (accept g s a w).server (accept g s a w).area)
            | none ↦ send_only s a []
          ] in
          settled (opened_in s.stamp x.accepted l) x.area (sent q x.sends)

  -- by the number of rounds
  pub none_found : (n : ℕ) → (n ≡ 0 → ⊥) → lowest_from g s 1 8 ≡ 0 → settled l a q ≡ freed_in g n l a q
  none_found zero h e = absurd (h refl)
  none_found (suc m) h e = none_here m e

  pub one_found : (n m c : ℕ) (l' a' : List ℕ) (q' : Outbox) → n ≡ suc m → server_size ≤ length l → Bytes l → c ≡ lowest_from g s 1 8 → (c ≡ 0 → ⊥)
      → settled l' a' q' ≡ accepted_in g c l a q → freed_in g m l' a' q' ≡ freed_in g n l a q
  one_found n m c l' a' q' k long p e z h = one_here m c l' a' q' long p e z h ∙ sym (ap (λ i. freed_in g i l a q) k)

-- what an acceptance may ask, and what is left for those that follow it
module _ (n m : ℕ) (k : n ≡ suc m) (g : Params) (l a : List ℕ) (p : Place) (out to : List ℕ)
    (R : RoundsRoom n g (length l) (length a) p (length out) (length to)) (c : ℕ) (e : c ≡ lowest_from g (server_in l) 1 8) (z : c ≡ 0 → ⊥) where
  here : (1 ≤ c) × (c ≤ 8) × (may_accept g (server_in l) c ≡ true)
  here =
      let (u, v, w) = found_may g (server_in l) 1 8 (λ y. z (e ∙ y)) in
      (omega (arith, u, e), omega (arith, v, e), subst (λ d. may_accept g (server_in l) d ≡ true) (sym e) w)

  all : g.n + 17 + m * (g.n + 17) ≤ n * (g.n + 17)
  all = rw k (rw suc-mul (omega arith))

  pub accept_asks : Lent g c (length a) p (g.n + 17) (length out) (length to) × (server_size ≤ length l) × (may_accept g (server_in l) c ≡ true)
  accept_asks = (
    record {
      bounded = R.bounded;
      client_low = here.0;
      client_high = here.1;
      whole = R.whole;
      room = room_within p (n * (g.n + 17)) (g.n + 17) (largest_frame g) (largest_frame g) _ _ (omega (arith, all)) (omega arith) R.room;
    },
    R.record_whole,
    here.2,
  )

  pub rounds_left : (l' a' o t : List ℕ) (r : Place) → settled l' a' (outbox o t r) ≡ accepted_in g c l a (outbox out to p) → length a' ≡ length a
      → RoundsRoom m g (length l') (length a') r (length o) (length t)
  unfolding accepted_in
  rounds_left l' a' o t r h b =
      let d : length l' ≡ length l = ap (λ (y : Settled). length y.state) h ∙ opened_length (server_in l).stamp _ l in
      let w = R.whole in
      let v = R.record_whole in
      record {
        bounded = R.bounded;
        record_whole = omega (arith, d, v);
        whole = omega (arith, b, w);
        room = accept_room g R.bounded (server_in l) a c here.1 here.0 R.whole p r o t out to (m * (g.n + 17)) (n * (g.n + 17))
            (ap (λ (y : Settled). y.box) h) all R.room;
      }

-- ---- the search for the lowest client

module _ (g : Params) (s : Server) (c : ℕ) where
  pub may_not : (slot_of s c).blocks.complete ≡ false → false ≡ may_accept g s c
  unfolding may_accept
  may_not e = sym (ap (λ b. b && ripe_at g s.stamp.time s.reports (slot_of s c).blocks.time (slot_of s c).sequence) e)

  pub may_is : (T q own : ℕ) (rs : List ℕ) (b : Bool) → (slot_of s c).blocks.complete ≡ true → T ≡ (slot_of s c).blocks.time → q ≡ (slot_of s c).sequence
      → own ≡ s.stamp.time → rs ≡ s.reports → b ≡ ripe_at g own rs T q → b ≡ may_accept g s c
  unfolding may_accept
  may_is T q own rs b e t k o r h =
      h ∙ (λ i. ripe_at g (o i) (r i) (t i) (k i))
      ∙ sym (ap (λ b. b && ripe_at g s.stamp.time s.reports (slot_of s c).blocks.time (slot_of s c).sequence) e)

  module _ (z : ℕ) (h : c < 9) (e : lowest_from g s c (9 - c) ≡ z) where
    low_first : pick (may_accept g s c) c (lowest_from g s (c + 1) (9 - (c + 1))) ≡ z
    unfolding lowest_from
    low_first =
        let m : 9 - c ≡ suc (9 - (c + 1)) = omega arith in
        ap (λ d. pick (may_accept g s c) c (lowest_from g s d (9 - (c + 1)))) (add-one c) ∙ sym (ap (lowest_from g s c) m) ∙ e

    -- client c is it, or one after it
    pub low_found : (b : Bool) → b ≡ may_accept g s c → b ≡ true → c ≡ z
    unfolding pick
    low_found b p q = ap (λ b. pick b c (lowest_from g s (c + 1) (9 - (c + 1)))) (sym q ∙ p) ∙ low_first

    pub low_turn : (b : Bool) → b ≡ may_accept g s c → b ≡ false → lowest_from g s (c + 1) (9 - (c + 1)) ≡ z
    unfolding pick
    low_turn b p q = ap (λ b. pick b c (lowest_from g s (c + 1) (9 - (c + 1)))) (sym q ∙ p) ∙ low_first

  -- or there is none
  pub low_end : (z : ℕ) → c ≡ 9 → lowest_from g s c (9 - c) ≡ z → 0 ≡ z
  unfolding lowest_from
  low_end z h e = sym (ap (λ d. lowest_from g s d (9 - d)) h) ∙ e

-- ---- all rounds

pub first_rounds : (m : ℕ) (g : Params) (state area : ℕ) (p : Place) (out to : ℕ) → 8 * (g.n + 17) ≤ m → Bounded g → server_size ≤ state → area_bytes ≤ area
    → Room p m (largest_frame g) out to → RoundsRoom 8 g state area p out to
first_rounds m g state area p out to h B l a R = record {
  bounded = B;
  record_whole = l;
  whole = a;
  room = room_within p m (8 * (g.n + 17)) (largest_frame g) (largest_frame g) out to h (omega arith) R;
}
