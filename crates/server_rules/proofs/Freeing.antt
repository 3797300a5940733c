-- What is accepted in a step: which writes, on what ground, and what that leaves of slots, blocks, readers and the present value, and sends. Assumes nothing.
use Prim.Native.Nat.{ℕ, zero, suc, ◌+◌, ◌*◌, ◌≤◌, ◌<◌, zero-le}
use native.Mathlib.Nat.{suc-mul}
use native.Mathlib.Omega.{arith}
use native.Mathlib.Decide.{ℕ_discrete, dec_le}
use mathlib.Core.Bool.{Bool, true, false, ◌&&◌, ◌||◌}
use mathlib.Core.Path.{◌≡◌, refl, ap, sym, ◌∙◌, subst}
use mathlib.Core.Logic.{◌⊎◌, inl, inr, ⊎_elim}
use mathlib.Core.Option.{Option, none, some}
use mathlib.Core.List.Memᴰ
use mathlib.Core.List.{List, [], ◌∷◌, ◌++◌, Memᴰ}
use lib.ListN.{length, drop, length-drop, length-append, length-set}
use lib.Dec.{leb, ltb, eqb}
use borrow.Author.Tests.{ltb-true, ltb-false, leb-true, eqb-true}
use lib.Seq.{get_or-set_same, get_or-set_other, length-take-le}
use Rattle.quorum.specs.Quorum.{count, Among}
use Rattle.quorum.proofs.Logic.{impossible, and_split, or_split, or_false}
use Rattle.quorum.proofs.Counting.{count_le, count_more}
use Rattle.area.specs.Area.{pick}
use Rattle.area.proofs.Tests.{kept_some, not_true}
use Rattle.blocks.specs.declared.Params.{Params}
use Rattle.frame.specs.declared.Stamp.{Stamp}
use Rattle.frame.specs.declared.Party.TheVariants as P
use Rattle.frame.specs.Chunks.{list_bytes, chunk_at, entry_at, store_if, present_at, complete_at, area_bytes}
use Rattle.frame.specs.Messages.{Offer, offer, Sending, sending, Sized}
use Rattle.frame.specs.Params.{width, listed}
use Rattle.frame.specs.Stamps.{older, last_time, last_sequence}
use Rattle.frame.proofs.Chunks.{entry_same}
use Rattle.frame.proofs.Sizes.{Small}
use Rattle.frame.proofs.StampOrder.{stamps_ordered}
use Rattle.group_rules.specs.Vouching.{backed}
use Rattle.server_rules.specs.declared.Slot.{Slot}
use Rattle.server_rules.specs.declared.Server.{Server}
use Rattle.server_rules.specs.State.{fresh_blocks, fresh_slot, no_slot, slot_of, report_of, block_view}
use Rattle.server_rules.specs.Steps as S
use Rattle.server_rules.specs.WellFormed.{Within}
use Rattle.server_rules.proofs.Views.{shapes, Shaped, present_if, fresh_block_view}
use Rattle.server_rules.proofs.Accepting.{Told, ack_of, report_by, Says, accept_mem, accept_ack, accept_reports, accept_length, reported_all}
use Rattle.server_rules.proofs.Accepting as Y
use Rattle.server_rules.proofs.Shapes.{offer_of, Ripe, Freed, nothing, accepts, length_if, ripe_some, lowest_some, lowest_none}
use Rattle.server_rules.proofs.Within.{Empty, slot_within, accept_within}

-- the completed entry has its sizes
pub done_sized : (g : Params) → Small g → (a : List ℕ) → area_bytes ≤ length a → (c : ℕ) → Among 8 c → (x : Slot) (y : Offer)
    → (block_view g a c x).done ≡ some y → Sized g y.entry
unfolding block_view entry_at
done_sized g M a R c is x y q =
    let o = offer x.blocks.time (entry_at g a (complete_at c)) in
    let e : o ≡ y = (kept_some x.blocks.complete o y q).1 in
    rw (← e) (record {
      list_is = length-take-le (listed g) (drop (chunk_at (complete_at c)) a) (rw length-drop (omega (arith, M.list_room)));
      block_is_lem = length-take-le (width g) (drop (chunk_at (complete_at c) + list_bytes) a) (rw length-drop (omega (arith, M.block_room)));
    })

-- no client's write is twice in a list
unfoldable pub Once : List S.Write → Type 0
Once [] = Unit {0}
Once (k ∷ l) = ((w : S.Write) → Memᴰ w l → w.client ≡ k.client → ⊥) × Once l

-- ---- one acceptance

-- the time of a stamp that is older is not higher, and where it is not older it is not lower
pub older_time : (x y : Stamp) → older x y ≡ true → x.time ≤ y.time
unfolding older
older_time x y e = ⊎_elim
    (λ h. let l = ltb-true x.time y.time h in omega (arith, l))
    (λ h. let l = eqb-true x.time y.time (and_split (eqb x.time y.time) _ h).0 in omega (arith, l))
    (or_split (ltb x.time y.time) _ e)

pub newer_time : (x y : Stamp) → older x y ≡ false → y.time ≤ x.time
unfolding older
newer_time x y e = ltb-false x.time y.time (or_false (ltb x.time y.time) _ e).0

pub empty : Empty shapes
empty = record { flags = record { many = refl; none_first = refl }; time = tt }

pub accept_shaped : (g : Params) (s : Server) (a : List ℕ) (w : S.Write) → Among 8 w.client → Within shapes s → Within shapes (S.accept g s a w).server
accept_shaped g s a w i W = accept_within shapes empty g s a w i (tt, tt) W

accept_area : (g : Params) (s : Server) (a : List ℕ) (w : S.Write) → length (S.accept g s a w).area ≡ length a
unfolding S.accept
accept_area g s a w = length_if (older s.stamp (S.stamp_of w)) a present_at w.entry

-- its client's slot is fresh, the others stay
accept_slots : (g : Params) (s : Server) (a : List ℕ) (w : S.Write) → Within shapes s → Among 8 w.client → (d : ℕ)
    → ((d ≡ w.client) × (slot_of (S.accept g s a w).server d ≡ fresh_slot (w.sequence + 1)))
    ⊎ ((d ≡ w.client → ⊥) × (slot_of (S.accept g s a w).server d ≡ slot_of s d))
unfolding S.accept
accept_slots g s a w W i d = go (ℕ_discrete d w.client)
  where
    go : Dec (d ≡ w.client) → ((d ≡ w.client) × (slot_of (S.accept g s a w).server d ≡ fresh_slot (w.sequence + 1)))
        ⊎ ((d ≡ w.client → ⊥) × (slot_of (S.accept g s a w).server d ≡ slot_of s d))
    go (no ne) = inr (ne, get_or-set_other s.slots w.client d (fresh_slot (w.sequence + 1)) no_slot ne)
    go (yes z) = inl (
      z,
      ap (slot_of (S.accept g s a w).server) z
          ∙ get_or-set_same s.slots w.client (fresh_slot (w.sequence + 1)) no_slot (omega (arith, i, W.slots.0)),
    )

-- no blocks of a write are touched
accept_blocks : (g : Params) (s : Server) (a : List ℕ) (w : S.Write) → Small g → area_bytes ≤ length a → Among 8 w.client → Ripe g s a w
    → (d : ℕ) → Among 8 d → (x : Slot) → Shaped x → block_view g (S.accept g s a w).area d x ≡ block_view g a d x
unfolding S.accept
accept_blocks g s a w M room i R d is x X =
    present_if g M a room d x X is (older s.stamp (S.stamp_of w)) w.entry
    (λ z. done_sized g M a room w.client i _ (offer_of w) R.complete)

fresh_done : (g : Params) (a : List ℕ) (c q : ℕ) {x : Slot} {o : Offer} → x ≡ fresh_slot q → (block_view g a c x).done ≡ some o → ⊥
fresh_done g a c q e u = impossible (cc (ap (λ x. (block_view g a c x).done) e, ap (λ v. v.done) (fresh_block_view g a c q), u))

-- a write was complete, and its client's open one
pub record Complete (g : Params) (s : Server) (a : List ℕ) (w : S.Write) : Type 0 where
  pub sequence : w.sequence ≡ (slot_of s w.client).sequence
  pub complete : (block_view g a w.client (slot_of s w.client)).done ≡ some (offer_of w)
  pub below : w.time < last_time
  pub listed : w.sequence ≤ last_sequence

-- the present time is that of one of the accepted writes, and all servers and all clients are told
pub record Grown (g : Params) (r : S.Effect) : Type 0 where
  pub w : S.Write
  pub is : Memᴰ w r.accepted
  pub time : r.server.stamp.time ≡ w.time + 1
  pub servers : (j : ℕ) → Among g.n j → Memᴰ (sending (P.Server j) (report_by w)) r.sends
  pub clients : (d : ℕ) → Among 8 d → Memᴰ (sending (P.Client d) (report_by w)) r.sends

-- y is x, or newer
abbrev Up : Stamp → Stamp → Type 0
Up x y = (y ≡ x) ⊎ (older x y ≡ true)

up_trans : {x y z : Stamp} → Up x y → Up y z → Up x z
up_trans (inl e) (inl h) = inl (h ∙ e)
up_trans {z = z} (inl e) (inr h) = inr (ap (λ x. older x z) (sym e) ∙ h)
up_trans {x} (inr e) (inl h) = inr (ap (older x) h ∙ e)
up_trans {x} {y} {z} (inr e) (inr h) = inr (stamps_ordered.transitive x y z e h)

up_not : (x y z : Stamp) → Up x y → older x z ≡ false → older y z ≡ false
up_not x y z (inl e) h = ap (λ x. older x z) e ∙ h
up_not x y z (inr e) h = not_true _ (λ k. impossible (cc (stamps_ordered.transitive x y z e k, h)))

module _ {g : Params} where
  -- ---- the writes

  module _ (M : Small g) where
    -- each was complete before
    pub freed_ripe : {m : ℕ} {s : Server} {a : List ℕ} {r : S.Effect} → Freed g m s a r → Within shapes s → area_bytes ≤ length a
        → (w : S.Write) → Memᴰ w r.accepted → Among 8 w.client × Complete g s a w
    unfolding S.accept
    freed_ripe nothing W room w u = absurd (Memᴰ.not-nil u)
    freed_ripe {s = s} {a} (accepts k i R f) W room w u = ⊎_elim
        (λ e. subst (λ w. Among 8 w.client × Complete g s a w) (sym e)
        (i, record { sequence = R.sequence; complete = R.complete; below = R.below; listed = R.listed }))
        (λ v. go (freed_ripe f (accept_shaped g s a k i W) (omega (arith, room, accept_area g s a k)) w v))
        (Memᴰ.cases_cons u)
      where
        go : Among 8 w.client × Complete g (S.accept g s a k).server (S.accept g s a k).area w → Among 8 w.client × Complete g s a w
        go (j, C) = ⊎_elim
            (λ (z, e). absurd (fresh_done g (S.accept g s a k).area w.client (k.sequence + 1) e C.complete))
            (λ (z, e). (
              j,
              record {
                sequence = C.sequence ∙ ap (λ x. x.sequence) e;
                complete = ap (λ v. v.done) (sym
                    (accept_blocks g s a k M room i R w.client j (slot_of s w.client) (slot_within shapes W w.client j.1)))
                    ∙ ap (λ x. (block_view g (S.accept g s a k).area w.client x).done) (sym e) ∙ C.complete;
                below = C.below;
                listed = C.listed;
              },
            ))
            (accept_slots g s a k W i w.client)

    pub freed_sized : {m : ℕ} {s : Server} {a : List ℕ} {r : S.Effect} → Freed g m s a r → Within shapes s → area_bytes ≤ length a
        → (w : S.Write) → Memᴰ w r.accepted → Sized g w.entry
    freed_sized {s = s} {a} f W room w u =
        let (i, C) = freed_ripe f W room w u in
        done_sized g M a room w.client i (slot_of s w.client) (offer_of w) C.complete

    -- ---- what they leave

    -- a slot stays, or its write is one of them and the next sequence is open
    pub freed_slots : {m : ℕ} {s : Server} {a : List ℕ} {r : S.Effect} → Freed g m s a r → Within shapes s → area_bytes ≤ length a → (d : ℕ)
        → (slot_of r.server d ≡ slot_of s d) ⊎ ((w : S.Write) × Memᴰ w r.accepted × (w.client ≡ d)
        × (slot_of r.server d ≡ fresh_slot ((slot_of s d).sequence + 1)))
    unfolding S.accept
    freed_slots nothing W room d = inl refl
    freed_slots {s = s} {a} (accepts k i R {r} f) W room d = go (accept_slots g s a k W i d) (freed_slots f (accept_shaped g s a k i W) room' d)
      where
        room' : area_bytes ≤ length (S.accept g s a k).area
        room' = omega (arith, room, accept_area g s a k)

        go : ((d ≡ k.client) × (slot_of (S.accept g s a k).server d ≡ fresh_slot (k.sequence + 1)))
            ⊎ ((d ≡ k.client → ⊥) × (slot_of (S.accept g s a k).server d ≡ slot_of s d))
            → (slot_of r.server d ≡ slot_of (S.accept g s a k).server d) ⊎ ((w : S.Write) × Memᴰ w r.accepted × (w.client ≡ d)
            × (slot_of r.server d ≡ fresh_slot ((slot_of (S.accept g s a k).server d).sequence + 1)))
            → (slot_of r.server d ≡ slot_of s d) ⊎ ((w : S.Write) × Memᴰ w (k ∷ r.accepted) × (w.client ≡ d)
            × (slot_of r.server d ≡ fresh_slot ((slot_of s d).sequence + 1)))
        go (inr (ne, e)) (inl h) = inl (h ∙ e)
        go (inr (ne, e)) (inr (w, u, z, h)) = inr (w, Memᴰ.tail u, z, h ∙ ap (λ x. fresh_slot (x.sequence + 1)) e)
        go (inl (z, e)) (inl h) =
            inr (k, Memᴰ.head refl, sym z, h ∙ e ∙ ap (λ q. fresh_slot (q + 1)) (R.sequence ∙ ap (λ y. (slot_of s y).sequence) (sym z)))
        go (inl (z, e)) (inr (w, u, y, h)) =
            let (j, C) = freed_ripe f (accept_shaped g s a k i W) room' w u in
            absurd (fresh_done g (S.accept g s a k).area w.client (k.sequence + 1) (ap (slot_of (S.accept g s a k).server) y ∙ e) C.complete)

    -- each opens its client's next sequence
    pub freed_opens : {m : ℕ} {s : Server} {a : List ℕ} {r : S.Effect} → Freed g m s a r → Within shapes s → area_bytes ≤ length a
        → (w : S.Write) → Memᴰ w r.accepted → slot_of r.server w.client ≡ fresh_slot (w.sequence + 1)
    unfolding S.accept
    freed_opens nothing W room w u = absurd (Memᴰ.not-nil u)
    freed_opens {s = s} {a} (accepts k i R {r} f) W room w u = ⊎_elim
        (λ e. subst (λ w. slot_of r.server w.client ≡ fresh_slot (w.sequence + 1)) (sym e)
        (go (accept_slots g s a k W i k.client) (freed_slots f (accept_shaped g s a k i W) room' k.client)))
        (λ v. freed_opens f (accept_shaped g s a k i W) room' w v)
        (Memᴰ.cases_cons u)
      where
        room' : area_bytes ≤ length (S.accept g s a k).area
        room' = omega (arith, room, accept_area g s a k)

        s₁ : Server
        s₁ = (S.accept g s a k).server

        go : ((k.client ≡ k.client) × (slot_of s₁ k.client ≡ fresh_slot (k.sequence + 1)))
            ⊎ ((k.client ≡ k.client → ⊥) × (slot_of s₁ k.client ≡ slot_of s k.client))
            → (slot_of r.server k.client ≡ slot_of s₁ k.client) ⊎ ((w : S.Write) × Memᴰ w r.accepted × (w.client ≡ k.client)
            × (slot_of r.server k.client ≡ fresh_slot ((slot_of s₁ k.client).sequence + 1)))
            → slot_of r.server k.client ≡ fresh_slot (k.sequence + 1)
        go (inr (ne, e)) h = absurd (ne refl)
        go (inl (z, e)) (inl h) = h ∙ e
        go (inl (z, e)) (inr (x, v, y, h)) =
            let (j, C) = freed_ripe f (accept_shaped g s a k i W) room' x v in
            absurd (fresh_done g (S.accept g s a k).area x.client (k.sequence + 1) (ap (slot_of s₁) y ∙ e) C.complete)

    -- of a client at most one is accepted
    pub freed_one : {m : ℕ} {s : Server} {a : List ℕ} {r : S.Effect} → Freed g m s a r → Within shapes s → area_bytes ≤ length a
        → (w x : S.Write) → Memᴰ w r.accepted → Memᴰ x r.accepted → w.client ≡ x.client → w ≡ x
    freed_one {s = s} {a} f W room w x u v e =
        let (i, C) = freed_ripe f W room w u in
        let (j, D) = freed_ripe f W room x v in
        let q : w.sequence ≡ x.sequence = C.sequence ∙ ap (λ c. (slot_of s c).sequence) e ∙ sym D.sequence in
        let d : some (offer_of w) ≡ some (offer_of x) = sym C.complete ∙ ap (λ c. (block_view g a c (slot_of s c)).done) e ∙ D.complete in
        let o : offer_of w ≡ offer_of x = cc d in
        λ z. record { client = e z; sequence = q z; time = (o z).time; entry = (o z).entry }

    -- and none is twice in their list
    pub freed_once : {m : ℕ} {s : Server} {a : List ℕ} {r : S.Effect} → Freed g m s a r → Within shapes s → area_bytes ≤ length a → Once r.accepted
    unfolding S.accept Once
    freed_once nothing W room = tt
    freed_once {s = s} {a} (accepts k i R {r} f) W room =
        (λ w u e. go w u e (accept_slots g s a k W i w.client), freed_once f (accept_shaped g s a k i W) room')
      where
        room' : area_bytes ≤ length (S.accept g s a k).area
        room' = omega (arith, room, accept_area g s a k)

        go : (w : S.Write) → Memᴰ w r.accepted → w.client ≡ k.client
            → ((w.client ≡ k.client) × (slot_of (S.accept g s a k).server w.client ≡ fresh_slot (k.sequence + 1)))
            ⊎ ((w.client ≡ k.client → ⊥) × (slot_of (S.accept g s a k).server w.client ≡ slot_of s w.client))
            → ⊥
        go w u e (inr (ne, h)) = ne e
        go w u e (inl (z, h)) =
            let (j, C) = freed_ripe f (accept_shaped g s a k i W) room' w u in
            fresh_done g (S.accept g s a k).area w.client (k.sequence + 1) h C.complete

    -- no blocks of a write are touched
    pub freed_blocks : {m : ℕ} {s : Server} {a : List ℕ} {r : S.Effect} → Freed g m s a r → area_bytes ≤ length a → (d : ℕ) → Among 8 d
        → (x : Slot) → Shaped x → block_view g r.area d x ≡ block_view g a d x
    freed_blocks nothing room d is x X = refl
    freed_blocks {s = s} {a} (accepts w i R f) room d is x X =
        freed_blocks f (omega (arith, room, accept_area g s a w)) d is x X ∙ accept_blocks g s a w M room i R d is x X

    -- the present value stays, or is that of one of them
    pub freed_present : {m : ℕ} {s : Server} {a : List ℕ} {r : S.Effect} → Freed g m s a r → area_bytes ≤ length a
        → ((r.server.stamp ≡ s.stamp) × (entry_at g r.area present_at ≡ entry_at g a present_at))
        ⊎ ((w : S.Write) × Memᴰ w r.accepted × (r.server.stamp ≡ S.stamp_of w) × (entry_at g r.area present_at ≡ w.entry)
        × (older s.stamp (S.stamp_of w) ≡ true))
    unfolding S.accept pick
    freed_present nothing room = inl (refl, refl)
    freed_present {s = s} {a} (accepts k i R {r} f) room =
        ⊎_elim (λ (e, h). go (older s.stamp (S.stamp_of k)) refl e h)
        (λ (w, u, e, h, o). inr (w, Memᴰ.tail u, e, h, rise (older s.stamp (S.stamp_of k)) refl w o))
        (freed_present f (omega (arith, room, accept_area g s a k)))
      where
        rise : (b : Bool) → older s.stamp (S.stamp_of k) ≡ b → (w : S.Write) → older (pick b (S.stamp_of k) s.stamp) (S.stamp_of w) ≡ true
            → older s.stamp (S.stamp_of w) ≡ true
        rise true e w o = stamps_ordered.transitive s.stamp (S.stamp_of k) (S.stamp_of w) e o
        rise false e w o = o

        go : (b : Bool) → older s.stamp (S.stamp_of k) ≡ b → r.server.stamp ≡ pick b (S.stamp_of k) s.stamp
            → entry_at g r.area present_at ≡ entry_at g (store_if b a present_at k.entry) present_at
            → ((r.server.stamp ≡ s.stamp) × (entry_at g r.area present_at ≡ entry_at g a present_at))
            ⊎ ((w : S.Write) × Memᴰ w (k ∷ r.accepted) × (r.server.stamp ≡ S.stamp_of w) × (entry_at g r.area present_at ≡ w.entry)
            × (older s.stamp (S.stamp_of w) ≡ true))
        go true o e h = inr (
          k,
          Memᴰ.head refl,
          e,
          h ∙ entry_same g M a present_at k.entry (done_sized g M a room k.client i _ (offer_of k) R.complete) (omega (arith, room)),
          o,
        )
        go false o e h = inl (e, h)

  pub freed_readers : {m : ℕ} {s : Server} {a : List ℕ} {r : S.Effect} → Freed g m s a r → r.server.readers ≡ s.readers
  unfolding S.accept
  freed_readers nothing = refl
  freed_readers (accepts w i R f) = freed_readers f

  pub freed_reports : {m : ℕ} {s : Server} {a : List ℕ} {r : S.Effect} → Freed g m s a r → r.server.reports ≡ s.reports
  unfolding S.accept
  freed_reports nothing = refl
  freed_reports (accepts w i R f) = freed_reports f

  -- its stamp is not below the one before, nor below any of theirs
  pub freed_stamp : {m : ℕ} {s : Server} {a : List ℕ} {r : S.Effect} → Freed g m s a r
      → Up s.stamp r.server.stamp × ((w : S.Write) → Memᴰ w r.accepted → older r.server.stamp (S.stamp_of w) ≡ false)
  unfolding S.accept pick
  freed_stamp nothing = (inl refl, λ w u. absurd (Memᴰ.not-nil u))
  freed_stamp {s = s} (accepts k i R {r} f) =
      let (up, all) = freed_stamp f in
      let (here, own) = one (older s.stamp (S.stamp_of k)) refl in
      (up_trans here up, λ w u. ⊎_elim (λ e. ap (λ w. older r.server.stamp (S.stamp_of w)) e ∙ up_not _ _ _ up own) (all w) (Memᴰ.cases_cons u))
    where
      one : (b : Bool) → older s.stamp (S.stamp_of k) ≡ b
          → Up s.stamp (pick b (S.stamp_of k) s.stamp) × (older (pick b (S.stamp_of k) s.stamp) (S.stamp_of k) ≡ false)
      one true e = (inr e, not_true _ (stamps_ordered.irreflexive (S.stamp_of k)))
      one false e = (inl refl, e)

  -- ---- on what ground they are accepted (request F-9)

  -- What the present time is, and each time that t + 1 servers reported; what is smaller, too; and, where an accepted write has it, the next: then the time of
  -- each of them is, and so is the new present time.
  pub freed_times : (Q : ℕ → Type 0) → ((T U : ℕ) → T ≤ U → Q U → Q T)
      → {m : ℕ} {s : Server} {a : List ℕ} {r : S.Effect} → Freed g m s a r
      → Q s.stamp.time → ((T : ℕ) → backed g (report_of s) T ≡ true → Q T)
      → ((w : S.Write) → Memᴰ w r.accepted → Q w.time → Q (w.time + 1))
      → Q r.server.stamp.time × ((w : S.Write) → Memᴰ w r.accepted → Q w.time)
  unfolding S.accept S.vouched pick
  freed_times Q low nothing own told next = (own, λ w u. absurd (Memᴰ.not-nil u))
  freed_times Q low {s = s} (accepts k i R f) own told next =
      let its : Q k.time = ⊎_elim (λ h. low k.time s.stamp.time (leb-true k.time s.stamp.time h) own) (told k.time)
      (or_split (leb k.time s.stamp.time) _ R.vouched) in
      let (after, all) = freed_times Q low f (time (older s.stamp (S.stamp_of k)) its) told (λ w u. next w (Memᴰ.tail u)) in
      (after, λ w u. ⊎_elim (λ e. subst (λ w. Q w.time) (sym e) its) (all w) (Memᴰ.cases_cons u))
    where
      time : (b : Bool) → Q k.time → Q (pick b (S.stamp_of k) s.stamp).time
      time true q = next k (Memᴰ.head refl) q
      time false q = own

  -- ---- what is sent

  says_again : {s s' : Server} {w : S.Write} {y : Sending} → s'.readers ≡ s.readers → Says g s' w y → Says g s w y
  says_again {w = w} {y} e (Y.told d i t) = Y.told d i (subst (λ rs. Told rs (S.stamp_of w) w.entry d y) e t)
  says_again e (Y.acked q) = Y.acked q
  says_again e (Y.reports q t) = Y.reports q t

  -- each frame is of one of them: a value to a listener, the ack, or a report
  pub freed_mem : {m : ℕ} {s : Server} {a : List ℕ} {r : S.Effect} → Freed g m s a r → (y : Sending) → Memᴰ y r.sends
      → (w : S.Write) × Memᴰ w r.accepted × Says g s w y
  unfolding S.accept
  freed_mem nothing y u = absurd (Memᴰ.not-nil u)
  freed_mem {s = s} {a} (accepts w i R {r} f) y u = ⊎_elim
      (λ v. (w, first, accept_mem g s a w y v))
      (λ v. let (k, m, h) = freed_mem f y v in (k, later k m, says_again (readers) h))
      (Memᴰ.append_cases (S.accept g s a w).sends u)
    where
      first : Memᴰ w ((S.accept g s a w).accepted ++ r.accepted)
      first = Memᴰ.head refl

      later : (k : S.Write) → Memᴰ k r.accepted → Memᴰ k ((S.accept g s a w).accepted ++ r.accepted)
      later k m = Memᴰ.append_right (S.accept g s a w).accepted m

      readers : (S.accept g s a w).server.readers ≡ s.readers
      readers = refl

  -- each of them is acknowledged
  pub freed_acked : {m : ℕ} {s : Server} {a : List ℕ} {r : S.Effect} → Freed g m s a r → (w : S.Write) → Memᴰ w r.accepted
      → Memᴰ (ack_of w) r.sends
  unfolding S.accept
  freed_acked nothing w u = absurd (Memᴰ.not-nil u)
  freed_acked {s = s} {a} (accepts k i R {r} f) w u = ⊎_elim
      (λ e. Memᴰ.append_left r.sends (subst (λ y. Memᴰ (ack_of y) (S.accept g s a k).sends) (sym e) (accept_ack g s a k)))
      (λ v. Memᴰ.append_right (S.accept g s a k).sends (freed_acked f w v))
      (Memᴰ.cases_cons u)

  -- the time stays, or it is that of one of them, and all servers and all clients are told
  pub freed_grown : {m : ℕ} {s : Server} {a : List ℕ} {r : S.Effect} → Freed g m s a r → (r.server.stamp.time ≡ s.stamp.time) ⊎ Grown g r
  unfolding S.accept pick
  freed_grown nothing = inl refl
  freed_grown {s = s} {a} (accepts k i R {r} f) =
      ⊎_elim (λ e. go (older s.stamp (S.stamp_of k)) refl e (dec_le (k.time + 1) s.stamp.time)) (λ G. inr (record {
        w = G.w;
        is = Memᴰ.tail G.is;
        time = G.time;
        servers = λ j i. Memᴰ.append_right (S.accept g s a k).sends (G.servers j i);
        clients = λ d i. Memᴰ.append_right (S.accept g s a k).sends (G.clients d i);
      }))
      (freed_grown f)
    where
      go : (b : Bool) → older s.stamp (S.stamp_of k) ≡ b → r.server.stamp.time ≡ (pick b (S.stamp_of k) s.stamp).time → Dec (k.time + 1 ≤ s.stamp.time)
          → (r.server.stamp.time ≡ s.stamp.time) ⊎ Grown g (S.and_also (S.accept g s a k) r)
      go true q e (yes l) = let h = older_time s.stamp (S.stamp_of k) q in inl (omega (arith, e, l, h))
      go true q e (no l) =
          let h : s.stamp.time < k.time + 1 = omega (arith, l) in
          let (t, c) = reported_all g s k h in
          inr (record {
            w = k;
            is = Memᴰ.head refl;
            time = e;
            servers = λ j i. Memᴰ.append_left r.sends (accept_reports g s a k _ (t j i));
            clients = λ d i. Memᴰ.append_left r.sends (accept_reports g s a k _ (c d i));
          })
      go false q e l = inl e

  -- at most m writes, and of each so many frames
  pub freed_few : {m : ℕ} {s : Server} {a : List ℕ} {r : S.Effect} → Freed g m s a r → length r.sends ≤ m * (g.n + 17)
  freed_few {m} nothing = zero-le
  freed_few {s = s} {a} (accepts {m} w i R {r} f) =
      let l = length-append (S.accept g s a w).sends r.sends in
      rw suc-mul (omega (arith, l, accept_length g s a w, freed_few f))

-- ---- nothing that can be accepted is left (N1)

abbrev full : Server → ℕ → Bool
full s c = (slot_of s c).blocks.complete

ripe_full : (g : Params) (s : Server) (a : List ℕ) (w : S.Write) → Ripe g s a w → full s w.client ≡ true
unfolding block_view
ripe_full g s a w R = (kept_some (full s w.client) _ (offer_of w) R.complete).0

not_full : (g : Params) (s : Server) (a : List ℕ) (c : ℕ) → full s c ≡ false → S.ripe g s a c ≡ none
not_full g s a c e = go (S.ripe g s a c) refl
  where
    go : (o : Option S.Write) → S.ripe g s a c ≡ o → o ≡ none
    go none p = refl
    go (some w) p =
        let (z, R) = ripe_some g s a c w p in
        impossible (cc (ap (full s) z, ripe_full g s a w R, e))

fresh_full : (q : ℕ) → (fresh_slot q).blocks.complete ≡ false
unfolding fresh_slot fresh_blocks
fresh_full q = refl

fewer : (g : Params) (s : Server) (a : List ℕ) (w : S.Write) → Within shapes s → Among 8 w.client → Ripe g s a w
    → count (full (S.accept g s a w).server) 8 < count (full s) 8
fewer g s a w W i R =
    count_more (full (S.accept g s a w).server) (full s) 8 w.client
    (λ d is e. ⊎_elim
    (λ (z, h). impossible (cc (ap (λ x. x.blocks.complete) h, fresh_full (w.sequence + 1), e)))
    (λ (ne, h). ap (λ x. x.blocks.complete) (sym h) ∙ e)
    (accept_slots g s a w W i d))
    i
    (⊎_elim (λ (z, h). ap (λ x. x.blocks.complete) h ∙ fresh_full (w.sequence + 1)) (λ (ne, h). absurd (ne refl)) (accept_slots g s a w W i w.client))
    (ripe_full g s a w R)

none_full : (s : Server) → count (full s) 8 ≤ 0 → (c : ℕ) → Among 8 c → full s c ≡ false
none_full s l c i = go (full s c) refl
  where
    go : (b : Bool) → full s c ≡ b → full s c ≡ false
    go true e = absurd (omega (arith, count_more (λ _. false) (full s) 8 c (λ j _ d. impossible (cc d)) i refl e))
    go false e = e

calm_after : (g : Params) (m : ℕ) (s : Server) (a : List ℕ) → Within shapes s → count (full s) 8 ≤ m → (c : ℕ) → Among 8 c
    → S.ripe g (S.free g m s a).server (S.free g m s a).area c ≡ none
unfolding S.free
calm_after g zero s a W l c i = not_full g s a c (none_full s l c i)
calm_after g (suc m) s a W l c i = go
    (λ w j R. calm_after g m (S.accept g s a w).server (S.accept g s a w).area (accept_shaped g s a w j W) (omega (arith, l, fewer g s a w W j R)) c i)
    (S.lowest g s a 1 8) refl
  where
    Next : Option S.Write → S.Effect
    Next o = elim o [
      | some w ↦ S.and_also (S.accept g s a w) (S.free g m (S.accept g s a w).server (S.accept g s a w).area)
      | none ↦ S.send_only s a []
    ]

    go : ((w : S.Write) → Among 8 w.client → Ripe g s a w → S.ripe g (Next (some w)).server (Next (some w)).area c ≡ none)
        → (o : Option S.Write) → S.lowest g s a 1 8 ≡ o → S.ripe g (Next o).server (Next o).area c ≡ none
    go f none e = lowest_none g s a e c i
    go f (some w) e = let (j, R) = lowest_some g s a w e in f w j R

pub free_calm : (g : Params) (s : Server) (a : List ℕ) → Within shapes s → (c : ℕ) → Among 8 c
    → S.ripe g (S.free_all g s a).server (S.free_all g s a).area c ≡ none
free_calm g s a W = calm_after g S.rounds s a W (count_le (full s) 8)
