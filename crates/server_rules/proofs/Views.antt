-- What each store does to the view of a server's slot: one law for each. Assumes nothing.
use Prim.Native.Nat.{ℕ, ◌+◌, ◌≤◌}
use native.Mathlib.Omega.{arith}
use mathlib.Core.Bool.{Bool, true, false, not, ◌&&◌, ◌||◌}
use mathlib.Core.Path.{◌≡◌, refl, ap}
use mathlib.Core.Option.{some}
use mathlib.Core.List.{List}
use lib.ListN.{length, get_or, set, replicate}
use lib.Seq.{get_or-set_same, get_or-set_other}
use Rattle.quorum.specs.Quorum.{Among}
use Rattle.area.specs.Area.{pick}
use Rattle.area.proofs.Tests.{and_right}
use Rattle.area.proofs.Sets.{of_copies}
use Rattle.blocks.specs.declared.Params.{Params}
use Rattle.frame.specs.Chunks.{entry_at, store_entry, store_if, complete_at, echo_at, ready_at, area_bytes}
use Rattle.frame.specs.Messages.{Entry, Offer, offer, Sized}
use Rattle.frame.proofs.Chunks.{entry_same, entry_other}
use Rattle.frame.proofs.Sizes.{Small}
use Rattle.server_rules.specs.declared.Slot.{Slot}
use Rattle.server_rules.specs.Broadcast.{kept}
use Rattle.server_rules.specs.WellFormed.{Bounds, SlotWithin}
use Rattle.server_rules.specs.State.{fresh_slot, fresh_blocks, with_blocks, block_view, block_echo, block_ready, block_marks}
use Rattle.server_rules.proofs.Parts.{same_part, first_of, no_part, with_echo, with_ready, Flags, flag_place, kept_set, kept_when}

-- a slot's arrays have eleven places, of which the first is never set
abbrev pub shapes : Bounds
shapes = record { flags = Flags; time = λ T. Unit {0}; sequence = λ q. Unit {0}; stamp = λ x. Unit {0}; reader = λ x. Unit {0} }

abbrev pub Shaped : Slot → Type 0
Shaped = SlotWithin shapes

same_offer : {T T' : ℕ} {e e' : Entry} → T ≡ T' → e ≡ e' → offer T e ≡ offer T' e'
same_offer p q i = offer (p i) (q i)

module _ (g : Params) (M : Small g) (a : List ℕ) (room : area_bytes ≤ length a) (c : ℕ) (x : Slot) (X : Shaped x) where
  -- a store to a chunk that holds nothing of this slot
  pub other_chunk : (p : ℕ) (e : Entry) → Sized g e → ((m : ℕ) → 1 ≤ m → m ≤ 10 → (echo_at c m ≡ p → ⊥) × (ready_at c m ≡ p → ⊥)) → (complete_at c ≡ p → ⊥)
      → block_view g (store_entry a p e) c x ≡ block_view g a c x
  unfolding block_view
  other_chunk p e Q f h = same_part _ _ refl refl
      (λ m. kept_when _ _ _ (λ b.
      let w = flag_place x.blocks.echoes X.blocks.echoes m b in
      ap (offer _) (entry_other g M a p e Q (echo_at c m) (f m w.0 w.1).0)))
      (λ m. kept_when _ _ _ (λ b.
      let w = flag_place x.blocks.readies X.blocks.readies m b in
      ap (offer _) (entry_other g M a p e Q (ready_at c m) (f m w.0 w.1).1)))
      (ap (λ y. kept x.blocks.complete (offer x.blocks.time y)) (entry_other g M a p e Q (complete_at c) h))

  module _ (is : Among 8 c) where
    -- chunk 0, and the chunks of another client
    pub present_chunk : (e : Entry) → Sized g e → block_view g (store_entry a 0 e) c x ≡ block_view g a c x
    present_chunk e Q = other_chunk 0 e Q (λ m lo hi. (λ z. omega arith, λ z. omega arith)) (λ z. omega arith)

    pub other_client : (d p : ℕ) (e : Entry) → Sized g e → Among 8 d → (d ≡ c → ⊥) → complete_at d ≤ p → p ≤ complete_at d + 20
        → block_view g (store_entry a p e) c x ≡ block_view g a c x
    other_client d p e Q is' ne lo hi = other_chunk p e Q (λ m l h. (λ z. ne (omega arith), λ z. ne (omega arith))) (λ z. ne (omega arith))

    -- the same where the store may not happen
    pub present_if : (t : Bool) (e : Entry) → (t ≡ true → Sized g e) → block_view g (store_if t a 0 e) c x ≡ block_view g a c x
    present_if true e Q = present_chunk e (Q refl)
    present_if false e Q = refl

    pub client_if : (t : Bool) (d p : ℕ) (e : Entry) → (t ≡ true → Sized g e) → Among 8 d → (d ≡ c → ⊥) → complete_at d ≤ p → p ≤ complete_at d + 20
        → block_view g (store_if t a p e) c x ≡ block_view g a c x
    client_if true d p e Q is' ne lo hi = other_client d p e (Q refl) is' ne lo hi
    client_if false d p e Q is' ne lo hi = refl

    module _ (j : ℕ) (at : Among 10 j) (o : Offer) (Q : Sized g o.entry) where
      pub echo_view : block_view g (store_entry a (echo_at c j) o.entry) c (with_blocks x (block_echo x.blocks j o.time)) ≡ with_echo (block_view g a c x) j o
      unfolding block_view
      echo_view = same_part _ _ refl refl
          (kept_set x.blocks.echoes (λ m. offer (get_or x.blocks.echoed m 0) (entry_at g a (echo_at c m)))
          (λ m. offer (get_or (set x.blocks.echoed j o.time) m 0) (entry_at g (store_entry a (echo_at c j) o.entry) (echo_at c m))) j o
          (omega (arith, X.blocks.echoes.many))
          (same_offer (get_or-set_same x.blocks.echoed j o.time 0 (omega (arith, X.blocks.echoed.0)))
          (entry_same g M a (echo_at c j) o.entry Q (omega arith)))
          (λ m ne. same_offer (get_or-set_other x.blocks.echoed j m o.time 0 ne)
          (entry_other g M a (echo_at c j) o.entry Q (echo_at c m) (λ z. ne (omega arith)))))
          (λ m. kept_when _ _ _ (λ b.
          let w = flag_place x.blocks.readies X.blocks.readies m b in
          ap (offer _) (entry_other g M a (echo_at c j) o.entry Q (ready_at c m) (λ z. omega (arith, w.0, w.1)))))
          (ap (λ y. kept x.blocks.complete (offer x.blocks.time y)) (entry_other g M a (echo_at c j) o.entry Q (complete_at c) (λ z. omega arith)))

      pub ready_view : block_view g (store_entry a (ready_at c j) o.entry) c (with_blocks x (block_ready x.blocks j o.time))
          ≡ with_ready (block_view g a c x) j o
      unfolding block_view
      ready_view = same_part _ _ refl refl
          (λ m. kept_when _ _ _ (λ b.
          let w = flag_place x.blocks.echoes X.blocks.echoes m b in
          ap (offer _) (entry_other g M a (ready_at c j) o.entry Q (echo_at c m) (λ z. omega (arith, w.0, w.1)))))
          (kept_set x.blocks.readies (λ m. offer (get_or x.blocks.readied m 0) (entry_at g a (ready_at c m)))
          (λ m. offer (get_or (set x.blocks.readied j o.time) m 0) (entry_at g (store_entry a (ready_at c j) o.entry) (ready_at c m))) j o
          (omega (arith, X.blocks.readies.many))
          (same_offer (get_or-set_same x.blocks.readied j o.time 0 (omega (arith, X.blocks.readied.0)))
          (entry_same g M a (ready_at c j) o.entry Q (omega arith)))
          (λ m ne. same_offer (get_or-set_other x.blocks.readied j m o.time 0 ne)
          (entry_other g M a (ready_at c j) o.entry Q (ready_at c m) (λ z. ne (omega arith)))))
          (ap (λ y. kept x.blocks.complete (offer x.blocks.time y)) (entry_other g M a (ready_at c j) o.entry Q (complete_at c) (λ z. omega arith)))

    if_other : (t : Bool) (e : Entry) → (t ≡ true → Sized g e) → (q : ℕ) → (q ≡ complete_at c → ⊥) → entry_at g (store_if t a (complete_at c) e) q ≡ entry_at g a q
    if_other true e Q q ne = entry_other g M a (complete_at c) e (Q refl) q ne
    if_other false e Q q ne = refl

    if_done : (k f : Bool) (T : ℕ) (own : Offer) → (f ≡ true → Sized g own.entry)
        → kept (k || f) (offer (pick (not k && f) own.time T) (entry_at g (store_if (not k && f) a (complete_at c) own.entry) (complete_at c)))
        ≡ first_of (kept k (offer T (entry_at g a (complete_at c)))) (kept f own)
    unfolding pick
    if_done true f T own Q = refl
    if_done false true T own Q = ap (λ y. some (offer own.time y)) (entry_same g M a (complete_at c) own.entry (Q refl) (omega arith))
    if_done false false T own Q = refl

    -- the marks after a counted frame, with the completed entry stored where the write becomes complete
    pub marks_view : (r f : Bool) (own : Offer) → (f ≡ true → Sized g own.entry)
        → block_view g (store_if (not x.blocks.complete && f) a (complete_at c) own.entry) c (with_blocks x (block_marks x.blocks r f own.time))
        ≡ record {
          sent = x.blocks.sent;
          ready = x.blocks.ready || r;
          echoes = (block_view g a c x).echoes;
          readies = (block_view g a c x).readies;
          done = first_of (block_view g a c x).done (kept f own);
        }
    unfolding block_view
    marks_view r f own Q = same_part _ _ refl refl
        (λ m. kept_when _ _ _ (λ b.
        let w = flag_place x.blocks.echoes X.blocks.echoes m b in
        ap (offer _) (if_other (not x.blocks.complete && f) own.entry stored (echo_at c m) (λ z. omega (arith, w.0, w.1)))))
        (λ m. kept_when _ _ _ (λ b.
        let w = flag_place x.blocks.readies X.blocks.readies m b in
        ap (offer _) (if_other (not x.blocks.complete && f) own.entry stored (ready_at c m) (λ z. omega (arith, w.0, w.1)))))
        (if_done x.blocks.complete f x.blocks.time own Q)
      where
        stored : (not x.blocks.complete && f) ≡ true → Sized g own.entry
        stored z = Q (and_right (not x.blocks.complete) f z)

-- a fresh slot shows nothing
fresh_flag : (m : ℕ) → get_or (replicate 11 false) m false ≡ false
fresh_flag m = of_copies (λ b. b) false false false refl refl 11 m

pub fresh_block_view : (g : Params) (a : List ℕ) (c q : ℕ) → block_view g a c (fresh_slot q) ≡ no_part
unfolding block_view fresh_slot fresh_blocks
fresh_block_view g a c q = same_part _ _ refl refl
    (λ m. ap (λ b. kept b (offer (get_or (replicate 11 0) m 0) (entry_at g a (echo_at c m)))) (fresh_flag m))
    (λ m. ap (λ b. kept b (offer (get_or (replicate 11 0) m 0) (entry_at g a (ready_at c m)))) (fresh_flag m)) refl
