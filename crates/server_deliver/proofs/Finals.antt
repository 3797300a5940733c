-- What acceptances write one after the other is what the server has in the end. Assumes nothing.
use Prim.Native.Nat.{ℕ, suc, ◌+◌, ◌*◌, ◌≤◌, ◌<◌}
use native.Mathlib.Omega.{arith}
use native.Mathlib.Decide.{ℕ_discrete, dec_lt}
use mathlib.Core.Path.{◌≡◌, refl, ap, sym, ◌∙◌}
use mathlib.Core.Bool.{Bool, true, false}
use mathlib.Core.Logic.{◌⊎◌, inl, inr, ⊎_elim, ◌≢◌}
use mathlib.Core.List.{List, [], ◌∷◌, Memᴰ}
use lib.ListN.{length, set, length-set}
use lib.Seq.{sets, get_or-set_same, get_or-set_other}
use Rattle.quorum.specs.Quorum.{Among}
use Rattle.quorum.proofs.Logic.{impossible}
use Rattle.area.proofs.Tests.{kept_some}
use Rattle.blocks.specs.declared.Params.{Params}
use Rattle.frame.specs.declared.Stamp.{Stamp}
use Rattle.frame.specs.Frames.{stamp_bytes}
use Rattle.frame.proofs.RoundTrip.{length_stamp}
use Rattle.server_rules.specs.declared.Reader.{Reader}
use Rattle.server_rules.specs.declared.Server.{Server}
use Rattle.server_rules.specs.declared.Slot.{Slot}
use Rattle.server_rules.specs.State.{no_slot, fresh_blocks, fresh_slot, slot_of, block_view}
use Rattle.server_rules.specs.Steps as S
use Rattle.server_rules.proofs.Shapes.{offer_of, Ripe, Freed, nothing, accepts}
use Rattle.layout.specs.Servers.{slot_size, reader_size, slots_place, readers_place, slot_bytes, reader_bytes, slot_sets, scope_sets}
use Rattle.layout.proofs.Lengths.{length_slot}
use Rattle.layout.proofs.Stores.{sets_swap, sets_over}
use Rattle.server_deliver.specs.Rounds.{newest, opened_in}
use Rattle.server_deliver.specs.Records.{accepted_sets}

-- ---- stores that are hidden by later ones

module _ (s : Server) where
  abbrev X : List ℕ
  X = stamp_bytes s.stamp

  -- an earlier stamp
  stamp_hidden : (w : S.Write) (ws : List S.Write) (l m : List ℕ) → sets l 0 X ≡ sets m 0 X → accepted_sets s (w ∷ ws) l ≡ accepted_sets s (w ∷ ws) m
  unfolding accepted_sets slot_sets
  stamp_hidden w ws l m e = ap (λ k. accepted_sets s ws (sets k (slots_place + w.client * slot_size) (slot_bytes (slot_of s w.client)))) e

  -- the stamp goes over what was written with another one
  slot_over : (l : List ℕ) (c : ℕ) (x : Stamp) (y : Slot) → sets (slot_sets l c x y) 0 X ≡ slot_sets l c s.stamp y
  unfolding slot_sets
  slot_over l c x y =
      sets_swap (sets l 0 (stamp_bytes x)) 0 X (slots_place + c * slot_size) (slot_bytes y) (omega (arith, length_stamp s.stamp))
      ∙ ap (λ k. sets k (slots_place + c * slot_size) (slot_bytes y))
      (sets_over l 0 (stamp_bytes x) 0 X (omega arith) (omega (arith, length_stamp x, length_stamp s.stamp)))

  scope_over : (l : List ℕ) (c : ℕ) (x : Stamp) (y : Slot) (z : Reader) → sets (scope_sets l c x y z) 0 X ≡ scope_sets l c s.stamp y z
  unfolding scope_sets
  scope_over l c x y z =
      sets_swap (slot_sets l c x y) 0 X (readers_place + c * reader_size) (reader_bytes z) (omega (arith, length_stamp s.stamp))
      ∙ ap (λ k. sets k (readers_place + c * reader_size) (reader_bytes z)) (slot_over l c x y)

  -- an earlier slot of a client of which a write was accepted
  abbrev at : ℕ → ℕ
  at c = slots_place + c * slot_size

  slots_swap : (l : List ℕ) (c d : ℕ) (y z : Slot) → d ≢ c
      → sets (sets l (at c) (slot_bytes y)) (at d) (slot_bytes z) ≡ sets (sets l (at d) (slot_bytes z)) (at c) (slot_bytes y)
  slots_swap l c d y z n = go (dec_lt d c)
    where
      go : Dec (d < c) → sets (sets l (at c) (slot_bytes y)) (at d) (slot_bytes z) ≡ sets (sets l (at d) (slot_bytes z)) (at c) (slot_bytes y)
      go (yes h) = sets_swap l (at d) (slot_bytes z) (at c) (slot_bytes y) (omega (arith, h, length_slot z))
      go (no h) = sym (sets_swap l (at c) (slot_bytes y) (at d) (slot_bytes z) (omega (arith, h, n, length_slot y)))

  slot_hidden : (ws : List S.Write) (l : List ℕ) (c : ℕ) (y z : Slot) (w : S.Write) → Memᴰ w ws → w.client ≡ c
      → accepted_sets s ws (sets l (at c) (slot_bytes y)) ≡ accepted_sets s ws (sets l (at c) (slot_bytes z))
  unfolding accepted_sets slot_sets
  slot_hidden [] l c y z w u e = absurd (mathlib.Core.List.Memᴰ.not-nil u)
  slot_hidden (v ∷ ws) l c y z w u e = go (λ k t. slot_hidden ws k c y z w t e) (ℕ_discrete v.client c)
    where
      d : ℕ
      d = v.client

      n : Slot
      n = slot_of s d

      -- the stamp before it
      under : (y : Slot) → sets (sets (sets l (at c) (slot_bytes y)) 0 X) (at d) (slot_bytes n)
          ≡ sets (sets (sets l 0 X) (at c) (slot_bytes y)) (at d) (slot_bytes n)
      under y = ap (λ k. sets k (at d) (slot_bytes n)) (sets_swap l 0 X (at c) (slot_bytes y) (omega (arith, length_stamp s.stamp)))

      over : (y : Slot) → d ≡ c → sets (sets (sets l 0 X) (at c) (slot_bytes y)) (at d) (slot_bytes n) ≡ sets (sets l 0 X) (at d) (slot_bytes n)
      over y q = sets_over (sets l 0 X) (at c) (slot_bytes y) (at d) (slot_bytes n) (omega (arith, q)) (omega (arith, q, length_slot y, length_slot n))

      go : ((k : List ℕ) → Memᴰ w ws → accepted_sets s ws (sets k (at c) (slot_bytes y)) ≡ accepted_sets s ws (sets k (at c) (slot_bytes z)))
          → Dec (d ≡ c) → accepted_sets s ws (sets (sets (sets l (at c) (slot_bytes y)) 0 X) (at d) (slot_bytes n))
          ≡ accepted_sets s ws (sets (sets (sets l (at c) (slot_bytes z)) 0 X) (at d) (slot_bytes n))
      go f (yes q) = ap (accepted_sets s ws) (under y ∙ over y q ∙ sym (under z ∙ over z q))
      go f (no q) =
          let t : Memᴰ w ws = ⊎_elim (λ k. absurd (q (sym (ap (λ (x : S.Write). x.client) k) ∙ e))) (λ t. t) (mathlib.Core.List.Memᴰ.cases_cons u) in
          ap (accepted_sets s ws) (under y ∙ slots_swap (sets l 0 X) c d y n q)
          ∙ f (sets (sets l 0 X) (at d) (slot_bytes n)) t
          ∙ sym (ap (accepted_sets s ws) (under z ∙ slots_swap (sets l 0 X) c d z n q))

scope_last : (l : List ℕ) (c : ℕ) (x : Stamp) (y : Slot) (z : Reader) → c ≤ 8
    → scope_sets l c x y z
    ≡ sets (sets (sets l 0 (stamp_bytes x)) (readers_place + c * reader_size) (reader_bytes z)) (slots_place + c * slot_size) (slot_bytes y)
unfolding scope_sets slot_sets
scope_last l c x y z few =
    sym (sets_swap (sets l 0 (stamp_bytes x)) (slots_place + c * slot_size) (slot_bytes y) (readers_place + c * reader_size) (reader_bytes z)
    (omega (arith, few, length_slot y)))

-- ---- slots

module _ {g : Params} where
  ripe_full : {s : Server} {a : List ℕ} {w : S.Write} → Ripe g s a w → (slot_of s w.client).blocks.complete ≡ true
  unfolding block_view
  ripe_full {s} {w = w} R = (kept_some (slot_of s w.client).blocks.complete _ (offer_of w) R.complete).0

  -- the slot of a client whose write is not complete stays
  stays_open : {m : ℕ} {s : Server} {a : List ℕ} {r : S.Effect} → Freed g m s a r → (d : ℕ) → (slot_of s d).blocks.complete ≡ false
      → slot_of r.server d ≡ slot_of s d
  unfolding S.accept
  stays_open nothing d e = refl
  stays_open {s = s} {a} (accepts w i R f) d e =
      let n : d ≢ w.client = λ q. impossible (cc (ap (λ c. (slot_of s c).blocks.complete) q, e, ripe_full R)) in
      let h : slot_of (S.accept g s a w).server d ≡ slot_of s d = get_or-set_other s.slots w.client d _ no_slot n in
      stays_open f d (ap (λ x. x.blocks.complete) h ∙ e) ∙ h

  -- a slot stays, or its client's write is one of those that are accepted
  stays_or : {m : ℕ} {s : Server} {a : List ℕ} {r : S.Effect} → Freed g m s a r → (d : ℕ)
      → (slot_of r.server d ≡ slot_of s d) ⊎ ((w : S.Write) × Memᴰ w r.accepted × (w.client ≡ d))
  unfolding S.accept
  stays_or nothing d = inl refl
  stays_or {s = s} {a} (accepts w i R {r} f) d = go (ℕ_discrete w.client d) (stays_or f d)
    where
      go : Dec (w.client ≡ d) → (slot_of r.server d ≡ slot_of (S.accept g s a w).server d) ⊎ ((x : S.Write) × Memᴰ x r.accepted × (x.client ≡ d))
          → (slot_of r.server d ≡ slot_of s d) ⊎ ((x : S.Write) × Memᴰ x (w ∷ r.accepted) × (x.client ≡ d))
      go (yes q) t = inr (w, mathlib.Core.List.Memᴰ.head refl, q)
      go (no q) (inl e) = inl (e ∙ get_or-set_other s.slots w.client d _ no_slot (λ z. q (sym z)))
      go (no q) (inr (x, u, e)) = inr (x, mathlib.Core.List.Memᴰ.tail u, e)

  -- ---- the record's bytes

  -- what was written with the stamp before may be with the last one
  last_stamp : {m : ℕ} {s : Server} {a : List ℕ} {r : S.Effect} → Freed g m s a r → (l : Stamp → List ℕ)
      → ((x : Stamp) → sets (l x) 0 (stamp_bytes r.server.stamp) ≡ l r.server.stamp)
      → accepted_sets r.server r.accepted (l s.stamp) ≡ accepted_sets r.server r.accepted (l r.server.stamp)
  unfolding S.accept
  last_stamp nothing l e = refl
  last_stamp {s = s} (accepts v i R {r = t} f) l e = stamp_hidden t.server v t.accepted _ _ (e s.stamp ∙ sym (e t.server.stamp))

  pub opened_final : {m : ℕ} {s : Server} {a : List ℕ} {r : S.Effect} → Freed g m s a r → length s.slots ≡ 9 → (l : List ℕ)
      → opened_in s.stamp r.accepted l ≡ accepted_sets r.server r.accepted l
  unfolding S.accept opened_in accepted_sets fresh_slot fresh_blocks
  opened_final nothing n l = refl
  opened_final {s = s} {a} (accepts w i R {r} f) n l =
      let c = w.client in
      let y = fresh_slot (w.sequence + 1) in
      let k = i.1 in
      let here : slot_of (S.accept g s a w).server c ≡ y = get_or-set_same s.slots c y no_slot (omega (arith, k, n)) in
      let z = stays_open f c (ap (λ x. x.blocks.complete) here) ∙ here in
      opened_final f (length-set s.slots c y ∙ n) (slot_sets l c (newest s.stamp w) y)
      ∙ last_stamp f (λ x. slot_sets l c x y) (λ x. slot_over r.server l c x y)
      ∙ ap (λ q. accepted_sets r.server r.accepted (slot_sets l c r.server.stamp q)) (sym z)

  -- the same after the scope of client c was written, as s has it
  pub scope_final : {m : ℕ} {s : Server} {a : List ℕ} {r : S.Effect} → Freed g m s a r → length s.slots ≡ 9 → (l : List ℕ) (c : ℕ) (z : Reader) → c ≤ 8
      → opened_in s.stamp r.accepted (scope_sets l c s.stamp (slot_of s c) z)
      ≡ accepted_sets r.server r.accepted (scope_sets l c r.server.stamp (slot_of r.server c) z)
  scope_final {s = s} {a} {r} f n l c z few =
      opened_final f n (scope_sets l c s.stamp (slot_of s c) z)
      ∙ last_stamp f (λ x. scope_sets l c x (slot_of s c) z) (λ x. scope_over r.server l c x (slot_of s c) z)
      ∙ slots (stays_or f c)
    where
      slots : (slot_of r.server c ≡ slot_of s c) ⊎ ((w : S.Write) × Memᴰ w r.accepted × (w.client ≡ c))
          → accepted_sets r.server r.accepted (scope_sets l c r.server.stamp (slot_of s c) z)
          ≡ accepted_sets r.server r.accepted (scope_sets l c r.server.stamp (slot_of r.server c) z)
      slots (inl e) = ap (λ y. accepted_sets r.server r.accepted (scope_sets l c r.server.stamp y z)) (sym e)
      slots (inr (w, u, e)) =
          ap (accepted_sets r.server r.accepted) (scope_last l c r.server.stamp (slot_of s c) z few)
          ∙ slot_hidden r.server r.accepted _ c (slot_of s c) (slot_of r.server c) w u e
          ∙ sym (ap (accepted_sets r.server r.accepted) (scope_last l c r.server.stamp (slot_of r.server c) z few))
