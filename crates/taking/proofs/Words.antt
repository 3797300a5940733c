-- What a server says as it takes a frame of a write: an echo of the client's own frame to all, a ready that is due to all, and the ack of a write that it
-- accepts. What its ready and its completed write hold is its own entry of a value that it decodes. Assumes nothing.
use Prim.Native.Nat.{ℕ, ◌≤◌}
use native.Mathlib.Omega.{arith}
use mathlib.Core.Bool.{Bool, true, false, not, ◌&&◌, ◌||◌}
use mathlib.Core.Path.{◌≡◌, refl, ap, sym, ◌∙◌, subst}
use mathlib.Core.Logic.{◌⊎◌, inl, inr, ⊎_elim}
use mathlib.Core.Option.{Option, none, some}
use mathlib.Core.List.Memᴰ
use mathlib.Core.List.{List, [], ◌∷◌, Memᴰ}
use lib.ListN.{length}
use lib.Dec.{leb}
use borrow.Author.Tests.{leb-true, leb-false}
use Rattle.quorum.specs.Quorum.{Among}
use Rattle.quorum.proofs.Logic.{impossible, and_split, and_true, or_split}
use Rattle.area.specs.Area.{Bytes, pick}
use Rattle.area.proofs.Tests.{in_pick}
use Rattle.blocks.specs.declared.Params.{Params}
use Rattle.blocks.proofs.Exactly.{candidate_bytes}
use Rattle.group_rules.specs.Coded.{pieces, numbers, joined_bytes, lowest_value, block_at, entry_of}
use Rattle.frame.specs.declared.Party.{Party}
use Rattle.frame.specs.declared.Party.TheVariants as P
use Rattle.frame.specs.Chunks.{store_entry, echo_at, ready_at}
use Rattle.frame.specs.Params.{quota, Bounded}
use Rattle.frame.specs.Messages.{Entry, entry, Offer, Stage, send, echo, ready, Body, block_is, Message, message, sending, to_all, number_in, Sized}
use Rattle.frame.proofs.Sizes.{small}
use Rattle.server_rules.specs.declared.Slot.{Slot}
use Rattle.server_rules.specs.declared.Server.{Server}
use Rattle.server_rules.specs.Broadcast.{Rules, Part, kept, undone, votes, enough, due, full, matters}
use Rattle.server_rules.specs.Rules.{at_time, regained_of, block_rules}
use Rattle.server_rules.specs.State.{slot_of, with_blocks, block_view, block_echo, block_ready}
use Rattle.server_rules.specs.Steps as S
use Rattle.server_rules.proofs.Parts.{first_of, with_echo, with_ready, settled, counted}
use Rattle.server_rules.proofs.Views as SV
use Rattle.server_rules.proofs.Views.{shapes, Shaped}
use Rattle.server_rules.proofs.Thresholds.{due_votes, full_supported, unanimous_of_lem, compared, quota_blocks}
use Rattle.server_rules.proofs.AtTime.{votes_are}
use Rattle.server_rules.proofs.Decoding.{lowest_size}
use Rattle.server_rules.proofs.Casts.{mem_all, all_mem}
use Rattle.server_rules.proofs.Enough.{send_echoed}
use Rattle.server_rules.proofs.Counting.{said}
use Rattle.server_rules.proofs.Accepting.{ack_of}
use Rattle.server_rules.proofs.Freeing.{freed_acked}
use Rattle.server_rules.proofs.Speaking.{freed_none}
use Rattle.server_rules.proofs.Shapes.{Counted, block, shape_of, Shape, idle, answers, notes, ends, settles, hears}
use Rattle.server_rules.proofs.Within.{slot_within}
use Rattle.steps.proofs.CastFacts.{part_at}
use Rattle.steps.proofs.ServerFits.{ServerShape}
use Rattle.taking.proofs.Local.{regained_cases}

module _ (H : List ℕ → List ℕ) (g : Params) where
  abbrev R : Rules Offer
  R = block_rules H g

  -- e is the entry of server me for some value
  abbrev pub Encodes : ℕ → Entry → Type 0
  Encodes me e = (v : List ℕ) × (e ≡ entry_of H g v me)

  -- and for one of the values vs, which have the right size
  abbrev pub Coded : ℕ → List (List ℕ) → Entry → Type 0
  Coded me vs e = (v : List ℕ) × Memᴰ v vs × (e ≡ entry_of H g v me) × (length v ≡ g.size) × Bytes v

  -- ---- the value regained

  lowest_bytes : (f : ℕ → Option Entry) (d : List ℕ) → Bytes (lowest_value g f d)
  unfolding lowest_value
  lowest_bytes f d = let l = pieces f d 1 g.n in candidate_bytes g.k g.size (numbers l) (joined_bytes l)

  regained_bytes : (w : Part Offer) (o : Offer) → Bytes (regained_of g w.echoes w.readies o)
  unfolding pick
  regained_bytes w o = subst Bytes (sym (regained_cases H g w.echoes w.readies o)) (go (leb (quota g) (votes R g.n g.t w.readies o)))
    where
      go : (b : Bool)
          → Bytes (pick b (lowest_value g (at_time w.readies o.time) o.entry.digests)
          (lowest_value g (at_time w.echoes o.time) o.entry.digests))
      go true = lowest_bytes _ o.entry.digests
      go false = lowest_bytes _ o.entry.digests

  regained_size : Bounded g → (w : Part Offer) (o : Offer) → due R g.n g.t w o ≡ true → length (regained_of g w.echoes w.readies o) ≡ g.size
  unfolding pick
  regained_size L w o h = subst (λ v. length v ≡ g.size) (sym (regained_cases H g w.echoes w.readies o))
      (go (leb (quota g) (votes R g.n g.t w.readies o)) refl)
    where
      by : (f : ℕ → Option Offer) → g.k ≤ votes R g.n g.t f o → length (lowest_value g (at_time f o.time) o.entry.digests) ≡ g.size
      by f l = lowest_size H g L.blocks_low (at_time f o.time) o.entry.digests (omega (arith, l, votes_are H g f o))

      go : (b : Bool) → leb (quota g) (votes R g.n g.t w.readies o) ≡ b
          → length (pick b (lowest_value g (at_time w.readies o.time) o.entry.digests)
          (lowest_value g (at_time w.echoes o.time) o.entry.digests))
          ≡ g.size
      go true e = by w.readies (omega (arith, leb-true (quota g) (votes R g.n g.t w.readies o) e, quota_blocks g))
      go false e = ⊎_elim
          (λ l. by w.echoes (omega (arith, l, L.blocks_high)))
          (λ l. absurd (omega (arith, l, leb-false (quota g) (votes R g.n g.t w.readies o) e)))
          (due_votes R g.n g.t w o h)

  -- what a server says itself of an offer that is supported
  own_encodes : (me : ℕ) (w : Part Offer) (o : Offer) → R.supports w.echoes w.readies o ≡ true
      → (R.own me w.echoes w.readies o).entry ≡ entry_of H g (regained_of g w.echoes w.readies o) me
  unfolding entry_of
  own_encodes me w o e i = entry (sym (compared H g w.echoes w.readies o e) i) (block_at H g (regained_of g w.echoes w.readies o) me)

  due_supported : (w : Part Offer) (o : Offer) → due R g.n g.t w o ≡ true → R.supports w.echoes w.readies o ≡ true
  unfolding due
  due_supported w o h = (and_split (enough R g.n g.t w o) _ (and_split (not w.ready) _ h).1).1

  due_matters : (w : Part Offer) (o : Offer) → due R g.n g.t w o ≡ true → matters R g.n g.t w o ≡ true
  unfolding due matters
  due_matters w o h =
      let a = and_split (not w.ready) _ h in
      let b = and_split (enough R g.n g.t w o) _ a.1 in
      ap (λ t. t || (leb R.all (votes R g.n g.t w.readies o) && undone w.done)) (and_true _ _ a.0 b.0)

  -- ---- the part afterwards

  -- what is complete was so, or is the server's own entry of a value
  settled_done : (me : ℕ) (w : Part Offer) (o y : Offer) → (settled R g.n g.t me w o).done ≡ some y → (w.done ≡ some y) ⊎ Encodes me y.entry
  settled_done me w o y = go w.done (full R g.n g.t w o) refl refl
    where
      go : (d : Option Offer) (b : Bool) → w.done ≡ d → full R g.n g.t w o ≡ b → first_of d (kept b (R.own me w.echoes w.readies o)) ≡ some y
          → (w.done ≡ some y) ⊎ Encodes me y.entry
      go (some x) b p q e = inl (p ∙ e)
      go none true p q e =
          let i : R.own me w.echoes w.readies o ≡ y = cc e in
          inr (_, ap (λ y. y.entry) (sym i) ∙ own_encodes me w o (full_supported R g.n g.t w o q))
      go none false p q e = impossible (cc e)

  pub counted_done : (me : ℕ) (v : Part Offer) (j : ℕ) (z : Stage) (o y : Offer) → (counted R g.n g.t me v j z o).done ≡ some y
      → (v.done ≡ some y) ⊎ Encodes me y.entry
  counted_done me v j send o y e = inl e
  counted_done me v j echo o y e = settled_done me (with_echo v j o) o y e
  counted_done me v j ready o y e = settled_done me (with_ready v j o) o y e

  -- ---- what goes out

  module _ (me c : ℕ) (a : List ℕ) (x : Slot) (o : Offer) where
    abbrev w : Part Offer
    w = block_view g a c x

    voted_all : due R g.n g.t w o ≡ true → (i : ℕ) → Among g.n i
        → Memᴰ (sending (P.Server i) (message c x.sequence (block_is ready (R.own me w.echoes w.readies o)))) (S.voted_block H g me a c x o).sends
    unfolding S.voted_block to_all pick
    voted_all e i is =
        rw e (all_mem (λ i. message c x.sequence (block_is ready (R.own me w.echoes w.readies o))) 1 g.n i is.0 (omega (arith, is.1)))

    voted_coded : Bounded g → (b : Party) (d n : ℕ) (y : Offer) → Memᴰ (sending b (message d n (block_is ready y))) (S.voted_block H g me a c x o).sends
        → Coded me (S.voted_block H g me a c x o).decodes y.entry
    unfolding S.voted_block
    voted_coded L b d n y u =
        let (h, e) = said g _ c x.sequence _ _ u in
        let i : y ≡ R.own me w.echoes w.readies o = cc (ap (λ m. m.body) e) in (
          regained_of g w.echoes w.readies o,
          in_pick _ _ (and_true _ _ (due_matters w o h) (unanimous_of_lem H g w.echoes w.readies o (due_supported w o h))),
          ap (λ y. y.entry) i ∙ own_encodes me w o (due_supported w o h),
          regained_size L w o h,
          regained_bytes w o,
        )

  module _ (L : Bounded g) (me : ℕ) (s : Server) (a initial : List ℕ) (F : ServerShape s a) (j : ℕ) (at : Among 10 j) (c : ℕ) (is : Among 8 c) where
    X : Shaped (slot_of s c)
    X = slot_within shapes F.within c is.1

    -- a ready that is due goes to all, and so does an echo of the client's own frame
    pub says_ready : (z : Stage) (o : Offer) → Sized g o.entry → (counted R g.n g.t me (part_at g s a c) j z o).ready ≡ true
        → ((part_at g s a c).ready ≡ true) ⊎ ((y : Offer) × ((i : ℕ) → Among g.n i
        → Memᴰ (sending (P.Server i) (message c (slot_of s c).sequence (block_is ready y))) (S.on_block H g me a c (slot_of s c) j z o).sends))
    unfolding S.on_block
    says_ready send o Q e = inl e
    says_ready echo o Q e = ⊎_elim
        (λ h. inl h)
        (λ h. inr (
          _,
          voted_all me c (store_entry a (echo_at c j) o.entry) (with_blocks (slot_of s c) (block_echo (slot_of s c).blocks j o.time)) o
              (ap (λ w. due R g.n g.t w o) (SV.echo_view g (small g L) a F.room c (slot_of s c) X is j at o Q) ∙ h),
        ))
        (or_split (part_at g s a c).ready _ e)
    says_ready ready o Q e = ⊎_elim
        (λ h. inl h)
        (λ h. inr (
          _,
          voted_all me c (store_entry a (ready_at c j) o.entry) (with_blocks (slot_of s c) (block_ready (slot_of s c).blocks j o.time)) o
              (ap (λ w. due R g.n g.t w o) (SV.ready_view g (small g L) a F.room c (slot_of s c) X is j at o Q) ∙ h),
        ))
        (or_split (part_at g s a c).ready _ e)

    pub says_echo : (z : Stage) (o : Offer) → (counted R g.n g.t me (part_at g s a c) j z o).sent ≡ true
        → ((part_at g s a c).sent ≡ true) ⊎ ((z ≡ send) × ((i : ℕ) → Among g.n i
        → Memᴰ (sending (P.Server i) (message c (slot_of s c).sequence (block_is echo o))) (S.on_block H g me a c (slot_of s c) j z o).sends))
    says_echo send o e = inr (refl, send_echoed H g me a c (slot_of s c) j o)
    says_echo echo o e = inl e
    says_echo ready o e = inl e

  -- each ready holds the server's own entry of a value that it decodes in this step
  counted_coded : Bounded g → (me : ℕ) (s : Server) (a initial : List ℕ) (j c : ℕ) {x : Body} {p : S.Counting} → Counted H g me s a initial j c x p
      → (b : Party) (d n : ℕ) (y : Offer)
      → Memᴰ (sending b (message d n (block_is ready y))) p.sends → Coded me p.decodes y.entry
  unfolding S.on_block to_all
  counted_coded L me s a initial j c (block send o) b d n y u =
      let e = (mem_all (λ i. message c (slot_of s c).sequence (block_is echo o)) 1 g.n _ u).1 in
      impossible (cc (ap (λ m. m.body) e))
  counted_coded L me s a initial j c (block echo o) b d n y u = voted_coded me c _ _ o L b d n y u
  counted_coded L me s a initial j c (block ready o) b d n y u = voted_coded me c _ _ o L b d n y u

  alone : {b b' : Party} {m : Message} {d n : ℕ} {z : Stage} {y : Offer} → Memᴰ (sending b (message d n (block_is z y))) (sending b' m ∷ [])
      → block_is z y ≡ m.body
  alone u = ap (λ x. x.says.body) (Memᴰ.eq_of_singleton u)

  pub ready_coded : Bounded g → (me : ℕ) (s : Server) (a initial : List ℕ) (from : Party) (m : Message) (b : Party) (d n : ℕ) (y : Offer)
      → Memᴰ (sending b (message d n (block_is ready y))) (S.effect H g me s a initial from m).sends
      → Coded me (S.effect H g me s a initial from m).decodes y.entry
  ready_coded L me s a initial from m b d n y = go (shape_of H g me s a initial from m)
    where
      go : {x : Body} {r : S.Effect} → Shape H g me s a initial (number_in from) m.client m.sequence x r
          → Memᴰ (sending b (message d n (block_is ready y))) r.sends → Coded me r.decodes y.entry
      go (idle x) u = absurd (Memᴰ.not-nil u)
      go answers u = impossible (cc (alone u))
      go notes u = impossible (cc (alone u))
      go ends u = absurd (Memᴰ.not-nil u)
      go (settles x p k f) u = ⊎_elim
          (λ v. counted_coded L me s a initial (number_in from) m.client k b d n y v)
          (λ v. absurd (freed_none f _ v tt))
          (Memᴰ.append_cases p.sends u)
      go (hears T f) u = absurd (freed_none f _ u tt)

  -- ---- the ack

  pub accepted_acked : (me : ℕ) (s : Server) (a initial : List ℕ) (from : Party) (m : Message) (w : S.Write)
      → Memᴰ w (S.effect H g me s a initial from m).accepted → Memᴰ (ack_of w) (S.effect H g me s a initial from m).sends
  accepted_acked me s a initial from m w = go (shape_of H g me s a initial from m)
    where
      go : {x : Body} {r : S.Effect} → Shape H g me s a initial (number_in from) m.client m.sequence x r → Memᴰ w r.accepted
          → Memᴰ (ack_of w) r.sends
      go (idle x) u = absurd (Memᴰ.not-nil u)
      go answers u = absurd (Memᴰ.not-nil u)
      go notes u = absurd (Memᴰ.not-nil u)
      go ends u = absurd (Memᴰ.not-nil u)
      go (settles x p k f) u = Memᴰ.append_right p.sends (freed_acked f w u)
      go (hears T f) u = freed_acked f w u
