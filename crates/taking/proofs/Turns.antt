-- What a frame that a server takes does to each client's part of the broadcast: it stays, a frame of its open write is counted, or that write is accepted.
-- Assumes nothing.
use Rattle.frame.specs.Refusals.{fine}
use Prim.Native.Nat.{ℕ, ◌+◌, ◌<◌}
use native.Mathlib.Omega.{arith}
use native.Mathlib.Decide.{ℕ_discrete}
use mathlib.Core.Bool.{Bool, true, false}
use mathlib.Core.Path.{◌≡◌, refl, ap, sym, ◌∙◌, subst}
use mathlib.Core.Logic.{◌⊎◌, inl, inr, ⊎_elim}
use mathlib.Core.Option.{none, some}
use mathlib.Core.List.Memᴰ
use mathlib.Core.List.{List, [], ◌++◌, Memᴰ}
use lib.ListN.{get_or}
use lib.Seq.{get_or-set_other}
use Rattle.quorum.specs.Quorum.{Among}
use Rattle.quorum.proofs.Logic.{impossible}
use Rattle.blocks.specs.declared.Params.{Params}
use Rattle.frame.specs.declared.Party.{Party}
use Rattle.frame.specs.Stamps.{last_time}
use Rattle.frame.specs.Messages.{Offer, Stage, send, echo, ready, Body, get_stamp, ack, ask_read, read_complete}
use Rattle.frame.specs.Messages.{stamp_is, block_is, value_is, report, Message, message, Sending, number_in, Sized}
use Rattle.frame.specs.Params.{Bounded}
use Rattle.frame.proofs.Sizes.{small}
use Rattle.frame.proofs.Verdicts.{fine_both}
use Rattle.server_rules.specs.declared.Slot.{Slot}
use Rattle.server_rules.specs.declared.Server.{Server}
use Rattle.server_rules.specs.Broadcast.{Rules, Part, kept}
use Rattle.server_rules.specs.Rules.{block_rules}
use Rattle.server_rules.specs.State.{no_slot, fresh_slot, slot_of, with_slot, with_report, block_view}
use Rattle.server_rules.specs.Steps as S
use Rattle.server_rules.specs.Tests as ST
use Rattle.server_rules.proofs.Parts.{no_part, counted}
use Rattle.server_rules.proofs.Views.{shapes, fresh_block_view}
use Rattle.server_rules.proofs.Shapes.{offer_of, Freed, free, freed, Counted, block, counted_sequence}
use Rattle.server_rules.proofs.Passing.{SizedIn, open_passed, test_split, counted_from, counted_open}
use Rattle.server_rules.proofs.Within.{slot_within, this_slot}
use Rattle.server_rules.proofs.Freeing.{freed_ripe, freed_slots, freed_opens, freed_blocks}
use Rattle.server_rules.proofs.Counting.{hears, counted_others}
use Rattle.steps.proofs.CastFacts.{part_at, fresh_sequence}
use Rattle.steps.proofs.ServerFits.{ServerShape, counted_shape, report_shape}
use Rattle.taking.proofs.Quiet.{Uncounted}

-- ---- a frame that was not counted before

off : (b : Bool) (o : Offer) → b ≡ false → kept b o ≡ none
off true o e = impossible (cc e)
off false o e = refl

pub uncounted : (H : List ℕ → List ℕ) (g : Params) (a : List ℕ) (c : ℕ) (x : Slot) (j : ℕ) (z : Stage) (o : Offer) → ST.counted x j (block_is z o) ≡ false
    → Uncounted H g (block_view g a c x) j z
unfolding ST.counted block_view
uncounted H g a c x j send o e = tt
uncounted H g a c x j echo o e = off _ _ e
uncounted H g a c x j ready o e = off _ _ e

module _ (H : List ℕ → List ℕ) (g : Params) (me : ℕ) (s : Server) (a : List ℕ) (from : Party) where
  abbrev R : Rules Offer
  R = block_rules H g

  abbrev j : ℕ
  j = number_in from

  -- ---- one client's part

  -- none of the writes that r accepts is client d's
  abbrev pub NoneOf : S.Effect → ℕ → Type 0
  NoneOf r d = (w : S.Write) → Memᴰ w r.accepted → w.client ≡ d → ⊥

  -- w is, and client d's slot is fresh
  pub record Opens (r : S.Effect) (d : ℕ) (w : S.Write) : Type 0 where
    pub accepted : Memᴰ w r.accepted
    pub client : w.client ≡ d
    pub sequence : w.sequence ≡ (slot_of s d).sequence
    pub next : (slot_of r.server d).sequence ≡ (slot_of s d).sequence + 1
    pub empty : part_at g r.server r.area d ≡ no_part
    pub below : w.time < last_time

  -- m is no frame of client d's write
  abbrev pub NotOf : Message → ℕ → Type 0
  NotOf m d = (n : ℕ) (z : Stage) (o : Offer) → m ≡ message d n (block_is z o) → ⊥

  -- What the message m does to client d's open sequence and part, r being the whole step: it stays, a frame of it is counted, its write is accepted after
  -- that frame, or its write, which was complete, is accepted after another one.
  pub data Turn (m : Message) (r : S.Effect) (d : ℕ) : Type 0 where
    stays : (slot_of r.server d).sequence ≡ (slot_of s d).sequence → part_at g r.server r.area d ≡ part_at g s a d → NoneOf r d → NotOf m d → Turn m r d
    counts : (z : Stage) (o : Offer) → m ≡ message d (slot_of s d).sequence (block_is z o) → Uncounted H g (part_at g s a d) j z
        → (slot_of r.server d).sequence ≡ (slot_of s d).sequence → part_at g r.server r.area d ≡ counted R g.n g.t me (part_at g s a d) j z o
        → NoneOf r d → Turn m r d
    accepts_one : (z : Stage) (o : Offer) → m ≡ message d (slot_of s d).sequence (block_is z o) → Uncounted H g (part_at g s a d) j z → (w : S.Write)
        → Opens r d w → (counted R g.n g.t me (part_at g s a d) j z o).done ≡ some (offer_of w) → Turn m r d
    accepts_other : NotOf m d → (w : S.Write) → Opens r d w → (part_at g s a d).done ≡ some (offer_of w) → Turn m r d

  -- ---- what is accepted after a count, or after a report

  module _ (L : Bounded g) {s₁ : Server} {a₁ : List ℕ} (F₁ : ServerShape s₁ a₁) {r : S.Effect} (f : Freed g 8 s₁ a₁ r)
      (same : (d : ℕ) → (slot_of s₁ d).sequence ≡ (slot_of s d).sequence) (ds : List (List ℕ)) (l : List Sending) where
    abbrev whole : S.Effect
    whole = record { server = r.server; area = r.area; sends = l ++ r.sends; accepted = r.accepted; decodes = ds }

    opens : (d : ℕ) (w : S.Write) → Memᴰ w r.accepted → w.client ≡ d → Opens whole d w
    opens d w u e =
        let (i, C) = freed_ripe (small g L) f F₁.within F₁.room w u in
        let n : slot_of r.server d ≡ fresh_slot (w.sequence + 1) = ap (slot_of r.server) (sym e) ∙ freed_opens (small g L) f F₁.within F₁.room w u in
        let q : w.sequence ≡ (slot_of s d).sequence = C.sequence ∙ ap (λ c. (slot_of s₁ c).sequence) e ∙ same d in
        record {
          accepted = u;
          client = e;
          sequence = q;
          next = ap (λ x. x.sequence) n ∙ fresh_sequence (w.sequence + 1) ∙ ap (λ q. q + 1) q;
          empty = ap (block_view g r.area d) n ∙ fresh_block_view g r.area d (w.sequence + 1);
          below = C.below;
        }

    -- a sequence that stays has none accepted
    none_of : (d : ℕ) → (slot_of r.server d).sequence ≡ (slot_of s d).sequence → NoneOf whole d
    none_of d e w u z = let o = (opens d w u z).next in omega (arith, o, e)

    -- client d's part in between is v
    by_parts : (m : Message) (d : ℕ) → Among 8 d → (v : Part Offer) → part_at g s₁ a₁ d ≡ v
        → ((slot_of r.server d).sequence ≡ (slot_of s d).sequence → part_at g r.server r.area d ≡ v → NoneOf whole d → Turn m whole d)
        → ((w : S.Write) → Opens whole d w → v.done ≡ some (offer_of w) → Turn m whole d) → Turn m whole d
    by_parts m d i v e stay next = ⊎_elim
        (λ h.
        let q : (slot_of r.server d).sequence ≡ (slot_of s d).sequence = ap (λ x. x.sequence) h ∙ same d in
        stay q (ap (block_view g r.area d) h
        ∙ freed_blocks (small g L) f F₁.room d i (slot_of s₁ d) (slot_within shapes F₁.within d i.1) ∙ e) (none_of d q))
        (λ (w, u, z, h).
        let (j, C) = freed_ripe (small g L) f F₁.within F₁.room w u in
        next w (opens d w u z) (ap (λ v. v.done) (sym e) ∙ ap (λ c. (part_at g s₁ a₁ c).done) (sym z) ∙ C.complete))
        (freed_slots (small g L) f F₁.within F₁.room d)

  module _ (L : Bounded g) (initial : List ℕ) (F : ServerShape s a) (c q : ℕ) (is : Among 8 c) where
    -- ---- a frame of client c's write

    module _ (z : Stage) (o : Offer) (Q : Sized g o.entry) (right : ST.sender_right g from c (block_is z o) ≡ true)
        (t : ST.order_test H g me s j c q (block_is z o) ≡ fine) where
      abbrev p : S.Counting
      p = S.on_block H g me a c (slot_of s c) j z o

      abbrev s₁ : Server
      s₁ = with_slot s c p.slot

      k : Counted H g me s a initial j c (block_is z o) p
      k = block z o

      at : Among 10 j
      at = counted_from g from c is L.servers_high k right

      its_own : q ≡ (slot_of s c).sequence
      its_own = counted_open k q t

      not_again : Uncounted H g (part_at g s a c) j z
      unfolding ST.order_test
      not_again = uncounted H g a c (slot_of s c) j z o (open_passed (slot_of s c) q (ST.counted (slot_of s c) j (block_is z o)) (fine_both _ _ t).0).1

      -- the part after the frame is counted
      counted_part : block_view g p.area c p.slot ≡ counted R g.n g.t me (part_at g s a c) j z o
      counted_part =
          let h = hears H g L me s a initial F.room j at c is (slot_within shapes F.within c is.1) k Q in
          let ez : h.z ≡ z = cc h.is in
          let eo : h.o ≡ o = cc h.is in
          h.part ∙ (λ i. counted R g.n g.t me (part_at g s a c) j (ez i) (eo i))

      F₁ : ServerShape s₁ p.area
      F₁ = counted_shape H g me s a initial F j at.0 c is.1 k

      here : part_at g s₁ p.area c ≡ counted R g.n g.t me (part_at g s a c) j z o
      here = ap (block_view g p.area c) (this_slot shapes F.within c is.1 p.slot) ∙ counted_part

      there : (d : ℕ) → Among 8 d → (d ≡ c → ⊥) → part_at g s₁ p.area d ≡ part_at g s a d
      there d i ne = ap (block_view g p.area d) (get_or-set_other s.slots c d p.slot no_slot ne)
          ∙ counted_others H g L me s a initial F.room j at c is (slot_within shapes F.within c is.1) k Q d i ne (slot_of s d)
          (slot_within shapes F.within d i.1)

      same : (d : ℕ) → (slot_of s₁ d).sequence ≡ (slot_of s d).sequence
      same d = go (ℕ_discrete d c)
        where
          go : Dec (d ≡ c) → (slot_of s₁ d).sequence ≡ (slot_of s d).sequence
          go (yes e) = subst (λ d. (slot_of s₁ d).sequence ≡ (slot_of s d).sequence) (sym e)
              (ap (λ x. x.sequence) (this_slot shapes F.within c is.1 p.slot) ∙ counted_sequence H g me s a initial j c k)
          go (no ne) = ap (λ x. x.sequence) (get_or-set_other s.slots c d p.slot no_slot ne)

      turn_block : {r : S.Effect} → Freed g 8 s₁ p.area r → (d : ℕ) → Among 8 d → Turn (message c q (block_is z o)) (S.behind p r) d
      turn_block {r} f d i = go (ℕ_discrete d c)
        where
          its : message c q (block_is z o) ≡ message c (slot_of s c).sequence (block_is z o)
          its = ap (λ q. message c q (block_is z o)) its_own

          go : Dec (d ≡ c) → Turn (message c q (block_is z o)) (S.behind p r) d
          go (yes e) = subst (λ y. Turn (message c q (block_is z o)) (S.behind p r) y) (sym e)
              (by_parts L F₁ f same p.decodes p.sends (message c q (block_is z o)) c is _ here
              (λ n v x. counts z o its not_again n v x)
              (λ w O d. accepts_one z o its not_again w O d))
          go (no ne) = by_parts L F₁ f same p.decodes p.sends (message c q (block_is z o)) d i _ (there d i ne)
              (λ n v x. stays n v x (λ n k y x. ne (sym (ap (λ m. m.client) x))))
              (λ w O d. accepts_other (λ n k y x. ne (sym (ap (λ m. m.client) x))) w O d)

    -- ---- a report

    turn_report : (T : ℕ) {r : S.Effect} → Freed g 8 (with_report s j T) a r → (d : ℕ) → Among 8 d → Turn (message c q (report T)) r d
    turn_report T {r} f d i = by_parts L (report_shape s a F j T) f (λ d. refl) r.decodes [] (message c q (report T)) d i _ refl
        (λ n v x. stays n v x (λ n z o e. impossible (cc (ap (λ m. m.body) e))))
        (λ w O d. accepts_other (λ n z o e. impossible (cc (ap (λ m. m.body) e))) w O d)

    -- ---- any frame

    -- nothing is done to slots and area
    idle : (m : Message) (r : S.Effect) → r.server.slots ≡ s.slots → r.area ≡ a → r.accepted ≡ [] → ((z : Stage) (o : Offer) → m.body ≡ block_is z o → ⊥)
        → (d : ℕ) → Turn m r d
    idle m r e f n x d = stays (ap (λ l. (get_or l d no_slot).sequence) e) (λ i. block_view g (f i) d (get_or (e i) d no_slot))
        (λ w u ew. Memᴰ.not-nil (subst (Memᴰ w) n u)) (λ q z o y. x z o (ap (λ m. m.body) y))

    pub turn_of : (b : Body) → SizedIn g b → ST.sender_right g from c b ≡ true → ST.order_test H g me s j c q b ≡ fine → (d : ℕ) → Among 8 d
        → Turn (message c q b) (S.on_body H g me s a initial j c q b) d
    unfolding S.on_body S.on_read S.on_read_complete S.settle
    turn_of get_stamp Q h t d i = idle _ _ refl refl refl (λ z o e. impossible (cc e)) d
    turn_of ack Q h t d i = idle _ _ refl refl refl (λ z o e. impossible (cc e)) d
    turn_of ask_read Q h t d i = idle _ _ refl refl refl (λ z o e. impossible (cc e)) d
    turn_of read_complete Q h t d i = idle _ _ refl refl refl (λ z o e. impossible (cc e)) d
    turn_of (stamp_is T) Q h t d i = idle _ _ refl refl refl (λ z o e. impossible (cc e)) d
    turn_of (block_is z o) Q h t d i = turn_block z o Q h t (freed g _ _ z) d i
    turn_of (value_is x e) Q h t d i = idle _ _ refl refl refl (λ z o e. impossible (cc e)) d
    turn_of (report T) Q h t d i = turn_report T (free g 8 (with_report s j T) a) d i

  pub turn : Bounded g → (initial : List ℕ) → ServerShape s a → (m : Message) → Among 8 m.client → SizedIn g m.body
      → ST.message_test H g me s from m ≡ fine → (d : ℕ) → Among 8 d → Turn m (S.effect H g me s a initial from m) d
  unfolding S.effect
  turn L initial F m is Q e d i =
      let (h, t) = test_split H g me s from m e in
      turn_of L initial F m.client m.sequence is m.body Q h t d i
