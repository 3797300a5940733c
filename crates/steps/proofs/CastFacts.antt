-- What one delivered frame does to a server's parts in the broadcasts of writes: the record BroadcastFacts, which is all that runs need of a step here.
-- Assumes nothing.
use Rattle.frame.specs.Refusals.{fine}
use Prim.Native.Nat.{ℕ, ◌+◌, ◌-◌, ◌<◌}
use native.Mathlib.Omega.{arith}
use native.Mathlib.Decide.{ℕ_discrete}
use mathlib.Core.Bool.{true, false}
use mathlib.Core.Path.{◌≡◌, refl, ap, sym, ◌∙◌, subst}
use mathlib.Core.Logic.{◌⊎◌, inl, inr, ⊎_elim}
use mathlib.Core.Option.{some}
use mathlib.Core.List.Memᴰ
use mathlib.Core.List.{List, [], ◌∷◌, Memᴰ}
use lib.ListN.{get_or}
use lib.Seq.{get_or-set_other}
use Rattle.quorum.specs.Quorum.{Among}
use Rattle.quorum.proofs.Logic.{impossible}
use Rattle.quorum.proofs.Quorums.{AtLeast}
use Rattle.blocks.specs.declared.Params.{Params}
use Rattle.frame.specs.declared.Party.{Party}
use Rattle.frame.specs.declared.Party.TheVariants as A
use Rattle.frame.specs.Messages.{Offer, Stage, send, echo, ready, Body, block_is, Message, message, sending, number_in}
use Rattle.frame.specs.Params.{Bounded}
use Rattle.frame.proofs.Sizes.{small}
use Rattle.frame.proofs.Verdicts.{fine_both}
use Rattle.server_rules.specs.declared.Server.{Server}
use Rattle.server_rules.specs.Broadcast.{Rules, Part}
use Rattle.server_rules.specs.Rules.{block_rules}
use Rattle.server_rules.specs.State.{fresh_slot, no_slot, slot_of, with_slot, with_report, block_view}
use Rattle.server_rules.specs.Steps as S
use Rattle.server_rules.specs.Tests as ST
use Rattle.server_rules.proofs.Parts.{no_part, Says}
use Rattle.server_rules.proofs.Views.{Shaped, shapes, fresh_block_view}
use Rattle.server_rules.proofs.Thresholds.{agreed, blocks_sane}
use Rattle.server_rules.proofs.Shapes.{offer_of, Freed, Counted, counted_sequence, Shape, idle, answers, notes, ends, settles, hears, shape_of}
use Rattle.server_rules.proofs.Passing.{SizedIn, block_sender, open_passed, test_split, counted_from, counted_open}
use Rattle.server_rules.proofs.Within.{slot_within, this_slot}
use Rattle.server_rules.proofs.Counting.{Hears, counted_others}
use Rattle.server_rules.proofs.Counting.{hears as hears-frame}
use Rattle.server_rules.proofs.Freeing.{freed_ripe, freed_slots, freed_blocks}
use Rattle.server_rules.proofs.Casts.{IsCast}
use Rattle.server_rules.proofs.Speaking.{freed_none}
use Rattle.steps.proofs.PartFacts.{Heard, PartFacts, rest_facts, Brings, count_facts}
use Rattle.steps.proofs.ServerFits.{ServerShape, counted_shape, report_shape}

-- client c's part
abbrev pub part_at : Params → Server → List ℕ → ℕ → Part Offer
part_at g s a c = block_view g a c (slot_of s c)

-- and after the count of p for client c: that of client d
abbrev pub part_of : Params → Server → ℕ → S.Counting → ℕ → Part Offer
part_of g s c p d = part_at g (with_slot s c p.slot) p.area d

-- a frame of client c's open write: of stage z with o, from server j
abbrev pub New : Server → Party → Message → ℕ → Stage → ℕ → Offer → Type 0
New s from m c z j o = (from ≡ A.Server j) × (m ≡ message c (slot_of s c).sequence (block_is z o))

-- and the client's own frame, with o
abbrev pub NewSend : Server → Party → Message → ℕ → Offer → Type 0
NewSend s from m c o = (from ≡ A.Client c) × (m ≡ message c (slot_of s c).sequence (block_is send o))

pub fresh_sequence : (q : ℕ) → (fresh_slot q).sequence ≡ q
unfolding fresh_slot
fresh_sequence q = refl

pub block_inj : (z : Stage) (o p : Offer) → block_is z o ≡ block_is z p → o ≡ p
block_inj z o p e = cc

module _ (H : List ℕ → List ℕ) (g : Params) where
  abbrev rules : Rules Offer
  rules = block_rules H g

  first : (me : ℕ) (s : Server) (a : List ℕ) (j c q : ℕ) (x : Offer) → ST.order_test H g me s j c q (block_is send x) ≡ fine → (part_at g s a c).sent ≡ false
  unfolding ST.order_test ST.counted block_view
  first me s a j c q x o = (open_passed (slot_of s c) q _ (fine_both _ _ o).0).1

  -- ---- what the run theory asks of a delivered frame

  pub record BroadcastFacts (s : Server) (a : List ℕ) (from : Party) (m : Message) (r : S.Effect) : Type 0 where
    pub an_echo : (c : ℕ) (b : Party) (q : ℕ) (o : Offer) → Memᴰ (sending b (message c q (block_is echo o))) r.sends
        → (q ≡ (slot_of s c).sequence) × ((part_at g s a c).sent ≡ false)
        × ((((slot_of r.server c).sequence ≡ (slot_of s c).sequence) × ((part_at g r.server r.area c).sent ≡ true))
        ⊎ ((slot_of s c).sequence < (slot_of r.server c).sequence))
        × (from ≡ A.Client c) × (m ≡ message c (slot_of s c).sequence (block_is send o))
    pub a_ready : (c : ℕ) (b : Party) (q : ℕ) (o : Offer) → Memᴰ (sending b (message c q (block_is ready o))) r.sends
        → Among 8 c × (q ≡ (slot_of s c).sequence)
        × (AtLeast g.n (g.n - g.t) (Heard rules g.n g.t agreed (part_at g s a c).echoes (New s from m c echo) (agreed o))
        ⊎ AtLeast g.n rules.few (Heard rules g.n g.t agreed (part_at g s a c).readies (New s from m c ready) (agreed o)))
    pub echo_kept : (c : ℕ) → Among 8 c → (j : ℕ) (o : Offer) → (part_at g r.server r.area c).echoes j ≡ some o
        → ((slot_of r.server c).sequence ≡ (slot_of s c).sequence) × (((part_at g s a c).echoes j ≡ some o) ⊎ New s from m c echo j o)
    pub ready_kept : (c : ℕ) → Among 8 c → (j : ℕ) (o : Offer) → (part_at g r.server r.area c).readies j ≡ some o
        → ((slot_of r.server c).sequence ≡ (slot_of s c).sequence) × (((part_at g s a c).readies j ≡ some o) ⊎ New s from m c ready j o)
    pub onward : (c : ℕ)
        → (((slot_of r.server c).sequence ≡ (slot_of s c).sequence) × (Among 8 c → (part_at g s a c).sent ≡ true
        → (part_at g r.server r.area c).sent ≡ true))
        ⊎ ((slot_of s c).sequence < (slot_of r.server c).sequence)
    pub done_kept : (c : ℕ) → Among 8 c → (o : Offer) → (part_at g r.server r.area c).done ≡ some o
        → ((slot_of r.server c).sequence ≡ (slot_of s c).sequence)
        × (((part_at g s a c).done ≡ some o) ⊎ AtLeast g.n rules.all
        (Heard rules g.n g.t agreed (part_at g s a c).readies (New s from m c ready) (agreed o)))
    pub took_why : (k : S.Write) → Memᴰ k r.accepted
        → Among 8 k.client × (k.sequence ≡ (slot_of s k.client).sequence)
        × (((part_at g s a k.client).done ≡ some (offer_of k))
        ⊎ AtLeast g.n rules.all (Heard rules g.n g.t agreed (part_at g s a k.client).readies (New s from m k.client ready)
        (agreed (offer_of k))))

  -- ---- counted, then accepted

  -- Client d's part is w d. It stays so, or its write is accepted.
  abbrev Stays : Server → (ℕ → Part Offer) → S.Effect → ℕ → Type 0
  Stays s w r d =
      (((slot_of r.server d).sequence ≡ (slot_of s d).sequence) × (Among 8 d → part_at g r.server r.area d ≡ w d))
      ⊎ (((slot_of r.server d).sequence ≡ (slot_of s d).sequence + 1) × (part_at g r.server r.area d ≡ no_part) × (k : S.Write)
      × Memᴰ k r.accepted × (k.client ≡ d))

  abbrev Took : Server → (ℕ → Part Offer) → S.Write → Type 0
  Took s w k = Among 8 k.client × (k.sequence ≡ (slot_of s k.client).sequence) × ((w k.client).done ≡ some (offer_of k))

  pub record SlotFacts (s : Server) (a : List ℕ) (w : ℕ → Part Offer) (Said : ℕ → Stage → Offer → Type 0) (r : S.Effect) : Type 0 where
    pub this : (d : ℕ) → Stays s w r d
    pub says : (b : Party) (d q : ℕ) (z : Stage) (o : Offer) → Memᴰ (sending b (message d q (block_is z o))) r.sends
        → Among 8 d × (q ≡ (slot_of s d).sequence) × Said d z o
    pub took : (k : S.Write) → Memᴰ k r.accepted → Took s w k

  -- a frame of client c's open write is counted, p, and then r is accepted: the parts in between and afterwards
  pub record Behind (s : Server) (a : List ℕ) (c : ℕ) (p : S.Counting) (r : S.Effect) : Type 0 where
    pub here : part_of g s c p c ≡ block_view g p.area c p.slot
    pub there : (d : ℕ) → Among 8 d → (d ≡ c → ⊥) → part_of g s c p d ≡ part_at g s a d
    pub stays : (d : ℕ) → Stays s (part_of g s c p) r d
    pub took : (k : S.Write) → Memᴰ k r.accepted → Took s (part_of g s c p) k

  module _ (s : Server) (a : List ℕ) (from : Party) (m : Message) where
    -- the part v of client d becomes w by this frame
    abbrev Becomes : ℕ → Part Offer → Part Offer → (Stage → Offer → Type 0) → Type 0
    Becomes d v w Said = PartFacts rules g.n g.t agreed v w (NewSend s from m d) (New s from m d echo) (New s from m d ready) Said

    facts_of : (w : ℕ → Part Offer) (Said : ℕ → Stage → Offer → Type 0) (r : S.Effect) → SlotFacts s a w Said r
        → ((d : ℕ) → Among 8 d → Becomes d (part_at g s a d) (w d) (Said d)) → BroadcastFacts s a from m r
    facts_of w Said r T F = record {
      an_echo = λ c b q p u.
          let (i, e, h) = T.says b c q echo p u in
          let f = (F c i).an_echo p h in
          (e, f.0, ⊎_elim (λ t. inl (t.0, ap (λ v. v.sent) (t.1 i) ∙ f.1)) (λ t. inr (omega (arith, t.0))) (T.this c), f.2.0, f.2.1);
      a_ready = λ c b q p u. let (i, e, h) = T.says b c q ready p u in (i, e, (F c i).a_ready p h);
      echo_kept = λ c i j p u. ⊎_elim
          (λ t. (t.0, (F c i).echo_kept j p (sym (ap (λ v. v.echoes j) (t.1 i)) ∙ u)))
          (λ t. impossible (cc (ap (λ v. v.echoes j) t.1, u)))
          (T.this c);
      ready_kept = λ c i j p u. ⊎_elim
          (λ t. (t.0, (F c i).ready_kept j p (sym (ap (λ v. v.readies j) (t.1 i)) ∙ u)))
          (λ t. impossible (cc (ap (λ v. v.readies j) t.1, u)))
          (T.this c);
      onward = λ c. ⊎_elim (λ t. inl (t.0, λ i u. ap (λ v. v.sent) (t.1 i) ∙ (F c i).onward u)) (λ t. inr (omega (arith, t.0))) (T.this c);
      done_kept = λ c i p u. ⊎_elim
          (λ t. (t.0, (F c i).done_why p (sym (ap (λ v. v.done) (t.1 i)) ∙ u)))
          (λ t. impossible (cc (ap (λ v. v.done) t.1, u)))
          (T.this c);
      took_why = λ k u. let (i, e, d) = T.took k u in (i, e, (F k.client i).done_why (offer_of k) d);
    }

    -- a call that leaves all slots and the area, and says nothing of a write
    idle_facts : (r : S.Effect) → r.server.slots ≡ s.slots → r.area ≡ a
        → ((b : Party) (c q : ℕ) (z : Stage) (o : Offer) → Memᴰ (sending b (message c q (block_is z o))) r.sends → ⊥) → r.accepted ≡ []
        → BroadcastFacts s a from m r
    idle_facts r e f no_says none = facts_of (λ d. part_at g s a d) (λ d z p. ⊥) r
        (record {
          this = λ d. inl (ap (λ l. (get_or l d no_slot).sequence) e, λ i j. block_view g (f j) d (get_or (e j) d no_slot));
          says = λ b d q z p u. absurd (no_says b d q z p u);
          took = λ k u. absurd (Memᴰ.not-nil (subst (Memᴰ k) none u));
        })
        (λ d i. rest_facts rules g.n g.t agreed _ _ _ _ _ (λ z p u. u))

  -- ---- what is accepted

  module _ (L : Bounded g) {s : Server} {a : List ℕ} {r : S.Effect} (f : Freed g 8 s a r) (F : ServerShape s a) where
    freed_stays : (d : ℕ) → Stays s (part_at g s a) r d
    freed_stays d = ⊎_elim
        (λ e. inl (
          ap (λ x. x.sequence) e,
          λ i. ap (block_view g r.area d) e ∙ freed_blocks (small g L) f F.room d i (slot_of s d) (slot_within shapes F.within d i.1),
        ))
        (λ (k, u, e, z). inr (
          ap (λ x. x.sequence) z ∙ fresh_sequence _,
          ap (block_view g r.area d) z ∙ fresh_block_view g r.area d _,
          k,
          u,
          e,
        ))
        (freed_slots (small g L) f F.within F.room d)

    freed_took : (k : S.Write) → Memᴰ k r.accepted → Took s (part_at g s a) k
    freed_took k u = let (i, R) = freed_ripe (small g L) f F.within F.room k u in (i, R.sequence, R.complete)

  -- a report: all parts stay, but for those accepted
  pub report_slots : Bounded g → (s : Server) (a : List ℕ) → ServerShape s a → (j T : ℕ) {r : S.Effect} → Freed g 8 (with_report s j T) a r
      → SlotFacts s a (part_at g s a) (λ d z o. ⊥) r
  report_slots L s a F j T f = record {
    this = freed_stays L f (report_shape s a F j T);
    says = λ b d q z o u. absurd (freed_none f _ u tt);
    took = freed_took L f (report_shape s a F j T);
  }

  -- ---- a step

  module _ (L : Bounded g) (me : ℕ) (s : Server) (a initial : List ℕ) (F : ServerShape s a) (from : Party) (c q : ℕ) (is : Among 8 c)
      (b : Body) (Q : SizedIn g b) (right : ST.sender_right g from c b ≡ true) (o : ST.order_test H g me s (number_in from) c q b ≡ fine) where
    abbrev j : ℕ
    j = number_in from

    abbrev m : Message
    m = message c q b

    X : Shaped (slot_of s c)
    X = slot_within shapes F.within c is.1

    -- the open write's own frame is new
    brings : (z : Stage) (x : Offer) → b ≡ block_is z x → q ≡ (slot_of s c).sequence
        → Brings rules g.n g.t agreed (blocks_sane H g) me (part_at g s a c) (NewSend s from m c) (New s from m c echo) (New s from m c ready) j x z
    brings send x e n = (
      first me s a j c q x (subst (λ b. ST.order_test H g me s j c q b ≡ fine) e o),
      (block_sender g from c send x (subst (λ b. ST.sender_right g from c b ≡ true) e right), λ i. message c (n i) (e i)),
    )
    brings echo x e n = ((block_sender g from c echo x (subst (λ b. ST.sender_right g from c b ≡ true) e right)).0, λ i. message c (n i) (e i))
    brings ready x e n = ((block_sender g from c ready x (subst (λ b. ST.sender_right g from c b ≡ true) e right)).0, λ i. message c (n i) (e i))

    module _ {p : S.Counting} (k : Counted H g me s a initial j c b p) {r : S.Effect} (f : Freed g 8 (with_slot s c p.slot) p.area r) where
      abbrev s₁ : Server
      s₁ = with_slot s c p.slot

      abbrev w : ℕ → Part Offer
      w = part_of g s c p

      at : Among 10 j
      at = counted_from g from c is L.servers_high k right

      shape : ServerShape s₁ p.area
      shape = counted_shape H g me s a initial F j at.0 c is.1 k

      slot_here : slot_of s₁ c ≡ p.slot
      slot_here = this_slot shapes F.within c is.1 p.slot

      slot_there : (d : ℕ) → (d ≡ c → ⊥) → slot_of s₁ d ≡ slot_of s d
      slot_there d ne = get_or-set_other s.slots c d p.slot no_slot ne

      same_sequence : (d : ℕ) → (slot_of s₁ d).sequence ≡ (slot_of s d).sequence
      same_sequence d = go (ℕ_discrete d c)
        where
          go : Dec (d ≡ c) → (slot_of s₁ d).sequence ≡ (slot_of s d).sequence
          go (yes e) = subst (λ d. (slot_of s₁ d).sequence ≡ (slot_of s d).sequence) (sym e)
              (ap (λ x. x.sequence) slot_here ∙ counted_sequence H g me s a initial j c k)
          go (no ne) = ap (λ x. x.sequence) (slot_there d ne)

      pub behind : Behind s a c p r
      behind = record {
        here = ap (block_view g p.area c) slot_here;
        there = λ d i ne. ap (block_view g p.area d) (slot_there d ne)
            ∙ counted_others H g L me s a initial F.room j at c is X k Q d i ne (slot_of s d) (slot_within shapes F.within d i.1);
        stays = λ d. ⊎_elim
            (λ (e, h). inl (e ∙ same_sequence d, h))
            (λ t. inr (t.0 ∙ ap (λ n. n + 1) (same_sequence d), t.1, t.2, t.3, t.4))
            (freed_stays L f shape d);
        took = λ k u. let (i, e, h) = freed_took L f shape k u in (i, e ∙ same_sequence k.client, h);
      }

      abbrev heard : Hears H g me j c (slot_of s c).sequence b p.sends (part_at g s a c) (block_view g p.area c p.slot)
      heard = hears-frame H g L me s a initial F.room j at c is X k Q

      abbrev Said : ℕ → Stage → Offer → Type 0
      Said d z y = (d ≡ c) × Says rules g.n g.t me (part_at g s a c) j heard.z heard.o z y

      slots : SlotFacts s a w Said (S.behind p r)
      slots = record {
        this = behind.stays;
        says = λ to d n z y u. ⊎_elim
            (λ v. let (e, m, h) = heard.says to d n z y v in (subst (Among 8) (sym e) is, m ∙ ap (λ y. (slot_of s y).sequence) (sym e), (e, h)))
            (λ v. absurd (freed_none f _ v tt))
            (Memᴰ.append_cases p.sends u);
        took = behind.took;
      }

      here : Becomes s a from m c (part_at g s a c) (w c) (Said c)
      here = subst (λ v. Becomes s a from m c (part_at g s a c) v (Said c)) (sym (behind.here ∙ heard.part))
          (count_facts rules g.n g.t agreed (blocks_sane H g) me (part_at g s a c) _ _ _ j heard.o heard.z
          (brings heard.z heard.o heard.is (counted_open k q o)) (Said c) (λ z y u. u.1))

      parts : (d : ℕ) → Among 8 d → Becomes s a from m d (part_at g s a d) (w d) (Said d)
      parts d i = go (ℕ_discrete d c)
        where
          go : Dec (d ≡ c) → Becomes s a from m d (part_at g s a d) (w d) (Said d)
          go (yes e) = subst (λ d. Becomes s a from m d (part_at g s a d) (w d) (Said d)) (sym e) here
          go (no ne) = subst (λ v. Becomes s a from m d (part_at g s a d) v (Said d)) (sym (behind.there d i ne))
              (rest_facts rules g.n g.t agreed _ _ _ _ (Said d) (λ z y u. ne u.0))

      settled : BroadcastFacts s a from m (S.behind p r)
      settled = facts_of s a from m w Said (S.behind p r) slots parts

  no_cast : (to b : Party) (c d n l : ℕ) (x : Body) (z : Stage) (y : Offer) → (IsCast x → ⊥)
      → Memᴰ (sending to (message d n (block_is z y))) (sending b (message c l x) ∷ []) → ⊥
  no_cast to b c d n l x z y f u = f (subst (λ y. IsCast y.says.body) (Memᴰ.eq_of_singleton u) tt)

  -- each frame that passes the tests
  pub cast_facts : Bounded g → (me : ℕ) (s : Server) (a initial : List ℕ) → ServerShape s a → (from : Party) (m : Message) → Among 8 m.client
      → SizedIn g m.body
      → ST.message_test H g me s from m ≡ fine → BroadcastFacts s a from m (S.effect H g me s a initial from m)
  cast_facts L me s a initial F from m is Q e = let (h, o) = test_split H g me s from m e in go (shape_of H g me s a initial from m) Q h o
    where
      go : {b : Body} {r : S.Effect} → Shape H g me s a initial (number_in from) m.client m.sequence b r → SizedIn g b
          → ST.sender_right g from m.client b ≡ true
          → ST.order_test H g me s (number_in from) m.client m.sequence b ≡ fine → BroadcastFacts s a from (message m.client m.sequence b) r
      go (idle b) Q h o = idle_facts s a from _ _ refl refl (λ to d n z y u. Memᴰ.not-nil u) refl
      go answers Q h o = idle_facts s a from _ _ refl refl (λ to d n z y u. no_cast to _ _ d n _ _ z y (λ v. v) u) refl
      go notes Q h o = idle_facts s a from _ _ refl refl (λ to d n z y u. no_cast to _ _ d n _ _ z y (λ v. v) u) refl
      go ends Q h o = idle_facts s a from _ _ refl refl (λ to d n z y u. Memᴰ.not-nil u) refl
      go (settles b p k f) Q h o = settled L me s a initial F from m.client m.sequence is b Q h o k f
      go (hears T f) Q h o = facts_of s a from _ (part_at g s a) (λ d z o. ⊥) _ (report_slots L s a F (number_in from) T f)
          (λ d i. rest_facts rules g.n g.t agreed _ _ _ _ _ (λ z p u. u))
