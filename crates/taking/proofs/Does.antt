-- What a frame that a server takes does, as runs need it: what it leaves of each client's part, what then has gone out, and what comes with an acceptance.
-- Assumes nothing.
use Rattle.frame.specs.Refusals.{fine}
use Prim.Native.Nat.{ℕ, ◌+◌, ◌<◌}
use native.Mathlib.Omega.{arith}
use mathlib.Core.Bool.{Bool, true, false}
use mathlib.Core.Path.{◌≡◌, refl, ap, sym, ◌∙◌, subst}
use mathlib.Core.Logic.{◌⊎◌, inl, inr, ⊎_elim}
use mathlib.Core.Option.{Option, some}
use mathlib.Core.List.Memᴰ
use mathlib.Core.List.{List, Memᴰ}
use Rattle.quorum.specs.Quorum.{Among}
use Rattle.quorum.proofs.Logic.{impossible}
use Rattle.blocks.specs.declared.Params.{Params}
use Rattle.frame.specs.declared.Party.{Party}
use Rattle.frame.specs.declared.Party.TheVariants as P
use Rattle.frame.proofs.Sizes.{small}
use Rattle.frame.specs.Stamps.{last_time}
use Rattle.frame.specs.Params.{Bounded}
use Rattle.frame.specs.Messages.{Offer, Stage, send, echo, ready, Body, block_is, Message, message, sending, number_in}
use Rattle.server_rules.specs.declared.Slot.{Slot}
use Rattle.server_rules.specs.declared.Server.{Server}
use Rattle.server_rules.specs.Broadcast.{Rules, Part, kept}
use Rattle.server_rules.specs.Rules.{block_rules}
use Rattle.server_rules.specs.State.{slot_of, block_view}
use Rattle.server_rules.specs.Steps as S
use Rattle.server_rules.specs.Tests as ST
use Rattle.server_rules.proofs.Parts.{put, no_part, counted, put_same, put_cases}
use Rattle.server_rules.proofs.Shapes.{offer_of, block, Shape, idle, answers, notes, ends, settles, hears, shape_of}
use Rattle.server_rules.proofs.Freeing.{freed_one}
use Rattle.server_rules.proofs.Passing.{SizedIn, test_split, counted_from}
use Rattle.server_rules.proofs.Accepting.{ack_of}
use Rattle.steps.proofs.CastFacts.{part_at, cast_facts}
use Rattle.steps.proofs.ServerFits.{ServerShape, counted_shape, report_shape}
use Rattle.taking.proofs.Quiet.{Calm, calm_empty, counted_calm}
use Rattle.taking.proofs.Turns.{Opens, Turn, stays, counts, accepts_one, accepts_other, turn}
use Rattle.taking.proofs.Words.{Encodes, counted_done, says_ready, says_echo, accepted_acked}

-- a frame of stage z from party j is counted in the part w
abbrev pub Got : Stage → Part Offer → ℕ → Type 0
Got send w j = w.sent ≡ true
Got echo w j = (o : Offer) × (w.echoes j ≡ some o)
Got ready w j = (o : Offer) × (w.readies j ≡ some o)

flagged : (b : Bool) (o : Offer) → b ≡ true → (p : Offer) × (kept b o ≡ some p)
flagged true o e = (o, refl)
flagged false o e = impossible (cc e)

-- the flag of the test says so
pub counted_got : (g : Params) (a : List ℕ) (c : ℕ) (x : Slot) (j : ℕ) (z : Stage) (o : Offer) → ST.counted x j (block_is z o) ≡ true
    → Got z (block_view g a c x) j
unfolding ST.counted block_view
counted_got g a c x j send o e = e
counted_got g a c x j echo o e = flagged _ _ e
counted_got g a c x j ready o e = flagged _ _ e

module _ (H : List ℕ → List ℕ) (g : Params) (L : Bounded g) (me : ℕ) (s : Server) (a initial : List ℕ) (F : ServerShape s a) (from : Party) (m : Message)
    (is : Among 8 m.client) (Q : SizedIn g m.body) (pass : ST.message_test H g me s from m ≡ fine) where
  abbrev R : Rules Offer
  R = block_rules H g

  abbrev j : ℕ
  j = number_in from

  abbrev r : S.Effect
  r = S.effect H g me s a initial from m

  abbrev before : ℕ → Part Offer
  before d = part_at g s a d

  abbrev after : ℕ → Part Offer
  after d = part_at g r.server r.area d

  abbrev seq : Server → ℕ → ℕ
  seq s d = (slot_of s d).sequence

  -- z of o goes to every server for client d's open write
  abbrev pub ToAll : ℕ → Stage → Offer → Type 0
  ToAll d z o = (i : ℕ) → Among g.n i → Memᴰ (sending (P.Server i) (message d (seq s d) (block_is z o))) r.sends

  its_turn : (d : ℕ) → Among 8 d → Turn H g me s a from m r d
  its_turn d i = turn H g me s a from L initial F m is Q pass d i

  -- ---- counted frames stay, and the one that is taken is counted

  still : (f : ℕ → Option Offer) (k : ℕ) (o : Offer) (i : ℕ) → ((p : Offer) × (f i ≡ some p)) → (p : Offer) × (put f k (some o) i ≡ some p)
  still f k o i u = ⊎_elim (λ (e, q). (o, q)) (λ q. (u.0, q ∙ u.1)) (put_cases f k (some o) i)

  counted_keeps : (v : Part Offer) (z k : Stage) (o : Offer) (i : ℕ) → Got z v i → Got z (counted R g.n g.t me v j k o) i
  counted_keeps v send send o i u = refl
  counted_keeps v send echo o i u = u
  counted_keeps v send ready o i u = u
  counted_keeps v echo send o i u = u
  counted_keeps v echo echo o i u = still v.echoes j o i u
  counted_keeps v echo ready o i u = u
  counted_keeps v ready send o i u = u
  counted_keeps v ready echo o i u = u
  counted_keeps v ready ready o i u = still v.readies j o i u

  counted_new : (v : Part Offer) (z : Stage) (o : Offer) → Got z (counted R g.n g.t me v j z o) j
  counted_new v send o = refl
  counted_new v echo o = (o, put_same v.echoes j (some o))
  counted_new v ready o = (o, put_same v.readies j (some o))

  pub keeps_got : (d : ℕ) → Among 8 d → (z : Stage) (i : ℕ) → seq r.server d ≡ seq s d → Got z (before d) i → Got z (after d) i
  keeps_got d id z i e u = go (its_turn d id)
    where
      go : Turn H g me s a from m r d → Got z (after d) i
      go (stays n v x y) = subst (λ w. Got z w i) (sym v) u
      go (counts k o x y n v t) = subst (λ w. Got z w i) (sym v) (counted_keeps (before d) z k o i u)
      go (accepts_one k o x y w O t) = absurd (omega (arith, O.next, e))
      go (accepts_other y w O t) = absurd (omega (arith, O.next, e))

  pub takes_got : (d n : ℕ) → Among 8 d → (z : Stage) (o : Offer) → m ≡ message d n (block_is z o)
      → (n ≡ seq s d) × ((seq r.server d ≡ seq s d + 1) ⊎ ((seq r.server d ≡ seq s d) × Got z (after d) j))
  takes_got d n id z o e = go (its_turn d id)
    where
      go : Turn H g me s a from m r d → (n ≡ seq s d) × ((seq r.server d ≡ seq s d + 1) ⊎ ((seq r.server d ≡ seq s d) × Got z (after d) j))
      go (stays q v x y) = absurd (y n z o e)
      go (counts k p x y q v t) =
          let same : message d n (block_is z o) ≡ message d (seq s d) (block_is k p) = sym e ∙ x in
          let ez : k ≡ z = cc (ap (λ m. m.body) same) in
          let new = subst (λ k. Got z (counted R g.n g.t me (before d) j k p) j) (sym ez) (counted_new (before d) z p) in
          (ap (λ m. m.sequence) same, inr (q, subst (λ w. Got z w j) (sym v) new))
      go (accepts_one k p x y w O t) = (ap (λ m. m.sequence) (sym e ∙ x), inl O.next)
      go (accepts_other y w O t) = absurd (y n z o e)

  -- ---- the open sequence

  pub rises : (d : ℕ) → Among 8 d → (seq r.server d ≡ seq s d)
      ⊎ ((seq r.server d ≡ seq s d + 1) × (w : S.Write) × Memᴰ w r.accepted × (w.client ≡ d) × (w.sequence ≡ seq s d))
  rises d id = go (its_turn d id)
    where
      go : Turn H g me s a from m r d → (seq r.server d ≡ seq s d)
          ⊎ ((seq r.server d ≡ seq s d + 1) × (w : S.Write) × Memᴰ w r.accepted × (w.client ≡ d) × (w.sequence ≡ seq s d))
      go (stays n v x y) = inl n
      go (counts k o x y n v t) = inl n
      go (accepts_one k o x y w O t) = inr (O.next, w, O.accepted, O.client, O.sequence)
      go (accepts_other y w O t) = inr (O.next, w, O.accepted, O.client, O.sequence)

  -- a sequence that rises is fresh
  pub risen_empty : (d : ℕ) → Among 8 d → seq r.server d ≡ seq s d + 1 → after d ≡ no_part
  risen_empty d id e = go (its_turn d id)
    where
      go : Turn H g me s a from m r d → after d ≡ no_part
      go (stays n v x y) = absurd (omega (arith, n, e))
      go (counts k o x y n v t) = absurd (omega (arith, n, e))
      go (accepts_one k o x y w O t) = O.empty
      go (accepts_other y w O t) = O.empty

  -- ---- nothing is left due

  pub calm_turn : (d : ℕ) → Among 8 d → Calm H g (before d) → Calm H g (after d)
  calm_turn d id C = go (its_turn d id)
    where
      go : Turn H g me s a from m r d → Calm H g (after d)
      go (stays n v x y) = subst (Calm H g) (sym v) C
      go (counts k o x y n v t) = subst (Calm H g) (sym v) (counted_calm H g me (before d) j k o y C)
      go (accepts_one k o x y w O t) = subst (Calm H g) (sym O.empty) (calm_empty H g L)
      go (accepts_other y w O t) = subst (Calm H g) (sym O.empty) (calm_empty H g L)

  -- ---- what has gone out

  -- p.sends goes out with the step
  behind_all : (d : ℕ) (k : Stage) (o : Offer) → m ≡ message d (seq s d) (block_is k o) → (z : Stage) (y : Offer)
      → ((i : ℕ) → Among g.n i → Memᴰ (sending (P.Server i) (message d (seq s d) (block_is z y))) (S.on_block H g me a d (slot_of s d) j k o).sends)
      → ToAll d z y
  unfolding S.effect S.on_body S.settle
  behind_all d k o e z y f i ii =
      subst (λ m. Memᴰ (sending (P.Server i) (message d (seq s d) (block_is z y))) (S.effect H g me s a initial from m).sends) (sym e)
      (Memᴰ.append_left _ (f i ii))

  module _ (d : ℕ) (id : Among 8 d) (k : Stage) (o : Offer) (x : m ≡ message d (seq s d) (block_is k o)) where
    number : Among 10 j
    number =
        let h = subst (λ m. ST.sender_right g from m.client m.body ≡ true) x (test_split H g me s from m pass).0 in
        counted_from g from d id L.servers_high {H = H} {me = me} {s = s} {a = a} {initial = initial} (block k o) h

    counted_says : (counted R g.n g.t me (before d) j k o).ready ≡ true → ((before d).ready ≡ true) ⊎ ((y : Offer) × ToAll d ready y)
    counted_says e = ⊎_elim
        (λ h. inl h)
        (λ (y, f). inr (y, behind_all d k o x ready y f))
        (says_ready H g L me s a initial F j number d id k o (subst (λ m. SizedIn g m.body) x Q) e)

    counted_echoes : (counted R g.n g.t me (before d) j k o).sent ≡ true → ((before d).sent ≡ true) ⊎ ((y : Offer) × ToAll d echo y)
    counted_echoes e = ⊎_elim
        (λ h. inl h)
        (λ (z, f). inr (o, behind_all d k o x echo o f))
        (says_echo H g L me s a initial F j number d id k o e)

  -- where a part is marked as ready, a ready had gone out or goes to all; where it is marked as sent, an echo
  pub ready_why : (d : ℕ) → Among 8 d → seq r.server d ≡ seq s d → (after d).ready ≡ true → ((before d).ready ≡ true) ⊎ ((y : Offer) × ToAll d ready y)
  ready_why d id e u = go (its_turn d id)
    where
      go : Turn H g me s a from m r d → ((before d).ready ≡ true) ⊎ ((y : Offer) × ToAll d ready y)
      go (stays n v x y) = inl (sym (ap (λ w. w.ready) v) ∙ u)
      go (counts k o x y n v t) = counted_says d id k o x (sym (ap (λ w. w.ready) v) ∙ u)
      go (accepts_one k o x y w O t) = absurd (omega (arith, O.next, e))
      go (accepts_other y w O t) = absurd (omega (arith, O.next, e))

  pub echo_why : (d : ℕ) → Among 8 d → seq r.server d ≡ seq s d → (after d).sent ≡ true → ((before d).sent ≡ true) ⊎ ((y : Offer) × ToAll d echo y)
  echo_why d id e u = go (its_turn d id)
    where
      go : Turn H g me s a from m r d → ((before d).sent ≡ true) ⊎ ((y : Offer) × ToAll d echo y)
      go (stays n v x y) = inl (sym (ap (λ w. w.sent) v) ∙ u)
      go (counts k o x y n v t) = counted_echoes d id k o x (sym (ap (λ w. w.sent) v) ∙ u)
      go (accepts_one k o x y w O t) = absurd (omega (arith, O.next, e))
      go (accepts_other y w O t) = absurd (omega (arith, O.next, e))

  -- what is complete was so, or is the server's own entry of a value
  pub done_why : (d : ℕ) → Among 8 d → (y : Offer) → (after d).done ≡ some y
      → ((seq r.server d ≡ seq s d) × ((before d).done ≡ some y)) ⊎ Encodes H g me y.entry
  done_why d id y u = go (its_turn d id)
    where
      go : Turn H g me s a from m r d → ((seq r.server d ≡ seq s d) × ((before d).done ≡ some y)) ⊎ Encodes H g me y.entry
      go (stays n v x z) = inl (n, sym (ap (λ w. w.done) v) ∙ u)
      go (counts k o x z n v t) = ⊎_elim (λ h. inl (n, h)) (λ h. inr h) (counted_done H g me (before d) j k o y (sym (ap (λ w. w.done) v) ∙ u))
      go (accepts_one k o x z w O t) = impossible (cc (ap (λ w. w.done) O.empty, u))
      go (accepts_other z w O t) = impossible (cc (ap (λ w. w.done) O.empty, u))

  -- ---- an acceptance

  pub record Acceptance (w : S.Write) : Type 0 where
    pub client : Among 8 w.client
    pub sequence : w.sequence ≡ seq s w.client
    pub next : seq r.server w.client ≡ seq s w.client + 1
    pub below : w.time < last_time
    -- its ready had gone out or goes to all, and its ack goes to the client
    pub ready_out : ((before w.client).ready ≡ true) ⊎ ((y : Offer) × ToAll w.client ready y)
    pub acked : Memᴰ (ack_of w) r.sends
    -- its entry was complete before, or is the server's own of a value
    pub entry : ((before w.client).done ≡ some (offer_of w)) ⊎ Encodes H g me w.entry

  pub accepted_client : (w : S.Write) → Memᴰ w r.accepted → Among 8 w.client
  accepted_client w u = ((cast_facts H g L me s a initial F from m is Q pass).took_why w u).0

  -- of a client at most one is accepted
  accepted_one : (w x : S.Write) → Memᴰ w r.accepted → Memᴰ x r.accepted → w.client ≡ x.client → w ≡ x
  accepted_one w x = go (shape_of H g me s a initial from m) (test_split H g me s from m pass).0
    where
      go : {b : Body} {f : S.Effect} → Shape H g me s a initial j m.client m.sequence b f → ST.sender_right g from m.client b ≡ true
          → Memᴰ w f.accepted → Memᴰ x f.accepted → w.client ≡ x.client → w ≡ x
      go (idle b) h u v e = absurd (Memᴰ.not-nil u)
      go answers h u v e = absurd (Memᴰ.not-nil u)
      go notes h u v e = absurd (Memᴰ.not-nil u)
      go ends h u v e = absurd (Memᴰ.not-nil u)
      go (settles b p k f) h u v e =
          let X = counted_shape H g me s a initial F j (counted_from g from m.client is L.servers_high k h).0 m.client is.1 k in
          freed_one (small g L) f X.within X.room w x u v e
      go (hears T f) h u v e = let X = report_shape s a F j T in freed_one (small g L) f X.within X.room w x u v e

  pub acceptance : (w : S.Write) → Memᴰ w r.accepted → Calm H g (before w.client) → Acceptance w
  acceptance w u C = go (its_turn w.client id)
    where
      id : Among 8 w.client
      id = accepted_client w u

      same : (w' : S.Write) → Opens H g me s a from r w.client w' → w' ≡ w
      same w' O = accepted_one w' w O.accepted u O.client

      go : Turn H g me s a from m r w.client → Acceptance w
      go (stays n v x y) = absurd (x w u refl)
      go (counts k o x y n v t) = absurd (t w u refl)
      go (accepts_one k o x y w' O t) =
          let e = same w' O in
          let t' : (counted R g.n g.t me (before w.client) j k o).done ≡ some (offer_of w) = t ∙ ap (λ w. some (offer_of w)) e in
          record {
            client = id;
            sequence = ap (λ w. w.sequence) (sym e) ∙ O.sequence;
            next = O.next;
            below = subst (λ w. w.time < last_time) e O.below;
            ready_out = counted_says w.client id k o x ((counted_calm H g me (before w.client) j k o y C).done_ready (offer_of w) t');
            acked = accepted_acked H g me s a initial from m w u;
            entry = counted_done H g me (before w.client) j k o (offer_of w) t';
          }
      go (accepts_other y w' O t) =
          let e = same w' O in
          let t' : (before w.client).done ≡ some (offer_of w) = t ∙ ap (λ w. some (offer_of w)) e in
          record {
            client = id;
            sequence = ap (λ w. w.sequence) (sym e) ∙ O.sequence;
            next = O.next;
            below = subst (λ w. w.time < last_time) e O.below;
            ready_out = inl (C.done_ready (offer_of w) t');
            acked = accepted_acked H g me s a initial from m w u;
            entry = inl t';
          }
