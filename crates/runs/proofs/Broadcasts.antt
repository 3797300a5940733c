-- The runs of the register keep the laws of a broadcast: each call is lawful by the facts of its step. That what honest parties send can be said in a
-- frame is a hypothesis here, proved in Formation. Assumes nothing else.
use Rattle.std.specs.Prelude.{Ok}
use Prim.Native.Nat.{ℕ, ◌-◌}
use native.Mathlib.Omega.{arith}
use mathlib.Core.Bool.{Bool, true, false, ◌&&◌}
use mathlib.Core.Path.{◌≡◌, refl, ap, sym, ◌∙◌, subst}
use mathlib.Core.Logic.{◌⊎◌, inl, inr, ⊎_elim}
use mathlib.Core.Option.{Option, some}
use mathlib.Core.List.Memᴰ
use mathlib.Core.List.{List, [], ◌∷◌, Memᴰ}
use lib.ListN.{length}
use lib.Dec.{leb}
use borrow.Author.Tests.{leb-true, le-leb}
use Rattle.quorum.specs.Quorum.{Among}
use Rattle.quorum.proofs.Logic.{impossible, and_split, and_true, and_false}
use Rattle.quorum.proofs.Quorums as B
use Rattle.broadcast.specs.Laws as BL
use Rattle.frame.specs.declared.Party.{Party}
use Rattle.frame.specs.declared.Party.TheVariants as A
use Rattle.frame.specs.Frames.{build, opened, message_in, header_for}
use Rattle.frame.specs.Messages.{Offer, Stage, send, echo, ready, Body, block_is, Message, message, Sending, sending, Formed}
use Rattle.frame.proofs.RoundTrip.{opened_build}
use Rattle.frame.proofs.Sizes.{Small}
use Rattle.server_rules.specs.Broadcast.{Rules, Part}
use Rattle.server_rules.specs.Rules.{block_rules}
use Rattle.server_rules.specs.State.{slot_of}
use Rattle.server_rules.specs.Steps as S
use Rattle.server_rules.proofs.Parts.{put_same, put_cases}
use Rattle.server_rules.proofs.Shapes.{offer_of}
use Rattle.server_rules.proofs.Thresholds.{agreed}
use Rattle.steps.proofs.PartFacts.{Heard}
use Rattle.steps.proofs.CastFacts.{part_at, BroadcastFacts, New, block_inj, cast_facts}
use Rattle.steps.proofs.ServerFits.{ServerShape, Delivered, refused, taken, delivered, shape_effect, shape_fresh}
use Rattle.server_rules.proofs.Taking.{Taken}
use Rattle.runs.specs.Admissible.{Sent, Honest, Proper, Admissible}
use Rattle.runs.specs.Events.{At, Accepts}
use Rattle.runs.specs.World.{Setup, Call, to_server, to_client, begin_read, begin_write, caller, ServerSide}
use Rattle.runs.specs.World.{initial_of, start, server_effect, server_left, step, run, sends, put}
use Rattle.runs.proofs.Assumed.{Assumed}

-- what servers agree on of a write: its time and its digest list
abbrev pub Agreed : Type 0
Agreed = ℕ × List ℕ

module _ (Z : Setup) (G : Assumed Z) (M : Small Z.g) where
  open Z use {H, g, initial_value, faulty_server, faulty_client, state_areas, initial_areas, rows_areas}

  abbrev pub server_at : List Call → ℕ → ServerSide
  server_at ks i = (run Z ks).servers i

  -- ---- what was said

  abbrev pub SentMessage : List Call → Party → Party → Message → Type 0
  SentMessage [] a b m = ⊥
  SentMessage (k ∷ ks) a b m = ((caller k ≡ a) × Memᴰ (sending b m) (sends Z (run Z ks) k)) ⊎ SentMessage ks a b m

  pub sent_message : (ks : List Call) (a b : Party) (f : List ℕ) → Sent Z ks a b f → (m : Message) × SentMessage ks a b m × (build m ≡ f)
  sent_message [] a b f u = absurd u
  sent_message (k ∷ ks) a b f (inr u) = let w = sent_message ks a b f u in (w.0, inr w.1, w.2)
  sent_message (k ∷ ks) a b f (inl u) =
      let e : u.1 ≡ sending b u.1.says = λ i. record { receiver = u.3 i; says = u.1.says } in
      (u.1.says, inl (u.0, subst (λ y. Memᴰ y (sends Z (run Z ks) k)) e u.2), u.4)

  -- ---- one call

  pub record Takes (ks : List Call) (k : Call) (j : ℕ) : Type 0 where
    pub from : Party
    pub f : List ℕ
    pub out : List ℕ
    pub to : List ℕ
    pub is : k ≡ to_server j from f out to
    pub m : Message
    pub took : Taken H g j (server_at ks j).server from f m
    pub moves : server_effect Z (run Z ks) j from f out to ≡ S.effect H g j (server_at ks j).server (server_at ks j).area (initial_of Z j) from m

  abbrev pub effect_of : {ks : List Call} {k : Call} {j : ℕ} → Takes ks k j → S.Effect
  effect_of {ks} {k} {j} C = S.effect H g j (server_at ks j).server (server_at ks j).area (initial_of Z j) C.from C.m

  abbrev Next : (ks : List Call) (k : Call) (j : ℕ) → Type 0
  Next ks k j = (server_at (k ∷ ks) j ≡ server_at ks j) ⊎ ((C : Takes ks k j) × (server_at (k ∷ ks) j ≡ server_left Z (effect_of C)))

  at_server : (ks : List Call) (i : ℕ) (from : Party) (f out to : List ℕ) (h : ServerSide) → h ≡ server_left Z (server_effect Z (run Z ks) i from f out to)
      → {r : S.Effect} → server_effect Z (run Z ks) i from f out to ≡ r
      → Delivered H g G.bounded.servers_high i (server_at ks i).server (server_at ks i).area (initial_of Z i) from f r
      → (h ≡ server_at ks i) ⊎ ((C : Takes ks (to_server i from f out to) i) × (h ≡ server_left Z (effect_of C)))
  at_server ks i from f out to h e q (refused z) = inl (e ∙ ap (server_left Z) (q ∙ z))
  at_server ks i from f out to h e q (taken m T z) =
      inr (record { from = from; f = f; out = out; to = to; is = refl; m = m; took = T; moves = q ∙ z }, e ∙ ap (server_left Z) (q ∙ z))

  pub server_next : (ks : List Call) (k : Call) (j : ℕ) → Next ks k j
  unfolding run step
  server_next ks (to_server i from f out to) j = ⊎_elim
      (λ w. subst (λ y. Next ks (to_server i from f out to) y) (sym w.0)
      (at_server ks i from f out to (server_at (to_server i from f out to ∷ ks) i) (ap (put (run Z ks).servers i _) (sym w.0) ∙ w.1) refl
      (delivered H g G.bounded.servers_high i (server_at ks i).server (server_at ks i).area (initial_of Z i) from f out to)))
      (λ w. inl w)
      (put_cases (run Z ks).servers i (server_left Z (server_effect Z (run Z ks) i from f out to)) j)
  server_next ks (to_client c from f lent result out to) j = inl refl
  server_next ks (begin_read c out to) j = inl refl
  server_next ks (begin_write c v out to) j = inl refl

  pub server_left_lem : (ks : List Call) (k : Call) (j : ℕ) (C : Takes ks k j) → server_at (k ∷ ks) j ≡ server_left Z (effect_of C)
  unfolding run step
  server_left_lem ks k j C =
      subst (λ y. server_at (y ∷ ks) j ≡ server_left Z (effect_of C)) (sym C.is) (put_same (run Z ks).servers j _ ∙ ap (server_left Z) C.moves)

  pub left_part : (ks : List Call) (k : Call) (j : ℕ) (C : Takes ks k j) (c : ℕ)
      → part_at g (server_at (k ∷ ks) j).server (server_at (k ∷ ks) j).area c ≡ part_at g (effect_of C).server (effect_of C).area c
  left_part ks k j C c = ap (λ h. part_at g h.server h.area c) (server_left_lem ks k j C)

  pub left_seq : (ks : List Call) (k : Call) (j : ℕ) (C : Takes ks k j) (c : ℕ)
      → (slot_of (server_at (k ∷ ks) j).server c).sequence ≡ (slot_of (effect_of C).server c).sequence
  left_seq ks k j C c = ap (λ h. (slot_of h.server c).sequence) (server_left_lem ks k j C)

  pub accepts_now : (ks : List Call) (k : Call) (j : ℕ) (C : Takes ks k j) (w : S.Write) → Memᴰ w (effect_of C).accepted
      → At (Accepts Z j w) (k ∷ ks) (length ks)
  accepts_now ks k j C w u = inl (refl, subst (λ y. Accepts Z j w ks y) (sym C.is) (refl, subst (λ r. Memᴰ w r.accepted) (sym C.moves) u))

  pub shape : (ks : List Call) (i : ℕ) → ServerShape (server_at ks i).server (server_at ks i).area
  unfolding run start
  shape [] i = shape_fresh H g G.bounded.servers_high i initial_value (state_areas i) (initial_areas i) (G.state_room i)
  shape (k ∷ ks) i = go (shape ks i) (server_next ks k i)
    where
      go : ServerShape (server_at ks i).server (server_at ks i).area → Next ks k i → ServerShape (server_at (k ∷ ks) i).server (server_at (k ∷ ks) i).area
      go F (inl e) = subst (λ h. ServerShape h.server h.area) (sym e) F
      go F (inr (C, e)) = subst (λ h. ServerShape h.server h.area) (sym e)
          (shape_effect H g G.bounded.servers_high i (server_at ks i).server (server_at ks i).area (initial_of Z i) F C.from C.f C.m C.took)

  sent_by_lem : (ks : List Call) (i : ℕ) (from : Party) (f out to : List ℕ) (x : Sending) {r : S.Effect} → server_effect Z (run Z ks) i from f out to ≡ r
      → Delivered H g G.bounded.servers_high i (server_at ks i).server (server_at ks i).area (initial_of Z i) from f r → Memᴰ x r.sends
      → (C : Takes ks (to_server i from f out to) i) × Memᴰ x (effect_of C).sends
  sent_by_lem ks i from f out to x q (refused z) u = absurd (Memᴰ.not-nil (subst (λ y. Memᴰ x y.sends) z u))
  sent_by_lem ks i from f out to x q (taken m T z) u =
      (record { from = from; f = f; out = out; to = to; is = refl; m = m; took = T; moves = q ∙ z }, subst (λ y. Memᴰ x y.sends) z u)

  took_by : (ks : List Call) (i : ℕ) (from : Party) (f out to : List ℕ) (x : S.Write) {r : S.Effect} → server_effect Z (run Z ks) i from f out to ≡ r
      → Delivered H g G.bounded.servers_high i (server_at ks i).server (server_at ks i).area (initial_of Z i) from f r → Memᴰ x r.accepted
      → (C : Takes ks (to_server i from f out to) i) × Memᴰ x (effect_of C).accepted
  took_by ks i from f out to x q (refused z) u = absurd (Memᴰ.not-nil (subst (λ y. Memᴰ x y.accepted) z u))
  took_by ks i from f out to x q (taken m T z) u =
      (record { from = from; f = f; out = out; to = to; is = refl; m = m; took = T; moves = q ∙ z }, subst (λ y. Memᴰ x y.accepted) z u)

  pub accepts_new : (ks : List Call) (k : Call) (j : ℕ) (x : S.Write) → Accepts Z j x ks k → (C : Takes ks k j) × Memᴰ x (effect_of C).accepted
  accepts_new ks (to_server i from f out to) j x u =
      subst (λ y. (C : Takes ks (to_server i from f out to) y) × Memᴰ x (effect_of C).accepted) (sym u.0)
      (took_by ks i from f out to x refl
      (delivered H g G.bounded.servers_high i (server_at ks i).server (server_at ks i).area (initial_of Z i) from f out to) u.1)
  accepts_new ks (to_client c from f lent result out to) j x u = absurd u
  accepts_new ks (begin_read c out to) j x u = absurd u
  accepts_new ks (begin_write c v out to) j x u = absurd u

  -- one call takes one message
  pub one_message : (ks : List Call) (k : Call) (j : ℕ) (C C' : Takes ks k j) → C.m ≡ C'.m
  one_message ks k j C C' =
      let f : C.f ≡ C'.f = cc (C.is, C'.is) in
      let h : C.took.header ≡ C'.took.header = cc (C.took.opens, C'.took.opens, f) in
      sym C.took.says ∙ (λ i. message_in g (h i) (f i)) ∙ C'.took.says

  pub sent_new : (ks : List Call) (k : Call) (j : ℕ) (b : Party) (m : Message) → SentMessage (k ∷ ks) (A.Server j) b m
      → SentMessage ks (A.Server j) b m ⊎ ((C : Takes ks k j) × Memᴰ (sending b m) (effect_of C).sends)
  unfolding sends
  sent_new ks k j b m (inr u) = inl u
  sent_new ks (to_server i from f out to) j b m (inl u) =
      let e : i ≡ j = cc u.0 in
      inr (subst (λ y. (C : Takes ks (to_server i from f out to) y) × Memᴰ (sending b m) (effect_of C).sends) e
      (sent_by_lem ks i from f out to (sending b m) refl
      (delivered H g G.bounded.servers_high i (server_at ks i).server (server_at ks i).area (initial_of Z i) from f out to) u.1))
  sent_new ks (to_client c from f lent result out to) j b m (inl u) = impossible (cc u.0)
  sent_new ks (begin_read c out to) j b m (inl u) = impossible (cc u.0)
  sent_new ks (begin_write c v out to) j b m (inl u) = impossible (cc u.0)

  -- ---- what an honest sender's frame rests on

  module _ (formed : (ks : List Call) → Admissible Z ks → (a b : Party) (m : Message) → Honest Z a → SentMessage ks a b m → Formed g m) where
    pub message_sent : {ks : List Call} {k : Call} {j : ℕ} → Admissible Z ks → Proper Z ks k → (C : Takes ks k j) → Honest Z C.from
        → SentMessage ks C.from (A.Server j) C.m
    message_sent {ks} {k} {j} adm p C h =
        let q : Proper Z ks (to_server j C.from C.f C.out C.to) = subst (Proper Z ks) C.is p in
        let w = sent_message ks C.from (A.Server j) C.f (q.2 C.took.header C.took.opens h) in
        let b = opened_build g G.bounded w.0 (formed ks adm C.from (A.Server j) w.0 h w.1) in
        let o : opened g C.f ≡ Ok (header_for w.0) = ap (opened g) (sym w.2) ∙ b.opens in
        let e : C.took.header ≡ header_for w.0 = cc (C.took.opens, o) in
        let same : w.0 ≡ C.m = sym b.says ∙ (λ i. message_in g (sym e i) (w.2 i)) ∙ C.took.says in
        subst (SentMessage ks C.from (A.Server j)) same w.1

    -- ---- a broadcast

    abbrev pub in_range : ℕ → Bool
    in_range c = leb 1 c && leb c 8

    in_range_lem : (c : ℕ) → in_range c ≡ true → Among 8 c
    in_range_lem c e = let w = and_split (leb 1 c) (leb c 8) e in (leb-true 1 c w.0, leb-true c 8 w.1)

    range_in : (c : ℕ) → Among 8 c → in_range c ≡ true
    range_in c i = rw (le-leb 1 c i.0, le-leb c 8 i.1)

    abbrev R : Rules Offer
    R = block_rules H g

    abbrev pub part : List Call → ℕ → ℕ → Part Offer
    part ks i c = part_at g (server_at ks i).server (server_at ks i).area c

    abbrev pub SaidBy : Stage → List Call → ℕ → ℕ → ℕ → Agreed → Type 0
    SaidBy z ks i c s d = (b : Party) × (o : Offer) × (agreed o ≡ d) × SentMessage ks (A.Server i) b (message c s (block_is z o))

    abbrev pub views : BL.Views Call Agreed
    views = record {
      sequence = λ ks i c. (slot_of (server_at ks i).server c).sequence;
      echoed = λ ks i c. in_range c && (part ks i c).sent;
      KeptEcho = λ ks i c j d. Among 8 c × (o : Offer) × (agreed o ≡ d) × ((part ks i c).echoes j ≡ some o);
      KeptReady = λ ks i c j d. Among 8 c × (o : Offer) × (agreed o ≡ d) × ((part ks i c).readies j ≡ some o);
      SentEcho = SaidBy echo;
      SentReady = SaidBy ready;
      Delivered = λ ks i c d. Among 8 c × (o : Offer) × (agreed o ≡ d) × ((part ks i c).done ≡ some o);
      Accepted = λ ks i c s d. (x : S.Write) × (n : ℕ) × At (Accepts Z i x) ks n × (x.client ≡ c) × (x.sequence ≡ s) × (agreed (offer_of x) ≡ d);
      ClientSent = λ ks c s d. (b : Party) × (o : Offer) × (agreed o ≡ d) × SentMessage ks (A.Client c) b (message c s (block_is send o));
    }

    module _ (ks : List Call) (k : Call) (adm : Admissible Z ks) (pr : Proper Z ks k) where
      F : (j : ℕ) (C : Takes ks k j) → BroadcastFacts H g (server_at ks j).server (server_at ks j).area C.from C.m (effect_of C)
      F j C = cast_facts H g G.bounded j (server_at ks j).server (server_at ks j).area (initial_of Z j) (shape ks j)
          C.from C.m C.took.client C.took.sized C.took.passes

      owner : (i c : ℕ) (C : Takes ks k i) (q : ℕ) (b : Body) → C.m ≡ message c q b → Among 8 c
      owner i c C q b e = subst (Among 8) (ap (λ m. m.client) e) C.took.client

      -- a frame of an honest server was sent by it
      this : (i : ℕ) (C : Takes ks k i) (c j : ℕ) (z : Stage) (o : Offer) (d : Agreed) → agreed o ≡ d → faulty_server j ≡ false → Among g.n j
          → New (server_at ks i).server C.from C.m c z j o
          → SaidBy z ks j c (slot_of (server_at ks i).server c).sequence d
      this i C c j z o d e ok is n = (
        A.Server i,
        o,
        e,
        subst (λ a. SentMessage ks a (A.Server i) (message c (slot_of (server_at ks i).server c).sequence (block_is z o))) n.0
            (subst (SentMessage ks C.from (A.Server i)) n.1 (message_sent adm pr C (subst (Honest Z) (sym n.0) (is, ok)))),
      )

      known : (i : ℕ) (C : Takes ks k i) (c : ℕ) → Among 8 c → (f : ℕ → Option Offer) (z : Stage) (d : Agreed) (m : ℕ)
          → B.AtLeast g.n m (Heard R g.n g.t agreed f (New (server_at ks i).server C.from C.m c z) d)
          → B.AtLeast g.n m (λ j. faulty_server j ≡ false
          → (Among 8 c × (o : Offer) × (agreed o ≡ d) × (f j ≡ some o)) ⊎ SaidBy z ks j c (slot_of (server_at ks i).server c).sequence d)
      known i C c ic f z d m = B.at_least_map (λ j is y ok. ⊎_elim (λ a. inl (ic, y.0, y.1, a)) (λ a. inr (this i C c j z y.0 d y.1 ok is a)) y.2)

      on_sent : (i c : ℕ) (u v : Bool) → (Among 8 c → u ≡ true → v ≡ true) → (in_range c && u) ≡ true → (in_range c && v) ≡ true
      on_sent i c u v f e = let w = and_split (in_range c) u e in rw w.0 (f (in_range_lem c w.0) w.1)

      lawful : BL.Lawful views g.n g.t R.few R.all faulty_server faulty_client ks k
      lawful = record {
        echo_stays = λ i c s d u. (u.0, u.1, u.2, inr u.3);
        ready_stays = λ i c s d u. (u.0, u.1, u.2, inr u.3);
        client_stays = λ c s d u. (u.0, u.1, u.2, inr u.3);
        onward = λ i c. ⊎_elim
            (λ e. inl (ap (λ h. (slot_of h.server c).sequence) e, λ u. ap (λ h. in_range c && (part_at g h.server h.area c).sent) e ∙ u))
            (λ N.
            let C = N.0 in
            ⊎_elim
            (λ w. inl (left_seq ks k i C c ∙ w.0, λ u. ap (λ y. in_range c && y.sent) (left_part ks k i C c) ∙ on_sent i c _ _ w.1 u))
            (λ w. inr (omega (arith, w, left_seq ks k i C c)))
            ((F i C).onward c))
            (server_next ks k i);
        echo_new = λ i c s d u. ⊎_elim
            (λ o. inl (u.0, u.1, u.2, o))
            (λ N.
            let C = N.0 in
            let w = (F i C).an_echo c u.0 s u.1 N.1 in
            let ic = owner i c C _ _ w.4 in
            inr (record {
              current = w.0;
              first = and_false (in_range c) _ w.1;
              then = ⊎_elim
                  (λ z. inl (left_seq ks k i C c ∙ z.0, ap (λ y. in_range c && y.sent) (left_part ks k i C c) ∙ and_true (in_range c) _ (range_in c ic) z.1))
                  (λ z. inr (omega (arith, z, left_seq ks k i C c))) w.2;
              sent = λ h.
                  let r : SentMessage ks (A.Client c) (A.Server i) (message c (slot_of (server_at ks i).server c).sequence (block_is send u.1)) =
                  subst (λ a. SentMessage ks a (A.Server i) _) w.3
                  (subst (SentMessage ks C.from (A.Server i)) w.4 (message_sent adm pr C (subst (Honest Z) (sym w.3) (ic, h)))) in
                  (A.Server i, u.1, u.2, rw w.0 r);
            }))
            (sent_new ks k i u.0 _ u.3);
        echo_one = λ i c s x y u v. ⊎_elim
            (λ o. inr (inl (u.0, u.1, u.2, o)))
            (λ N. ⊎_elim
            (λ o. inr (inr (v.0, v.1, v.2, o)))
            (λ N'.
            let e1 = ((F i N.0).an_echo c u.0 s u.1 N.1).4 in
            let e2 = ((F i N'.0).an_echo c v.0 s v.1 N'.1).4 in
            inl (sym u.2 ∙ ap agreed (block_inj send u.1 v.1 (ap (λ z. z.body) (sym e1 ∙ one_message ks k i N.0 N'.0 ∙ e2))) ∙ v.2))
            (sent_new ks k i v.0 _ v.3))
            (sent_new ks k i u.0 _ u.3);
        echo_kept = λ i c j d is ok u. ⊎_elim
            (λ e. (ap (λ h. (slot_of h.server c).sequence) e, inl (u.0, u.1, u.2, ap (λ h. (part_at g h.server h.area c).echoes j) (sym e) ∙ u.3)))
            (λ N.
            let C = N.0 in
            let w = (F i C).echo_kept c u.0 j u.1 (ap (λ y. y.echoes j) (sym (left_part ks k i C c)) ∙ u.3) in
            (left_seq ks k i C c ∙ w.0, ⊎_elim (λ a. inl (u.0, u.1, u.2, a)) (λ a. inr (this i C c j echo u.1 d u.2 ok is a)) w.1))
            (server_next ks k i);
        ready_kept = λ i c j d is ok u. ⊎_elim
            (λ e. (ap (λ h. (slot_of h.server c).sequence) e, inl (u.0, u.1, u.2, ap (λ h. (part_at g h.server h.area c).readies j) (sym e) ∙ u.3)))
            (λ N.
            let C = N.0 in
            let w = (F i C).ready_kept c u.0 j u.1 (ap (λ y. y.readies j) (sym (left_part ks k i C c)) ∙ u.3) in
            (left_seq ks k i C c ∙ w.0, ⊎_elim (λ a. inl (u.0, u.1, u.2, a)) (λ a. inr (this i C c j ready u.1 d u.2 ok is a)) w.1))
            (server_next ks k i);
        ready_new = λ i c s d u. ⊎_elim
            (λ o. inl (u.0, u.1, u.2, o))
            (λ N.
            let C = N.0 in
            let w = (F i C).a_ready c u.0 s u.1 N.1 in
            inr (
              w.1,
              rw (← u.2) (⊎_elim
                  (λ a. inl (known i C c w.0 (part ks i c).echoes echo (agreed u.1) (g.n - g.t) a))
                  (λ a. inr (known i C c w.0 (part ks i c).readies ready (agreed u.1) R.few a)) w.2),
            ))
            (sent_new ks k i u.0 _ u.3);
        accepted_new = λ i c s d u. ⊎_elim
            (λ N.
            let T = accepts_new ks k i u.0 N.1 in
            let C = T.0 in
            let w = (F i C).took_why u.0 T.1 in
            inr (rw (← u.3, ← u.4, ← u.5) (
              w.1,
              ⊎_elim
                  (λ a. inl (w.0, offer_of u.0, refl, a))
                  (λ a. inr (known i C u.0.client w.0 (part ks i u.0.client).readies ready (agreed (offer_of u.0)) R.all a)) w.2,
            )))
            (λ o. inl (u.0, u.1, o, u.3, u.4, u.5))
            u.2;
        delivered_new = λ i c d u. ⊎_elim
            (λ e. (ap (λ h. (slot_of h.server c).sequence) e, inl (u.0, u.1, u.2, ap (λ h. (part_at g h.server h.area c).done) (sym e) ∙ u.3)))
            (λ N.
            let C = N.0 in
            let w = (F i C).done_kept c u.0 u.1 (ap (λ y. y.done) (sym (left_part ks k i C c)) ∙ u.3) in (
              left_seq ks k i C c ∙ w.0,
              ⊎_elim
                  (λ a. inl (u.0, u.1, u.2, a))
                  (λ a. inr (rw (← u.2) (known i C c u.0 (part ks i c).readies ready (agreed u.1) R.all a))) w.1,
            ))
            (server_next ks k i);
      }

    pub lawful_run : (ks : List Call) → Admissible Z ks → BL.Run views g.n g.t R.few R.all faulty_server faulty_client ks
    lawful_run [] a = BL.fresh
    lawful_run (k ∷ ks) a = BL.call k (lawful ks k a.1 a.0) (lawful_run ks a.1)
