-- An honest server after any calls: nothing is left due, what its flags say has gone out to all, and each sequence that it has passed was accepted,
-- with a ready and an ack. Assumes nothing.
use Prim.Native.Nat.{ℕ, suc, ◌+◌, ◌≤◌, ◌<◌}
use native.Mathlib.Omega.{arith}
use native.Mathlib.Decide.{ℕ_discrete}
use mathlib.Core.Bool.{true}
use mathlib.Core.Path.{◌≡◌, refl, ap, sym, ◌∙◌, subst}
use mathlib.Core.Logic.{◌⊎◌, inl, inr, ⊎_elim}
use mathlib.Core.List.{List, [], ◌∷◌, Memᴰ}
use lib.ListN.{length}
use Rattle.quorum.specs.Quorum.{Among}
use Rattle.quorum.proofs.Logic.{impossible}
use Rattle.frame.specs.declared.Party.{Party}
use Rattle.frame.specs.declared.Party.TheVariants as A
use Rattle.frame.specs.Messages.{Offer, Stage, echo, ready, ack, block_is, Message, message, sending}
use Rattle.frame.specs.Stamps.{last_time}
use Rattle.frame.proofs.Sizes.{Small}
use Rattle.server_rules.specs.declared.Server.{Server}
use Rattle.server_rules.specs.Broadcast.{Part}
use Rattle.server_rules.specs.State.{slot_of, fresh_slot, block_view}
use Rattle.server_rules.specs.Steps as S
use Rattle.server_rules.proofs.Parts.{no_part}
use Rattle.server_rules.proofs.Views.{fresh_block_view}
use Rattle.steps.proofs.CastFacts.{part_at}
use Rattle.runs.specs.Events.{At, Accepts}
use Rattle.runs.specs.World.{Setup, Call, caller, initial_of, sends, run}
use Rattle.runs.proofs.Agreement.{small, start_slot}
use Rattle.runs.proofs.Assumed.{Assumed}
use Rattle.runs.proofs.Broadcasts.{server_at, Takes, effect_of, server_next, left_part, left_seq, accepts_now, accepts_new, shape}
use Rattle.runs.proofs.Places.{at_low}
use Rattle.taking.proofs.Quiet.{Calm, calm_empty}
use Rattle.taking.proofs.Ripeness.{Ripeless, ripeless, fresh_ripe}
use Rattle.taking.proofs.Does as D
use Rattle.served.proofs.ClientState.{SentBy}

module _ (Z : Setup) (G : Assumed Z) where
  open Z use {H, g}

  abbrev M : Small g
  M = small Z G

  abbrev pub seq : List Call → ℕ → ℕ → ℕ
  seq ks j c = (slot_of (server_at Z G M ks j).server c).sequence

  abbrev pub part : List Call → ℕ → ℕ → Part Offer
  part ks j c = part_at g (server_at Z G M ks j).server (server_at Z G M ks j).area c

  abbrev pub Still : Part Offer → Type 0
  Still w = Calm H g w

  -- server j has sent z of some offer to every server, for client c's write s
  abbrev pub ToAllSent : List Call → ℕ → ℕ → ℕ → Stage → Type 0
  ToAllSent ks j c s z = (o : Offer) × ((i : ℕ) → Among g.n i → SentBy Z G ks (A.Server j) (A.Server i) (message c s (block_is z o)))

  -- it accepted it, had sent a ready to all, and has sent the ack
  pub record Passed (ks : List Call) (j c s : ℕ) : Type 0 where
    pub x : S.Write
    pub p : ℕ
    pub accepted : At (Accepts Z j x) ks p
    pub client : x.client ≡ c
    pub sequence : x.sequence ≡ s
    pub acked : SentBy Z G ks (A.Server j) (A.Client c) (message c s ack)
    pub readied : ToAllSent ks j c s ready

  pub record ServerStands (ks : List Call) (j c : ℕ) : Type 0 where
    pub still : Still (part ks j c)
    pub begun : 1 ≤ seq ks j c
    pub echoed : (part ks j c).sent ≡ true → ToAllSent ks j c (seq ks j c) echo
    pub readied : (part ks j c).ready ≡ true → ToAllSent ks j c (seq ks j c) ready
    pub passed : (s : ℕ) → 1 ≤ s → s < seq ks j c → Passed ks j c s

  -- ---- one call more

  all_later : (ks : List Call) (k : Call) (j c s : ℕ) (z : Stage) → ToAllSent ks j c s z → ToAllSent (k ∷ ks) j c s z
  all_later ks k j c s z (o, f) = (o, λ i is. inr (f i is))

  passed_later : (ks : List Call) (k : Call) (j c s : ℕ) → Passed ks j c s → Passed (k ∷ ks) j c s
  passed_later ks k j c s P = record {
    x = P.x;
    p = P.p;
    accepted = inr P.accepted;
    client = P.client;
    sequence = P.sequence;
    acked = inr P.acked;
    readied = all_later ks k j c s ready P.readied;
  }

  -- the server stays as it is
  same : (ks : List Call) (k : Call) (j c : ℕ) → server_at Z G M (k ∷ ks) j ≡ server_at Z G M ks j → ServerStands ks j c → ServerStands (k ∷ ks) j c
  same ks k j c e S =
      let ep : part (k ∷ ks) j c ≡ part ks j c = ap (λ h. part_at g h.server h.area c) e in
      let es : seq (k ∷ ks) j c ≡ seq ks j c = ap (λ h. (slot_of h.server c).sequence) e in
      record {
        still = subst Still (sym ep) S.still;
        begun = omega (arith, S.begun, es);
        echoed = λ u. subst (λ s. ToAllSent (k ∷ ks) j c s echo) (sym es) (all_later ks k j c _ echo (S.echoed (sym (ap (λ w. w.sent) ep) ∙ u)));
        readied = λ u. subst (λ s. ToAllSent (k ∷ ks) j c s ready) (sym es) (all_later ks k j c _ ready (S.readied (sym (ap (λ w. w.ready) ep) ∙ u)));
        passed = λ s l h. passed_later ks k j c s (S.passed s l (omega (arith, h, es)));
      }

  module _ (ks : List Call) (k : Call) (j : ℕ) (C : Takes Z G M ks k j) where
    abbrev sv : Server
    sv = (server_at Z G M ks j).server

    abbrev ar : List ℕ
    ar = (server_at Z G M ks j).area

    -- what goes out in this step
    pub sent_now : (b : Party) (m : Message) → Memᴰ (sending b m) (effect_of Z G M C).sends → SentBy Z G (k ∷ ks) (A.Server j) b m
    unfolding sends
    sent_now b m u = inl (
      subst (λ k. caller k ≡ A.Server j) (sym C.is) refl,
      subst (λ k. Memᴰ (sending b m) (sends Z (run Z ks) k)) (sym C.is) (subst (λ r. Memᴰ (sending b m) r.sends) (sym C.moves) u),
    )

    abbrev quiet : (c : ℕ) → Among 8 c → Still (part ks j c) → Still (part_at g (effect_of Z G M C).server (effect_of Z G M C).area c)
    quiet = D.calm_turn H g G.bounded j sv ar (initial_of Z j) (shape Z G M ks j) C.from C.m C.took.client C.took.sized C.took.passes

    pub acceptance : (w : S.Write) → Memᴰ w (effect_of Z G M C).accepted → Still (part ks j w.client)
        → D.Acceptance H g G.bounded j sv ar (initial_of Z j) (shape Z G M ks j) C.from C.m C.took.client C.took.sized C.took.passes w
    acceptance = D.acceptance H g G.bounded j sv ar (initial_of Z j) (shape Z G M ks j) C.from C.m C.took.client C.took.sized C.took.passes

    pub rises : (c : ℕ) → Among 8 c → (seq (k ∷ ks) j c ≡ seq ks j c)
        ⊎ ((seq (k ∷ ks) j c ≡ seq ks j c + 1) × (w : S.Write) × Memᴰ w (effect_of Z G M C).accepted × (w.client ≡ c) × (w.sequence ≡ seq ks j c))
    rises c i = ⊎_elim (λ e. inl (left_seq Z G M ks k j C c ∙ e)) (λ w. inr (left_seq Z G M ks k j C c ∙ w.0, w.1, w.2, w.3, w.4))
        (D.rises H g G.bounded j sv ar (initial_of Z j) (shape Z G M ks j) C.from C.m C.took.client C.took.sized C.took.passes c i)

    -- the write that client c's sequence passes
    now_passed : (c : ℕ) → Among 8 c → ServerStands ks j c → (w : S.Write) → Memᴰ w (effect_of Z G M C).accepted → w.client ≡ c → w.sequence ≡ seq ks j c
        → Passed (k ∷ ks) j c (seq ks j c)
    now_passed c i T w u ec eq =
        let E = acceptance w u (subst (λ c. Still (part ks j c)) (sym ec) T.still) in
        record {
          x = w;
          p = length ks;
          accepted = accepts_now Z G M ks k j C w u;
          client = ec;
          sequence = eq;
          acked = sent_now _ _ (subst (λ n. Memᴰ (sending (A.Client c) (message c n ack)) (effect_of Z G M C).sends) eq
              (subst (λ c. Memᴰ (sending (A.Client c) (message c w.sequence ack)) (effect_of Z G M C).sends) ec E.acked));
          readied = ⊎_elim
              (λ h. all_later ks k j c (seq ks j c) ready (T.readied (ap (λ c. (part ks j c).ready) (sym ec) ∙ h)))
              (λ (y, f). (
                y,
                λ i is. sent_now _ _
                    (subst (λ c. Memᴰ (sending (A.Server i) (message c (seq ks j c) (block_is ready y))) (effect_of Z G M C).sends) ec (f i is)),
              ))
              E.ready_out;
        }

    step : (c : ℕ) → Among 8 c → ServerStands ks j c → ServerStands (k ∷ ks) j c
    step c i T = ⊎_elim stayed risen (rises c i)
      where
        still : Still (part (k ∷ ks) j c)
        still = subst Still (sym (left_part Z G M ks k j C c)) (quiet c i T.still)

        stayed : seq (k ∷ ks) j c ≡ seq ks j c → ServerStands (k ∷ ks) j c
        stayed e = record {
          still = still;
          begun = omega (arith, T.begun, e);
          echoed = λ u. subst (λ s. ToAllSent (k ∷ ks) j c s echo) (sym e) (⊎_elim
              (λ h. all_later ks k j c _ echo (T.echoed h))
              (λ (y, f). (y, λ i is. sent_now _ _ (f i is)))
              (D.echo_why H g G.bounded j sv ar (initial_of Z j) (shape Z G M ks j) C.from C.m C.took.client C.took.sized C.took.passes c i
              (sym (left_seq Z G M ks k j C c) ∙ e) (sym (ap (λ w. w.sent) (left_part Z G M ks k j C c)) ∙ u)));
          readied = λ u. subst (λ s. ToAllSent (k ∷ ks) j c s ready) (sym e) (⊎_elim
              (λ h. all_later ks k j c _ ready (T.readied h))
              (λ (y, f). (y, λ i is. sent_now _ _ (f i is)))
              (D.ready_why H g G.bounded j sv ar (initial_of Z j) (shape Z G M ks j) C.from C.m C.took.client C.took.sized C.took.passes c i
              (sym (left_seq Z G M ks k j C c) ∙ e) (sym (ap (λ w. w.ready) (left_part Z G M ks k j C c)) ∙ u)));
          passed = λ s l h. passed_later ks k j c s (T.passed s l (omega (arith, h, e)));
        }

        -- a fresh slot shows no flag
        risen : (seq (k ∷ ks) j c ≡ seq ks j c + 1) × (w : S.Write) × Memᴰ w (effect_of Z G M C).accepted × (w.client ≡ c) × (w.sequence ≡ seq ks j c)
            → ServerStands (k ∷ ks) j c
        risen (e, w, u, ec, eq) =
            let n : part (k ∷ ks) j c ≡ no_part = left_part Z G M ks k j C c
            ∙ D.risen_empty H g G.bounded j sv ar (initial_of Z j) (shape Z G M ks j) C.from C.m C.took.client C.took.sized
            C.took.passes c i (sym (left_seq Z G M ks k j C c) ∙ e) in
            record {
              still = still;
              begun = omega (arith, e);
              echoed = λ u. impossible (cc (ap (λ w. w.sent) n, u));
              readied = λ u. impossible (cc (ap (λ w. w.ready) n, u));
              passed = λ s l h. by s l (omega (arith, h, e)) (ℕ_discrete s (seq ks j c));
            }
          where
            by : (s : ℕ) → 1 ≤ s → s < seq ks j c + 1 → Dec (s ≡ seq ks j c) → Passed (k ∷ ks) j c s
            by s l h (yes z) = subst (Passed (k ∷ ks) j c) (sym z) (now_passed c i T w u ec eq)
            by s l h (no z) = passed_later ks k j c s (T.passed s l (omega (arith, h, z)))

  start_stands : (j c : ℕ) → Among 8 c → ServerStands [] j c
  unfolding fresh_slot
  start_stands j c i =
      let e = start_slot Z G j c i in
      let p : part [] j c ≡ no_part = ap (block_view g (server_at Z G M [] j).area c) e ∙ fresh_block_view g (server_at Z G M [] j).area c 1 in
      let n : seq [] j c ≡ 1 = ap (λ x. x.sequence) e in
      record {
        still = subst Still (sym p) (calm_empty H g G.bounded);
        begun = omega (arith, n);
        echoed = λ u. impossible (cc (ap (λ w. w.sent) p, u));
        readied = λ u. impossible (cc (ap (λ w. w.ready) p, u));
        passed = λ s l h. absurd (omega (arith, l, h, n));
      }

  pub server_stands : (ks : List Call) (j c : ℕ) → Among 8 c → ServerStands ks j c
  server_stands [] j c i = start_stands j c i
  server_stands (k ∷ ks) j c i = ⊎_elim
      (λ e. same ks k j c e (server_stands ks j c i))
      (λ N. step ks k j N.0 c i (server_stands ks j c i))
      (server_next Z G M ks k j)

  -- ---- sequences

  pub seq_up : (ks : List Call) (k : Call) (j c : ℕ) → Among 8 c → seq ks j c ≤ seq (k ∷ ks) j c
  seq_up ks k j c i = ⊎_elim
      (λ e. let q = ap (λ h. (slot_of h.server c).sequence) e in omega (arith, q))
      (λ N. ⊎_elim (λ e. omega (arith, e)) (λ w. omega (arith, w.0)) (rises ks k j N.0 c i))
      (server_next Z G M ks k j)

  -- what was accepted is of a client, has a time below the last, and is passed
  pub record Closed (ks : List Call) (j : ℕ) (x : S.Write) : Type 0 where
    pub client : Among 8 x.client
    pub passed : x.sequence < seq ks j x.client
    pub below : x.time < last_time

  accepted_here : (ks : List Call) (k : Call) (j : ℕ) (x : S.Write) → Accepts Z j x ks k → Closed (k ∷ ks) j x × (x.sequence ≡ seq ks j x.client)
  accepted_here ks k j x u =
      let (C, m) = accepts_new Z G M ks k j x u in
      let i = D.accepted_client H g G.bounded j (server_at Z G M ks j).server (server_at Z G M ks j).area (initial_of Z j) (shape Z G M ks j) C.from C.m
      C.took.client C.took.sized C.took.passes x m in
      let E = acceptance ks k j C x m (server_stands ks j x.client i).still in
      let n = left_seq Z G M ks k j C x.client in
      (record { client = E.client; passed = omega (arith, E.sequence, E.next, n); below = E.below }, E.sequence)

  pub closed : (ks : List Call) (j p : ℕ) (x : S.Write) → At (Accepts Z j x) ks p → Closed ks j x
  closed [] j p x u = absurd u
  closed (k ∷ ks) j p x (inl u) = (accepted_here ks k j x u.1).0
  closed (k ∷ ks) j p x (inr u) =
      let D = closed ks j p x u in
      record { client = D.client; passed = omega (arith, D.passed, seq_up ks k j x.client D.client); below = D.below }

  -- a client's writes are accepted in order
  pub before : (ks : List Call) (j c s p : ℕ) (x : S.Write) → At (Accepts Z j x) ks p → x.client ≡ c → x.sequence ≡ suc s → 1 ≤ s
      → (y : S.Write) × (q : ℕ) × At (Accepts Z j y) ks q × (y.client ≡ c) × (y.sequence ≡ s) × (q < p)
  before [] j c s p x u ec es l = absurd u
  before (k ∷ ks) j c s p x (inl u) ec es l =
      let (D, n) = accepted_here ks k j x u.1 in
      let i : Among 8 c = subst (Among 8) ec D.client in
      let n' : x.sequence ≡ seq ks j c = n ∙ ap (λ c. seq ks j c) ec in
      let P = (server_stands ks j c i).passed s l (omega (arith, n', es)) in
      (P.x, P.p, inr P.accepted, P.client, P.sequence, omega (arith, at_low (Accepts Z j P.x) ks P.p P.accepted, u.0))
  before (k ∷ ks) j c s p x (inr u) ec es l =
      let (y, q, v, ey, sy, h) = before ks j c s p x u ec es l in
      (y, q, inr v, ey, sy, h)

  -- ---- no write waits that may be accepted

  pub none_ripe : (ks : List Call) (j : ℕ) → Ripeless g (server_at Z G M ks j).server (server_at Z G M ks j).area
  none_ripe [] j c i = fresh_ripe g (server_at Z G M [] j).server (server_at Z G M [] j).area c 1 (start_slot Z G j c i)
  none_ripe (k ∷ ks) j c i = ⊎_elim
      (λ e. subst (λ h. Ripeless g h.server h.area) (sym e) (none_ripe ks j) c i)
      (λ (C, e). subst (λ h. Ripeless g h.server h.area) (sym e)
      (ripeless H g G.bounded j (server_at Z G M ks j).server (server_at Z G M ks j).area (initial_of Z j) (shape Z G M ks j) C.from C.m
      C.took.client C.took.passes (none_ripe ks j)) c i)
      (server_next Z G M ks k j)
