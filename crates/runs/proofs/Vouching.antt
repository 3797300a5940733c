-- What honest servers and clients have of each other's times in a run (request F-9): a server's time is above what it accepted and answered, and was reported
-- to every client; what a client kept of honest servers' reports, and the times that it sends, are reached. Assumes nothing.
use Prim.Native.Nat.{ℕ, ◌+◌, ◌≤◌}
use native.Mathlib.Omega.{arith}
use native.Mathlib.Decide.{dec_le}
use mathlib.Core.Bool.{false}
use mathlib.Core.Path.{◌≡◌, refl, ap, sym, ◌∙◌, subst}
use mathlib.Core.Logic.{◌⊎◌, inl, inr, ⊎_elim}
use mathlib.Core.Option.{some}
use mathlib.Core.List.{List, [], ◌∷◌, Memᴰ}
use lib.ListN.{length}
use Rattle.quorum.specs.Quorum.{Among}
use Rattle.quorum.proofs.Logic.{impossible}
use Rattle.quorum.proofs.Quorums.{AtLeast, at_least_fewer, honest_member}
use Rattle.area.proofs.Sets.{of_copies}
use Rattle.frame.specs.declared.Party.{Party}
use Rattle.frame.specs.declared.Party.TheVariants as A
use Rattle.frame.specs.Messages.{Offer, send, stamp_is, block_is, report, Message, message, sending}
use Rattle.frame.proofs.Sizes.{Small}
use Rattle.server_rules.specs.Steps as S
use Rattle.client_rules.specs.declared.Client.{Client}
use Rattle.client_rules.specs.declared.Phase.TheVariants as F
use Rattle.client_rules.specs.State.{fresh_client, report_of}
use Rattle.client_rules.proofs.CallFacts.{time_of, KnowsR}
use Rattle.steps.proofs.Vouches.{VouchFacts}
use Rattle.runs.specs.World.{Setup, Call, caller, start, run, sends}
use Rattle.runs.specs.Admissible.{Honest, Proper, Admissible}
use Rattle.runs.specs.Events.{At, Accepts}
use Rattle.runs.specs.Gapless.{TookEffect}
use Rattle.runs.proofs.Places.{at_low}
use Rattle.runs.proofs.Broadcasts.{server_at, SentMessage, Takes, effect_of, server_next, server_left_lem, accepts_new, sent_new}
use Rattle.runs.proofs.ClientLaws.{home, rows, Acts, act, cli_cases}
use Rattle.runs.proofs.Gapless.{Reached, low, later, none, start_fresh, fresh_time, facts, Vouched, vouched, accepted_reached}
use Rattle.runs.proofs.Assumed.{Assumed}

module _ (Z : Setup) (G : Assumed Z) (M : Small Z.g) where
  open Z use {H, g, faulty_server}

  abbrev pub time : List Call → ℕ → ℕ
  time ks j = (server_at Z G M ks j).server.stamp.time

  abbrev client : List Call → ℕ → Client
  client ks c = ((run Z ks).clients c).client

  -- ---- a server's time

  left_time : (ks : List Call) (k : Call) (j : ℕ) (C : Takes Z G M ks k j) → time (k ∷ ks) j ≡ (effect_of Z G M C).server.stamp.time
  left_time ks k j C = ap (λ h. h.server.stamp.time) (server_left_lem Z G M ks k j C)

  pub time_up : (ks : List Call) (k : Call) → Admissible Z ks → Proper Z ks k → (j : ℕ) → time ks j ≤ time (k ∷ ks) j
  time_up ks k adm pr j = ⊎_elim
      (λ e. let z = ap (λ h. h.server.stamp.time) e in omega (arith, z))
      (λ N. let z = left_time ks k j N.0 in omega (arith, z, (facts Z G M ks k adm pr (vouched Z G M ks adm) j N.0).time_up))
      (server_next Z G M ks k j)

  pub accepted_up : (ks : List Call) → Admissible Z ks → (j p : ℕ) (x : S.Write) → At (Accepts Z j x) ks p → x.time + 1 ≤ time ks j
  accepted_up [] adm j p x u = absurd u
  accepted_up (k ∷ ks) adm j p x (inr u) = let l = accepted_up ks adm.1 j p x u in omega (arith, l, time_up ks k adm.1 adm.0 j)
  accepted_up (k ∷ ks) adm j p x (inl u) =
      let (C, m) = accepts_new Z G M ks k j x u.1 in
      let z = left_time ks k j C in
      omega (arith, z, (facts Z G M ks k adm.1 adm.0 (vouched Z G M ks adm.1) j C).accepted_up x m)

  -- it was reported to every client
  abbrev pub Told : List Call → ℕ → ℕ → Type 0
  Told ks j T = (c q : ℕ) × ((d : ℕ) → Among 8 d → SentMessage Z G M ks (A.Server j) (A.Client d) (message c q (report T)))

  pub record Times (ks : List Call) : Type 0 where
    pub answered : (j : ℕ) (b : Party) (c q T : ℕ) → SentMessage Z G M ks (A.Server j) b (message c q (stamp_is T)) → T ≤ time ks j
    pub replied : (c j T : ℕ) → Honest Z (A.Server j) → (client ks c).phase ≡ F.Asking → time_of (client ks c) j ≡ some T → T ≤ time ks j
    pub told : (j : ℕ) → (time ks j ≡ 0) ⊎ Told ks j (time ks j)

  module _ (ks : List Call) (k : Call) (adm : Admissible Z ks) (pr : Proper Z ks k) (I : Times ks) where
    its : (j : ℕ) (C : Takes Z G M ks k j) → VouchFacts g (server_at Z G M ks j).server C.from C.m (effect_of Z G M C)
    its j C = facts Z G M ks k adm pr (vouched Z G M ks adm) j C

    up : (j : ℕ) → time ks j ≤ time (k ∷ ks) j
    up j = time_up ks k adm pr j

    told_later : (j T : ℕ) → Told ks j T → Told (k ∷ ks) j T
    told_later j T (c, q, f) = (c, q, λ d i. inr (f d i))

    -- what goes out in this call
    now : (j : ℕ) (C : Takes Z G M ks k j) (b : Party) (m : Message) → Memᴰ (sending b m) (effect_of Z G M C).sends
        → SentMessage Z G M (k ∷ ks) (A.Server j) b m
    unfolding sends
    now j C b m u = inl (
      subst (λ k. caller k ≡ A.Server j) (sym C.is) refl,
      subst (λ k. Memᴰ (sending b m) (sends Z (run Z ks) k)) (sym C.is) (subst (λ r. Memᴰ (sending b m) r.sends) (sym C.moves) u),
    )

    times_next : Times (k ∷ ks)
    times_next = record {
      answered = λ j b c q T u. ⊎_elim
          (λ o. let l = I.answered j b c q T o in omega (arith, l, up j))
          (λ (C, v). let e = (its j C).answered b c q T v in omega (arith, e, up j))
          (sent_new Z G M ks k j b _ u);
      replied = λ c j T h p e. ⊎_elim
          (λ z. let l = I.replied c j T h (ap (λ y. y.client.phase) (sym z) ∙ p) (ap (λ y. time_of y.client j) (sym z) ∙ e) in omega (arith, l, up j))
          (λ z.
          let Q = act Z G M ks k adm pr c z in
          ⊎_elim
          (λ (p, e). let l = I.replied c j T h p e in omega (arith, l, up j))
          (λ n. let l = I.answered j (A.Client c) c _ T (Q.brought j _ h.0 h.1 n) in omega (arith, l, up j))
          (Q.facts.t_kept j T h.0 p e).1)
          (cli_cases Z G M ks k c);
      told = λ j. ⊎_elim
          (λ e. subst (λ T. (T ≡ 0) ⊎ Told (k ∷ ks) j T) (sym (ap (λ h. h.server.stamp.time) e)) (stay j))
          (λ (C, e). subst (λ T. (T ≡ 0) ⊎ Told (k ∷ ks) j T) (sym (ap (λ h. h.server.stamp.time) e))
          (⊎_elim
          (λ z. subst (λ T. (T ≡ 0) ⊎ Told (k ∷ ks) j T) (sym z) (stay j))
          (λ W. inr (
            W.w.client,
            W.w.sequence,
            λ d i. subst (λ T. SentMessage Z G M (k ∷ ks) (A.Server j) (A.Client d) (message W.w.client W.w.sequence (report T))) (sym W.time)
                (now j C _ _ (W.clients d i)),
          ))
          (its j C).grown))
          (server_next Z G M ks k j);
    }
      where
        stay : (j : ℕ) → (time ks j ≡ 0) ⊎ Told (k ∷ ks) j (time ks j)
        stay j = ⊎_elim (λ e. inl e) (λ t. inr (told_later j (time ks j) t)) (I.told j)

  fresh_phase : fresh_client.phase ≡ F.Idle
  unfolding fresh_client
  fresh_phase = refl

  start_client : (c : ℕ) → client [] c ≡ fresh_client
  unfolding run start
  start_client c = refl

  pub times : (ks : List Call) → Admissible Z ks → Times ks
  times [] adm = record {
    answered = λ j b c q T u. absurd u;
    replied = λ c j T h p e. impossible (cc (ap (λ s. s.phase) (start_client c), fresh_phase, p));
    told = λ j. inl (ap (λ s. s.stamp.time) (start_fresh Z G M j) ∙ fresh_time Z G M);
  }
  times (k ∷ ks) adm = times_next ks k adm.1 adm.0 (times ks adm.1)

  -- ---- what clients have kept and sent

  pub record Heard (ks : List Call) : Type 0 where
    pub kept : (c j : ℕ) → Honest Z (A.Server j) → Reached Z G M ks (report_of (client ks c) j)
    pub offered : (c : ℕ) (b : Party) (d q : ℕ) (o : Offer) → SentMessage Z G M ks (A.Client c) b (message d q (block_is send o)) → Reached Z G M ks o.time

  module _ (ks : List Call) (k : Call) (adm : Admissible Z ks) (pr : Proper Z ks k) (I : Heard ks) where
    -- what is known of an honest server's report is reached
    known : (c : ℕ) (e : caller k ≡ A.Client c) (j T : ℕ) → Honest Z (A.Server j)
        → KnowsR H g M G.bounded.servers_high c (home Z G M ks c).client (rows Z G M ks c) (act Z G M ks k adm pr c e).N j T → Reached Z G M ks T
    known c e j T h (inl z) = subst (Reached Z G M ks) z (I.kept c j h)
    known c e j T h (inr (inl (d, q, n))) = (vouched Z G M ks adm).sent j (A.Client c) d q T ((act Z G M ks k adm pr c e).brought j _ h.0 h.1 n)
    known c e j T h (inr (inr n)) =
        low Z G M ks T (time ks j) ((times ks adm).answered j (A.Client c) c _ T ((act Z G M ks k adm pr c e).brought j _ h.0 h.1 n))
        ((vouched Z G M ks adm).own j)

    offers : (c : ℕ) (e : caller k ≡ A.Client c) (U : ℕ)
        → (U ≡ 0) ⊎ AtLeast g.n (g.t + 1) (λ j. (T : ℕ) × (U ≤ T)
        × KnowsR H g M G.bounded.servers_high c (home Z G M ks c).client (rows Z G M ks c) (act Z G M ks k adm pr c e).N j T) → Reached Z G M ks U
    offers c e U (inl z) = none Z G M ks U z
    offers c e U (inr s) =
        let h = honest_member G.faults (at_least_fewer (omega arith) s) in
        low Z G M ks U h.3.0 h.3.1 (known c e h.0 h.3.0 (h.1, h.2) h.3.2)

    heard_next : Heard (k ∷ ks)
    heard_next = record {
      kept = λ c j h. later Z G M k ks _ (⊎_elim
          (λ z. subst (λ y. Reached Z G M ks (report_of y.client j)) (sym z) (I.kept c j h))
          (λ z. known c z j _ h ((act Z G M ks k adm pr c z).facts.report_kept j h.0))
          (cli_cases Z G M ks k c));
      offered = λ c b d q o u. ⊎_elim
          (λ (z, v). later Z G M k ks o.time (offers c z o.time ((act Z G M ks k adm pr c z).facts.t_vouched b d q o v)))
          (λ v. later Z G M k ks o.time (I.offered c b d q o v))
          u;
    }

  fresh_report : (j : ℕ) → report_of fresh_client j ≡ 0
  unfolding fresh_client
  fresh_report j = of_copies (λ T. T) 0 0 0 refl refl 11 j

  pub heard : (ks : List Call) → Admissible Z ks → Heard ks
  heard [] adm = record {
    kept = λ c j h. none Z G M [] _ (ap (λ s. report_of s j) (start_client c) ∙ fresh_report j);
    offered = λ c b d q o u. absurd u;
  }
  heard (k ∷ ks) adm = heard_next ks k adm.1 adm.0 (heard ks adm.1)

  -- ---- the ground of an acceptance

  -- the one whose stamp has the time that it came with, not later in the run
  pub grounded : (ks : List Call) → Admissible Z ks → (i p : ℕ) (x : S.Write) → At (Accepts Z i x) ks p → 1 ≤ x.time
      → (j : ℕ) × (y : S.Write) × (q : ℕ) × At (Accepts Z j y) ks q × (y.time + 1 ≡ x.time) × (q ≤ p)
  grounded [] adm i p x u l = absurd u
  grounded (k ∷ ks) adm i p x (inr u) l = let (j, y, q, v, e, h) = grounded ks adm.1 i p x u l in (j, y, q, inr v, e, h)
  grounded (k ∷ ks) adm i p x (inl u) l =
      let (j, y, q, v, e) = accepted_reached Z G M (k ∷ ks) adm i p x (inl u) x.time l (omega arith) in
      let h = at_low (Accepts Z j y) (k ∷ ks) q v in
      (j, y, q, v, e, omega (arith, h, u.0))
