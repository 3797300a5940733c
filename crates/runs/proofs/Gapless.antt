-- The times of writes that took effect have no gap (request F-9). What an honest server reports is a time that it has, what it has is that of a write that it
-- accepted, and what it accepts is vouched: its own time, or that of one of t + 1 servers, of which one is honest, reaches it. Assumes nothing.
use Rattle.std.specs.Prelude.{Ok, Err}
use Rattle.frame.specs.Refusals.{Verdict}
use Prim.Native.Nat.{ℕ, zero, suc, ◌+◌, ◌≤◌}
use native.Mathlib.Omega.{arith}
use native.Mathlib.Decide.{dec_le}
use mathlib.Core.Bool.{false}
use mathlib.Core.Path.{◌≡◌, refl, ap, ap₂, sym, ◌∙◌, subst}
use mathlib.Core.Logic.{◌⊎◌, inl, inr, ⊎_elim}
use mathlib.Core.List.Memᴰ
use mathlib.Core.List.{List, [], ◌∷◌, map, Memᴰ}
use lib.ListN.{length}
use Rattle.quorum.specs.Quorum.{Among}
use Rattle.quorum.proofs.Quorums.{AtLeast, at_least_fewer, honest_member}
use Rattle.area.proofs.Sets.{of_copies}
use Rattle.frame.specs.declared.Party.{Party}
use Rattle.frame.specs.declared.Party.TheVariants as A
use Rattle.frame.specs.Messages.{report, message}
use Rattle.frame.proofs.Sizes.{Small}
use Rattle.server_rules.specs.State.{fresh_server, report_of}
use Rattle.server_rules.specs.Delivery as SD
use Rattle.server_rules.specs.Steps as S
use Rattle.steps.proofs.Vouches.{VouchFacts, Grounds, vouch_facts, vouch_grounds}
use Rattle.runs.specs.World.{Setup, Call, to_server, initial_of, start, run}
use Rattle.runs.specs.Admissible.{Honest, Proper, Admissible}
use Rattle.runs.specs.Events.{At, Accepts}
use Rattle.runs.specs.Gapless.{TookEffect, GaplessTimes, down_from, TimesCounted}
use Rattle.runs.proofs.Broadcasts.{server_at, SentMessage, Takes, effect_of, server_next, server_left_lem, accepts_now, accepts_new, shape, sent_new}
use Rattle.runs.proofs.Broadcasts.{message_sent}
use Rattle.runs.proofs.Formation.{formed}
use Rattle.runs.proofs.Agreement as Ag
use Rattle.runs.proofs.Assumed.{Assumed, assumed}

module _ (Z : Setup) (G : Assumed Z) (M : Small Z.g) where
  open Z use {H, g, initial_value, faulty_server, state_areas, initial_areas}

  -- each time from 1 to T is that of a write that took effect
  abbrev pub Reached : List Call → ℕ → Type 0
  Reached ks T = (U : ℕ) → 1 ≤ U → U ≤ T → TookEffect Z ks U

  pub low : (ks : List Call) (T U : ℕ) → T ≤ U → Reached ks U → Reached ks T
  low ks T U l R X a b = R X a (omega (arith, b, l))

  pub later : (k : Call) (ks : List Call) (T : ℕ) → Reached ks T → Reached (k ∷ ks) T
  later k ks T R U a b = let (i, x, p, u, e) = R U a b in (i, x, p, inr u, e)

  pub none : (ks : List Call) (T : ℕ) → T ≡ 0 → Reached ks T
  none ks T e U a b = absurd (omega (arith, a, b, e))

  -- what honest servers have, have kept of honest servers' reports, and have reported
  pub record Vouched (ks : List Call) : Type 0 where
    pub own : (j : ℕ) → Reached ks (server_at Z G M ks j).server.stamp.time
    pub kept : (i j : ℕ) → Honest Z (A.Server j) → Reached ks (report_of (server_at Z G M ks i).server j)
    pub sent : (j : ℕ) (b : Party) (c q T : ℕ) → SentMessage Z G M ks (A.Server j) b (message c q (report T)) → Reached ks T

  pub fresh_time : fresh_server.stamp.time ≡ 0
  unfolding fresh_server
  fresh_time = refl

  fresh_report : (j : ℕ) → report_of fresh_server j ≡ 0
  unfolding fresh_server
  fresh_report j = of_copies (λ T. T) 0 0 0 refl refl 11 j

  pub start_fresh : (i : ℕ) → (server_at Z G M [] i).server ≡ fresh_server
  unfolding run start SD.construction SD.construct_by
  start_fresh i = go (SD.construct_test H g i initial_value (length (state_areas i)) (length (initial_areas i)))
    where
      go : (b : Verdict) → (SD.construct_by H g i b initial_value (state_areas i) (initial_areas i)).server ≡ fresh_server
      go (Err r) = refl
      go (Ok _) = refl

  -- ---- a call

  module _ (ks : List Call) (k : Call) (adm : Admissible Z ks) (pr : Proper Z ks k) (I : Vouched ks) where
    pub facts : (j : ℕ) (C : Takes Z G M ks k j) → VouchFacts g (server_at Z G M ks j).server C.from C.m (effect_of Z G M C)
    facts j C = vouch_facts H g G.bounded.servers_high j (server_at Z G M ks j).server (server_at Z G M ks j).area (initial_of Z j) (shape Z G M ks j)
        C.from C.m C.took.passes

    -- an honest server's report that is kept afterwards is reached
    kept_now : (i : ℕ) (C : Takes Z G M ks k i) (j : ℕ) → Honest Z (A.Server j) → Reached ks (report_of (effect_of Z G M C).server j)
    kept_now i C j h = ⊎_elim
        (λ e. subst (Reached ks) (sym e) (I.kept i j h))
        (λ (ef, d, q, em).
        let u = message_sent Z G M (formed Z G M) adm pr C (subst (Honest Z) (sym ef) h) in
        let T = report_of (effect_of Z G M C).server j in
        I.sent j (A.Server i) d q T
        (subst (λ a. SentMessage Z G M ks a (A.Server i) (message d q (report T))) ef (subst (SentMessage Z G M ks C.from (A.Server i)) em u)))
        ((facts i C).report_kept j)

    -- so are the times of accepted writes, and the time afterwards
    grounds : (i : ℕ) (C : Takes Z G M ks k i) → Reached (k ∷ ks) (effect_of Z G M C).server.stamp.time
        × ((w : S.Write) → Memᴰ w (effect_of Z G M C).accepted → Reached (k ∷ ks) (w.time + 1))
    grounds i C =
        let (after, all) = vouch_grounds H g G.bounded.servers_high i (server_at Z G M ks i).server (server_at Z G M ks i).area (initial_of Z i)
        (shape Z G M ks i) C.from C.m
        (Reached (k ∷ ks)) (low (k ∷ ks)) (later k ks _ (I.own i))
        (λ T s.
        let (j, is, ok, l) = honest_member G.faults (at_least_fewer (omega arith) s) in
        low (k ∷ ks) T _ l (later k ks _ (kept_now i C j (is, ok))))
        next in
        (after, λ w u. next w u (all w u))
      where
        next : (w : S.Write) → Memᴰ w (effect_of Z G M C).accepted → Reached (k ∷ ks) w.time → Reached (k ∷ ks) (w.time + 1)
        next w u R U a b = go (dec_le U w.time)
          where
            go : Dec (U ≤ w.time) → TookEffect Z (k ∷ ks) U
            go (yes l) = R U a l
            go (no l) = (i, w, length ks, accepts_now Z G M ks k i C w u, omega (arith, l, b))

    vouched_next : Vouched (k ∷ ks)
    vouched_next = record {
      own = λ j. ⊎_elim
          (λ e. subst (λ h. Reached (k ∷ ks) h.server.stamp.time) (sym e) (later k ks _ (I.own j)))
          (λ N. subst (λ h. Reached (k ∷ ks) h.server.stamp.time) (sym N.1) (grounds j N.0).0)
          (server_next Z G M ks k j);
      kept = λ i j h. ⊎_elim
          (λ e. subst (λ y. Reached (k ∷ ks) (report_of y.server j)) (sym e) (later k ks _ (I.kept i j h)))
          (λ N. subst (λ y. Reached (k ∷ ks) (report_of y.server j)) (sym N.1) (later k ks _ (kept_now i N.0 j h)))
          (server_next Z G M ks k i);
      sent = λ j b c q T u. ⊎_elim
          (λ o. later k ks T (I.sent j b c q T o))
          (λ (C, v).
          let (w, m, e, l) = (facts j C).reported b c q T v in
          low (k ∷ ks) T _ l (grounds j C).0)
          (sent_new Z G M ks k j b _ u);
    }

  pub vouched : (ks : List Call) → Admissible Z ks → Vouched ks
  vouched [] adm = record {
    own = λ j. none [] _ (ap (λ s. s.stamp.time) (start_fresh j) ∙ fresh_time);
    kept = λ i j h. none [] _ (ap (λ s. report_of s j) (start_fresh i) ∙ fresh_report j);
    sent = λ j b c q T u. absurd u;
  }
  vouched (k ∷ ks) adm = vouched_next ks k adm.1 adm.0 (vouched ks adm.1)

  -- what is accepted is reached
  pub accepted_reached : (ks : List Call) → Admissible Z ks → (i p : ℕ) (x : S.Write) → At (Accepts Z i x) ks p → Reached ks (x.time + 1)
  accepted_reached [] adm i p x u = absurd u
  accepted_reached (k ∷ ks) adm i p x (inl u) =
      let (C, m) = accepts_new Z G M ks k i x u.1 in
      (grounds ks k adm.1 adm.0 (vouched ks adm.1) i C).1 x m
  accepted_reached (k ∷ ks) adm i p x (inr u) = later k ks _ (accepted_reached ks adm.1 i p x u)

pub gapless_times : GaplessTimes
unfolding GaplessTimes
gapless_times Z S D ks adm T U (i, x, p, u, e) l = go (dec_le 1 U)
  where
    go : Dec (1 ≤ U) → (U ≡ 0) ⊎ TookEffect Z ks U
    go (yes a) = let G = assumed Z S D in inr (accepted_reached Z G (Ag.small Z G) ks adm i p x u U a (omega (arith, l, e)))
    go (no a) = inl (omega (arith, a))

pub times_counted : TimesCounted
unfolding TimesCounted GaplessTimes down_from
times_counted Z P D ks adm T u = go T (λ U a b. ⊎_elim (λ e. absurd (omega (arith, a, e))) (λ v. v) (gapless_times Z P D ks adm T U u b))
  where
    go : (T : ℕ) → ((U : ℕ) → 1 ≤ U → U ≤ T → TookEffect Z ks U)
        → (xs : List S.Write) × (map (λ x. (S.stamp_of x).time) xs ≡ down_from T)
        × ((x : S.Write) → Memᴰ x xs → (i : ℕ) × (p : ℕ) × At (Accepts Z i x) ks p)
    go zero r = ([], refl, λ x m. absurd (Memᴰ.not-nil m))
    go (suc T) r =
        let (i, y, p, v, e) = r (suc T) (omega arith) (omega arith) in
        let (xs, es, took) = go T (λ U a b. r U a (omega (arith, b))) in (
          y ∷ xs,
          ap₂ (λ a l. a ∷ l) e es,
          λ x m. ⊎_elim (λ h. (i, p, subst (λ z. At (Accepts Z i z) ks p) (sym h) v)) (took x) (Memᴰ.cases_cons m),
        )
