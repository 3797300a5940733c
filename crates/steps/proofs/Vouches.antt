-- What one delivered frame does to a server's reports and to its time (request F-9): which reports it keeps and sends, and on what ground it accepts writes.
-- Assumes nothing.
use Rattle.frame.specs.Refusals.{fine}
use Prim.Native.Nat.{ℕ, ◌+◌, ◌≤◌, ◌<◌}
use native.Mathlib.Omega.{arith}
use native.Mathlib.Decide.{ℕ_discrete}
use mathlib.Core.Bool.{true, false}
use mathlib.Core.Path.{◌≡◌, refl, ap, sym, ◌∙◌, subst}
use mathlib.Core.Logic.{◌⊎◌, inl, inr, ⊎_elim}
use mathlib.Core.List.Memᴰ
use mathlib.Core.List.{List, [], ◌∷◌, ◌++◌, Memᴰ}
use lib.ListN.{length, get_or}
use lib.Seq.{get_or-set_same, get_or-set_other}
use Rattle.quorum.specs.Quorum.{Among}
use Rattle.quorum.proofs.Logic.{impossible}
use Rattle.quorum.proofs.Quorums.{AtLeast, at_least_map}
use Rattle.blocks.specs.declared.Params.{Params}
use Rattle.frame.specs.declared.Party.{Party}
use Rattle.frame.specs.declared.Party.TheVariants as A
use Rattle.frame.specs.Messages.{Body, stamp_is, value_is, report, Message, message, Sending, sending, number_in}
use Rattle.group_rules.proofs.Vouching.{backed_servers}
use Rattle.server_rules.specs.declared.Server.{Server}
use Rattle.server_rules.specs.State.{report_of, with_report}
use Rattle.server_rules.specs.Steps as S
use Rattle.server_rules.specs.Tests as ST
use Rattle.server_rules.proofs.Accepting.{Says}
use Rattle.server_rules.proofs.Accepting as Y
use Rattle.server_rules.proofs.Casts.{IsCast}
use Rattle.server_rules.proofs.Shapes.{Freed, Shape, idle, answers, notes, ends, settles, hears, shape_of}
use Rattle.server_rules.proofs.Passing.{test_split, report_passed}
use Rattle.server_rules.proofs.Freeing.{Grown, older_time, newer_time, freed_mem, freed_reports, freed_stamp, freed_grown, freed_times}
use Rattle.server_rules.proofs.Speaking.{counted_cast}
use Rattle.steps.proofs.ServerFits.{ServerShape}

pub record VouchFacts (g : Params) (s : Server) (from : Party) (m : Message) (r : S.Effect) : Type 0 where
  -- a report that goes out is the time of an accepted write, and is reached
  pub reported : (b : Party) (c q T : ℕ) → Memᴰ (sending b (message c q (report T))) r.sends
      → (w : S.Write) × Memᴰ w r.accepted × (w.time + 1 ≡ T) × (T ≤ r.server.stamp.time)
  -- a report that is kept was, or came
  pub report_kept : (i : ℕ) → (report_of r.server i ≡ report_of s i)
      ⊎ ((from ≡ A.Server i) × (d q : ℕ) × (m ≡ message d q (report (report_of r.server i))))
  pub report_up : (i : ℕ) → report_of s i ≤ report_of r.server i
  -- the time does not fall, is above that of each accepted write, and is what a get-stamp is answered
  pub time_up : s.stamp.time ≤ r.server.stamp.time
  pub accepted_up : (w : S.Write) → Memᴰ w r.accepted → w.time + 1 ≤ r.server.stamp.time
  pub answered : (b : Party) (c q T : ℕ) → Memᴰ (sending b (message c q (stamp_is T))) r.sends → T ≡ s.stamp.time
  -- where the time grows, everybody is told
  pub grown : (r.server.stamp.time ≡ s.stamp.time) ⊎ Grown g r

-- the ground of acceptances: whatever holds of the time before, of all that t + 1 servers reported, of smaller times, and of the next time where an accepted
-- write has it, holds of each accepted write's time, and of the time afterwards
abbrev pub Grounds : Params → Server → S.Effect → Type 1
Grounds g s r = (Q : ℕ → Type 0) → ((T U : ℕ) → T ≤ U → Q U → Q T) → Q s.stamp.time
    → ((T : ℕ) → AtLeast g.n (g.t + 1) (λ j. T ≤ report_of r.server j) → Q T)
    → ((w : S.Write) → Memᴰ w r.accepted → Q w.time → Q (w.time + 1))
    → Q r.server.stamp.time × ((w : S.Write) → Memᴰ w r.accepted → Q w.time)

module _ (H : List ℕ → List ℕ) (g : Params) (few : g.n ≤ 10) (me : ℕ) (s : Server) (a initial : List ℕ) (F : ServerShape s a) (from : Party) where
  freed_grounds : {s₁ : Server} {a₁ : List ℕ} {r : S.Effect} → Freed g 8 s₁ a₁ r → Grounds g s₁ r
  freed_grounds {s₁} {r = r} f Q low own told next =
      freed_times Q low f own
      (λ T e. told T (at_least_map (λ j i l. subst (λ rs. T ≤ get_or rs j 0) (sym (freed_reports f)) l) (backed_servers g (report_of s₁) T e))) next

  says_report : {s₁ : Server} (b : Party) (c q T : ℕ) (w : S.Write) → Says g s₁ w (sending b (message c q (report T))) → w.time + 1 ≡ T
  says_report b c q T w (Y.told d i t) = impossible (cc (ap (λ z. z.says.body) t.is))
  says_report b c q T w (Y.acked e) = impossible (cc (ap (λ z. z.says.body) e))
  says_report b c q T w (Y.reports e t) = cc (ap (λ z. z.body) e)

  freed_reported : {s₁ : Server} {a₁ : List ℕ} {r : S.Effect} → Freed g 8 s₁ a₁ r → (b : Party) (c q T : ℕ)
      → Memᴰ (sending b (message c q (report T))) r.sends
      → (w : S.Write) × Memᴰ w r.accepted × (w.time + 1 ≡ T) × (T ≤ r.server.stamp.time)
  freed_reported {r = r} f b c q T u =
      let (w, m, t) = freed_mem f _ u in
      let e = says_report b c q T w t in
      let l = newer_time r.server.stamp (S.stamp_of w) ((freed_stamp f).1 w m) in
      (w, m, e, omega (arith, e, l))

  says_stamp : {s₁ : Server} (b : Party) (c q T : ℕ) (w : S.Write) → Says g s₁ w (sending b (message c q (stamp_is T))) → ⊥
  says_stamp b c q T w (Y.told d i t) = impossible (cc (ap (λ z. z.says.body) t.is))
  says_stamp b c q T w (Y.acked e) = impossible (cc (ap (λ z. z.says.body) e))
  says_stamp b c q T w (Y.reports e t) = impossible (cc (ap (λ z. z.body) e))

  freed_up : {s₁ : Server} {a₁ : List ℕ} {r : S.Effect} → Freed g 8 s₁ a₁ r → s₁.stamp.time ≤ r.server.stamp.time
  freed_up {s₁} {r = r} f = ⊎_elim
      (λ e. let z = ap (λ x. x.time) e in omega (arith, z))
      (λ e. older_time s₁.stamp r.server.stamp e)
      (freed_stamp f).0

  freed_above : {s₁ : Server} {a₁ : List ℕ} {r : S.Effect} → Freed g 8 s₁ a₁ r → (w : S.Write) → Memᴰ w r.accepted
      → w.time + 1 ≤ r.server.stamp.time
  freed_above {r = r} f w u = newer_time r.server.stamp (S.stamp_of w) ((freed_stamp f).1 w u)

  freed_unanswered : {s₁ : Server} {a₁ : List ℕ} {r : S.Effect} → Freed g 8 s₁ a₁ r → (b : Party) (c q T : ℕ)
      → Memᴰ (sending b (message c q (stamp_is T))) r.sends → ⊥
  freed_unanswered f b c q T u = let (w, m, t) = freed_mem f _ u in says_stamp b c q T w t

  alone : {c q : ℕ} {b : Body} {to t : Party} {x : Body} {d n : ℕ} → Memᴰ (sending to (message d n b)) (sending t (message c q x) ∷ []) → b ≡ x
  alone u = ap (λ z. z.says.body) (Memᴰ.eq_of_singleton u)

  rests : {s₁ : Server} {l : List Sending} (m : Message) → s₁.stamp ≡ s.stamp → s₁.reports ≡ s.reports
      → ((b : Party) (c q T : ℕ) → Memᴰ (sending b (message c q (report T))) l → ⊥)
      → ((b : Party) (c q T : ℕ) → Memᴰ (sending b (message c q (stamp_is T))) l → T ≡ s.stamp.time)
      → VouchFacts g s from m (S.send_only s₁ a l)
  rests {s₁} m e h n t = record {
    reported = λ b c q T u. absurd (n b c q T u);
    report_kept = λ i. inl (ap (λ l. get_or l i 0) h);
    report_up = λ i. let z : report_of s₁ i ≡ report_of s i = ap (λ l. get_or l i 0) h in omega (arith, z);
    time_up = let z = ap (λ x. x.time) e in omega (arith, z);
    accepted_up = λ w u. absurd (Memᴰ.not-nil u);
    answered = t;
    grown = inl (ap (λ x. x.time) e);
  }

  step_vouches : {c q : ℕ} {b : Body} {r : S.Effect} → Shape H g me s a initial (number_in from) c q b r → ST.sender_right g from c b ≡ true
      → ST.order_test H g me s (number_in from) c q b ≡ fine → VouchFacts g s from (message c q b) r
  step_vouches (idle b) h o = rests _ refl refl (λ b c q T u. Memᴰ.not-nil u) (λ b c q T u. absurd (Memᴰ.not-nil u))
  step_vouches answers h o = rests _ refl refl (λ b c q T u. impossible (cc (alone u))) (λ b c q T u. cc (alone u))
  step_vouches notes h o = rests _ refl refl (λ b c q T u. impossible (cc (alone u))) (λ b c q T u. impossible (cc (alone u)))
  step_vouches ends h o = rests _ refl refl (λ b c q T u. Memᴰ.not-nil u) (λ b c q T u. absurd (Memᴰ.not-nil u))
  step_vouches {c} (settles b p k {r} f) h o = record {
    reported = λ to d n T u. ⊎_elim
        (λ v. absurd (counted_cast H g me s a initial (number_in from) c k _ v))
        (λ v. freed_reported f to d n T v)
        (Memᴰ.append_cases p.sends u);
    report_kept = λ i. inl (ap (λ l. get_or l i 0) (freed_reports f));
    report_up = λ i. let z : report_of r.server i ≡ report_of s i = ap (λ l. get_or l i 0) (freed_reports f) in omega (arith, z);
    time_up = freed_up f;
    accepted_up = freed_above f;
    answered = λ to d n T u. ⊎_elim
        (λ v. absurd (counted_cast H g me s a initial (number_in from) c k _ v))
        (λ v. absurd (freed_unanswered f to d n T v))
        (Memᴰ.append_cases p.sends u);
    grown = ⊎_elim (λ e. inl e) (λ G. inr (record {
      w = G.w;
      is = G.is;
      time = G.time;
      servers = λ j i. Memᴰ.append_right p.sends (G.servers j i);
      clients = λ d i. Memᴰ.append_right p.sends (G.clients d i);
    })) (freed_grown f);
  }
  step_vouches {c} {q} (hears T {r} f) h o = record {
    reported = freed_reported f;
    report_kept = λ i. kept i (ℕ_discrete i (number_in from));
    report_up = λ i. up i (ℕ_discrete i (number_in from));
    time_up = freed_up f;
    accepted_up = freed_above f;
    answered = λ to d n T u. absurd (freed_unanswered f to d n T u);
    grown = freed_grown f;
  }
    where
      j : ℕ
      j = number_in from

      sent : (from ≡ A.Server j) × Among g.n j × (report_of s j < T)
      sent = report_passed H g me s from c q T h o

      here : report_of r.server j ≡ T
      here = ap (λ l. get_or l j 0) (freed_reports f) ∙ get_or-set_same s.reports j T 0 (omega (arith, few, sent.1, F.within.reports.0))

      there : (i : ℕ) → (i ≡ j → ⊥) → report_of r.server i ≡ report_of s i
      there i ne = ap (λ l. get_or l i 0) (freed_reports f) ∙ get_or-set_other s.reports j i T 0 ne

      kept : (i : ℕ) → Dec (i ≡ j) → (report_of r.server i ≡ report_of s i)
          ⊎ ((from ≡ A.Server i) × (d n : ℕ) × (message c q (report T) ≡ message d n (report (report_of r.server i))))
      kept i (yes z) = inr (sent.0 ∙ ap A.Server (sym z), c, q, ap (λ U. message c q (report U)) (sym here ∙ ap (report_of r.server) (sym z)))
      kept i (no z) = inl (there i z)

      up : (i : ℕ) → Dec (i ≡ j) → report_of s i ≤ report_of r.server i
      up i (yes z) = subst (λ i. report_of s i ≤ report_of r.server i) (sym z) (omega (arith, here, sent.2))
      up i (no z) = omega (arith, there i z)

  step_grounds : {c q : ℕ} {b : Body} {r : S.Effect} → Shape H g me s a initial (number_in from) c q b r → Grounds g s r
  step_grounds (idle b) Q low own told next = (own, λ w u. absurd (Memᴰ.not-nil u))
  step_grounds answers Q low own told next = (own, λ w u. absurd (Memᴰ.not-nil u))
  step_grounds notes Q low own told next = (own, λ w u. absurd (Memᴰ.not-nil u))
  step_grounds ends Q low own told next = (own, λ w u. absurd (Memᴰ.not-nil u))
  step_grounds (settles b p k f) Q low own told next = freed_grounds f Q low own told next
  step_grounds (hears T f) Q low own told next = freed_grounds f Q low own told next

  -- each frame that passes the tests
  pub vouch_facts : (m : Message) → ST.message_test H g me s from m ≡ fine → VouchFacts g s from m (S.effect H g me s a initial from m)
  vouch_facts m e = let (h, o) = test_split H g me s from m e in step_vouches (shape_of H g me s a initial from m) h o

  pub vouch_grounds : (m : Message) → Grounds g s (S.effect H g me s a initial from m)
  vouch_grounds m = step_grounds (shape_of H g me s a initial from m)
