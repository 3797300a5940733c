-- In a finished run no honest client still asks for stamps, and none still waits for acks of a write that every honest server accepted. Assumes nothing.
use Prim.Native.Nat.{ℕ, ◌+◌, ◌≤◌, ◌<◌}
use native.Mathlib.Omega.{arith}
use mathlib.Core.Bool.{Bool, true, false}
use mathlib.Core.Path.{◌≡◌, refl, ap, subst}
use mathlib.Core.Logic.{◌⊎◌, inl, inr, ⊎_elim}
use mathlib.Core.Option.{some}
use mathlib.Core.List.{List}
use lib.ListN.{get_or}
use borrow.Author.Tests.{le-leb}
use Rattle.quorum.specs.Quorum.{count}
use Rattle.quorum.proofs.Logic.{impossible}
use Rattle.quorum.proofs.Quorums.{at_least_count, at_least_fewer, honest_servers}
use Rattle.area.specs.Area.{kept}
use Rattle.group_rules.proofs.Vouching.{servers_back}
use Rattle.frame.specs.declared.Party.TheVariants as A
use Rattle.frame.specs.Messages.{get_stamp, ack, stamp_is, report, message}
use Rattle.frame.proofs.Sizes.{Small}
use Rattle.client_rules.specs.declared.Client.{Client}
use Rattle.client_rules.specs.declared.Phase.TheVariants as F
use Rattle.client_rules.specs.State.{heard_of, reply_of, report_of}
use Rattle.client_rules.specs.Steps as C
use Rattle.client_rules.proofs.Enough.{gathered_of, counted_of}
use Rattle.runs.specs.Admissible.{Honest, Admissible}
use Rattle.runs.specs.World.{Setup, Call}
use Rattle.runs.proofs.Agreement.{small}
use Rattle.runs.proofs.Assumed.{Assumed}
use Rattle.runs.proofs.Vouching.{time, times}
use Rattle.service.proofs.Folds.{all_honest}
use Rattle.served.specs.Finished.{Finished}
use Rattle.served.proofs.Clients.{home}
use Rattle.served.proofs.ClientState.{Doing, stands}
use Rattle.served.proofs.ClientPast.{write_stage}
use Rattle.served.proofs.ClientReached.{answer_reached}
use Rattle.served.proofs.ServerState.{seq, server_stands}
use Rattle.served.proofs.ServerPast.{reached}

module _ (Z : Setup) (G : Assumed Z) (ks : List Call) (adm : Admissible Z ks) (N : Finished Z ks) (c : ℕ) (hc : Honest Z (A.Client c)) where
  open Z use {g, faulty_server}

  abbrev M : Small g
  M = small Z G

  abbrev s : Client
  s = (home Z ks c).client

  -- all honest servers are enough
  heard_enough : ((j : ℕ) → Honest Z (A.Server j) → heard_of s j ≡ true) → C.quorate g s.heard ≡ true
  unfolding C.quorate
  heard_enough f =
      let l = at_least_count (λ j. heard_of s j) (honest_servers G.faults (λ j is h. f j (is, h))) in
      le-leb g.n (count (λ j. get_or s.heard j false) g.n + g.t) (omega (arith, l))

  doing : {p : _} → s.phase ≡ p → Doing Z G ks c (home Z ks c) p
  doing e = subst (Doing Z G ks c (home Z ks c)) e (stands Z G ks c).doing

  -- ---- the first part of a write

  stamp_heard : s.phase ≡ F.Asking → (j : ℕ) → Honest Z (A.Server j) → heard_of s j ≡ true
  stamp_heard e j hj =
      let (_, _, f) = doing e in
      ⊎_elim
      (λ (T, u). ⊎_elim
      (λ l. absurd (omega (arith, l)))
      (λ (_, w). ⊎_elim (λ l. absurd (omega (arith, l, ap write_stage e))) (λ h. h) w)
      (answer_reached Z G ks adm N j c (message c s.writes (stamp_is T)) hj hc u))
      (λ z. absurd z)
      (reached Z G ks adm N (A.Client c) j (message c s.writes get_stamp) hc hj (f j hj.0))

  heard_time : (b : Bool) (T : ℕ) → b ≡ true → kept b T ≡ some T
  heard_time true T e = refl
  heard_time false T e = impossible (cc e)

  -- what an honest server replied is a time that it had
  replied : s.phase ≡ F.Asking → (j : ℕ) → Honest Z (A.Server j) → reply_of s j ≤ time Z G M ks j
  replied e j hj = (times Z G M ks adm).replied c j (reply_of s j) hj e (heard_time (heard_of s j) (reply_of s j) (stamp_heard e j hj))

  -- and what it has, it has reported
  reported : (h : ℕ) → Honest Z (A.Server h) → time Z G M ks h ≤ report_of s h
  reported h hh = ⊎_elim
      (λ e. omega (arith, e))
      (λ (d, q, f). answer_reached Z G ks adm N h c (message d q (report (time Z G M ks h))) hh hc (f c hc.0))
      ((times Z G M ks adm).told h)

  -- where all honest servers have one time, the reply of each counts
  module _ {X : Type 0} (same : (i j : ℕ) → Honest Z (A.Server i) → Honest Z (A.Server j) → (time Z G M ks i ≡ time Z G M ks j) ⊎ X)
      (e : s.phase ≡ F.Asking) where
    backed_by : (j : ℕ) → Honest Z (A.Server j) → ((h : ℕ) → Honest Z (A.Server h) → reply_of s j ≤ report_of s h) → C.counted g s j ≡ true
    backed_by j hj f = counted_of g s j (stamp_heard e j hj)
        (servers_back g (report_of s) (reply_of s j)
        (at_least_fewer (omega (arith, G.bounded.faults_high)) (honest_servers G.faults (λ h is ok. f h (is, ok)))))

    counts : (j : ℕ) → Honest Z (A.Server j) → (C.counted g s j ≡ true) ⊎ X
    counts j hj = ⊎_elim
        (λ f. inl (backed_by j hj f))
        (λ x. inr x)
        (all_honest (λ h. reply_of s j ≤ report_of s h) g.n faulty_server (λ h hh. ⊎_elim
        (λ z. inl (omega (arith, z, replied e j hj, reported h hh)))
        (λ x. inr x)
        (same j h hj hh)))

    pub not_asking : X
    not_asking = ⊎_elim
        (λ f.
        let (_, q, _) = doing e in
        let l = at_least_count (C.counted g s) (honest_servers G.faults (λ j is ok. f j (is, ok))) in
        impossible (cc (q, gathered_of g s (omega (arith, l)))))
        (λ x. x)
        (all_honest (λ j. C.counted g s j ≡ true) g.n faulty_server counts)

  -- ---- the second part

  -- an honest server that has passed the write has acknowledged it
  ack_heard : s.phase ≡ F.Acking → (j : ℕ) → Honest Z (A.Server j) → s.writes < seq Z G ks j c → heard_of s j ≡ true
  ack_heard e j hj l =
      let low = (doing e).0 in
      let P = (server_stands Z G ks j c hc.0).passed s.writes low l in
      ⊎_elim
      (λ l. absurd (omega (arith, l)))
      (λ (_, w). ⊎_elim (λ l. absurd (omega (arith, l, ap write_stage e))) (λ h. h.1) w)
      (answer_reached Z G ks adm N j c (message c s.writes ack) hj hc P.acked)

  pub not_acking : {X : Type 0} → ((j : ℕ) → Honest Z (A.Server j) → (s.writes < seq Z G ks j c) ⊎ X) → s.phase ≡ F.Acking → X
  not_acking {X} f e = ⊎_elim
      (λ h. impossible (cc ((doing e).1, heard_enough h)))
      (λ x. x)
      (all_honest (λ j. heard_of s j ≡ true) g.n faulty_server (λ j hj. ⊎_elim (λ l. inl (ack_heard e j hj l)) (λ x. inr x) (f j hj)))
