-- Stamps keep the order in time: if a read or a write ended before another operation began, its stamp is not above the other's, and
-- strictly below it where the other is a write. In every run of lawful calls, and for operations of honest clients.
-- Each server's present stamp only grows. When an operation has ended, the honest ones of n - t servers have its stamp or a larger one from then on;
-- an operation that begins later hears n - t servers, and one of these is honest and among the former. Assumes nothing.
use Prim.Native.Nat.{ℕ, ◌≤◌, ◌<◌}
use native.Mathlib.Omega.{arith}
use native.Mathlib.Decide.{dec_le}
use mathlib.Core.Bool.{Bool, true, false}
use mathlib.Core.Path.{◌≡◌, ap, sym, ◌∙◌}
use mathlib.Core.Logic.{◌⊎◌, inl, inr, ⊎_elim}
use mathlib.Core.List.{List, [], ◌∷◌}
use Rattle.quorum.specs.Quorum.{Among, Faults}
use Rattle.quorum.proofs.Logic.{impossible}
use Rattle.quorum.proofs.Quorums.{at_least_map, quorums_meet, quorum_member}
use Rattle.precedence.specs.Laws as L
use Rattle.precedence.specs.Laws.{Stamps, Views, Extends}

module _ {K A S : Type 0} (Z : Stamps A S) (W : Views K A S) (n t : ℕ) (faulty_server faulty_client : ℕ → Bool) where
  open Z use {key, time, initial, sent, stamped, key_time, time_stamped}
  open W use {present, listening, newest, noted, reads, writes, SentAck, SentValue, SentStamp, SentRead, SentGetStamp, SentTime}
  open W use {KeptAck, KeptValue, KeptStamp, Accepted, WriteEnded, ReadEnded}

  abbrev Written : List K → ℕ → S → Type 0
  Written = L.Written Z W n t faulty_server faulty_client

  abbrev Quorum : (ℕ → Type 0) → Type 0
  Quorum = L.Quorum Z W n t faulty_server faulty_client

  abbrev Lawful : List K → K → Type 0
  Lawful = L.Lawful Z W n t faulty_server faulty_client

  abbrev Run : List K → Type 0
  Run = L.Run Z W n t faulty_server faulty_client

  -- ---- a run and an earlier one

  pub run_before : (ks₀ ks : List K) → Extends ks₀ ks → Run ks → Run ks₀
  run_before ks₀ [] x a = rw x a
  run_before ks₀ (k ∷ ks) (inl e) a = rw e a
  run_before ks₀ (k ∷ ks) (inr x) a = run_before ks₀ ks x a.1

  pub present_mono : (ks₀ ks : List K) → Extends ks₀ ks → Run ks → (j : ℕ) → key (present ks₀ j) ≤ key (present ks j)
  present_mono ks₀ [] x a j = rw x (omega arith)
  present_mono ks₀ (k ∷ ks) (inl e) a j = rw e (omega arith)
  present_mono ks₀ (k ∷ ks) (inr x) a j = omega (arith, present_mono ks₀ ks x a.1 j, a.0.present_up j)

  pub accepted_mono : (ks₀ ks : List K) → Extends ks₀ ks → Run ks → (i c q : ℕ) (T : A) → Accepted ks₀ i c q T → Accepted ks i c q T
  accepted_mono ks₀ [] x a i c q T u = rw x at u
  accepted_mono ks₀ (k ∷ ks) (inl e) a i c q T u = rw e at u
  accepted_mono ks₀ (k ∷ ks) (inr x) a i c q T u = a.0.accepted_stays i c q T (accepted_mono ks₀ ks x a.1 i c q T u)

  module _ (E : L.Fresh Z W n t faulty_server faulty_client) where
    -- ---- what servers hold and send

    written_mono : (ks : List K) (k : K) → Lawful ks k → (j : ℕ) (v : S) → Written ks j v → Written (k ∷ ks) j v
    written_mono ks k M j v w = (w.0, w.1, w.2, M.accepted_stays j w.0 w.1 w.2 w.3, w.4)

    -- a present stamp is the initial one or was accepted
    pub present_of_lem : (ks : List K) → Run ks → (j : ℕ) → (present ks j ≡ initial) ⊎ Written ks j (present ks j)
    present_of_lem [] a j = inl (E.initial_stamp j)
    present_of_lem (k ∷ ks) a j = ⊎_elim
        (λ e. ⊎_elim (λ u. inl (e ∙ u)) (λ u. inr (rw e (written_mono ks k a.0 j (present ks j) u))) (present_of_lem ks a.1 j))
        (λ w. inr w)
        (a.0.present_new j)

    -- an ack was sent for a write that the server accepted, and whose stamp it has reached
    pub ack_accepted : (ks : List K) → Run ks → (j c q : ℕ) → SentAck ks j c q → (T : A) × Accepted ks j c q T × (key (stamped T c q) ≤ key (present ks j))
    ack_accepted [] a j c q u = absurd (E.no_ack j c q u)
    ack_accepted (k ∷ ks) a j c q u = ⊎_elim
        (λ o. let w = ack_accepted ks a.1 j c q o in (w.0, a.0.accepted_stays j c q w.0 w.1, omega (arith, w.2, a.0.present_up j)))
        (λ w. w)
        (a.0.ack_new j c q u)

    -- a value has the initial or an accepted stamp, which the server has reached
    pub value_written : (ks : List K) → Run ks → (j c q : ℕ) (v : S) → SentValue ks j c q v → (key v ≤ key (present ks j)) × ((v ≡ initial) ⊎ Written ks j v)
    value_written [] a j c q v u = absurd (E.no_value j c q v u)
    value_written (k ∷ ks) a j c q v u = ⊎_elim
        (λ o.
        let w = value_written ks a.1 j c q v o in
        (omega (arith, w.0, a.0.present_up j), ⊎_elim (λ z. inl z) (λ z. inr (written_mono ks k a.0 j v z)) w.1))
        (⊎_elim
        (λ w. (
          omega (arith, ap key w.1, a.0.present_up j),
          ⊎_elim (λ z. inl (w.1 ∙ z)) (λ z. inr (rw w.1 (written_mono ks k a.0 j (present ks j) z))) (present_of_lem ks a.1 j),
        ))
        (λ w. (w.below, inr w.written)))
        (a.0.value_new j c q v u)

    -- ---- nothing is said of an operation before it begins, so what is said later is not below the present stamps of before

    pub asked_begun : (ks : List K) → Run ks → (c q : ℕ) → SentRead ks c q → q ≤ reads ks c
    asked_begun [] a c q u = absurd (E.no_read c q u)
    asked_begun (k ∷ ks) a c q u = ⊎_elim (λ o. omega (arith, asked_begun ks a.1 c q o, a.0.reads_up c)) (λ w. w) (a.0.read_new c q u)

    pub get_stamp_begun : (ks : List K) → Run ks → (c q : ℕ) → SentGetStamp ks c q → q ≤ writes ks c
    get_stamp_begun [] a c q u = absurd (E.no_get_stamp c q u)
    get_stamp_begun (k ∷ ks) a c q u = ⊎_elim (λ o. omega (arith, get_stamp_begun ks a.1 c q o, a.0.writes_up c)) (λ w. w) (a.0.get_stamp_new c q u)

    pub noted_begun : (ks : List K) → Run ks → (j c : ℕ) → faulty_client c ≡ false → listening ks j c ≡ true → newest ks j c ≤ reads ks c
    noted_begun [] a j c h l = impossible (cc (E.no_listener j c))
    noted_begun (k ∷ ks) a j c h l = ⊎_elim
        (λ w. omega (arith, noted_begun ks a.1 j c h w.0, w.1, a.0.reads_up c))
        (λ w. omega (arith, asked_begun ks a.1 c _ (w.0 h), a.0.reads_up c))
        (a.0.noting j c l)

    noted_above : (ks₀ ks : List K) → Extends ks₀ ks → Run ks → (j c : ℕ) → faulty_client c ≡ false → listening ks j c ≡ true → reads ks₀ c < newest ks j c
        → key (present ks₀ j) ≤ noted ks j c
    noted_above ks₀ [] x a j c h l b = impossible (cc (E.no_listener j c))
    noted_above ks₀ (k ∷ ks) (inl e) a j c h l b = absurd (omega (arith, noted_begun (k ∷ ks) a j c h l, ap (λ z. reads z c) e))
    noted_above ks₀ (k ∷ ks) (inr x) a j c h l b = ⊎_elim
        (λ w. omega (arith, noted_above ks₀ ks x a.1 j c h w.0 (omega (arith, w.1)), w.2))
        (λ w. omega (arith, present_mono ks₀ ks x a.1 j, w.1))
        (a.0.noting j c l)

    pub value_begun : (ks : List K) → Run ks → (j c q : ℕ) (v : S) → faulty_client c ≡ false → SentValue ks j c q v → q ≤ reads ks c
    value_begun [] a j c q v h u = absurd (E.no_value j c q v u)
    value_begun (k ∷ ks) a j c q v h u = ⊎_elim
        (λ o. omega (arith, value_begun ks a.1 j c q v h o, a.0.reads_up c))
        (⊎_elim
        (λ w. omega (arith, asked_begun ks a.1 c q (w.0 h), a.0.reads_up c))
        (λ w. omega (arith, noted_begun ks a.1 j c h w.listens, w.current, a.0.reads_up c)))
        (a.0.value_new j c q v u)

    value_above : (ks₀ ks : List K) → Extends ks₀ ks → Run ks → (j c q : ℕ) (v : S) → faulty_client c ≡ false → reads ks₀ c < q → SentValue ks j c q v
        → key (present ks₀ j) ≤ key v
    value_above ks₀ [] x a j c q v h l u = absurd (E.no_value j c q v u)
    value_above ks₀ (k ∷ ks) (inl e) a j c q v h l u = absurd (omega (arith, value_begun (k ∷ ks) a j c q v h u, ap (λ z. reads z c) e))
    value_above ks₀ (k ∷ ks) (inr x) a j c q v h l u = ⊎_elim
        (λ o. value_above ks₀ ks x a.1 j c q v h l o)
        (⊎_elim
        (λ w. omega (arith, present_mono ks₀ ks x a.1 j, ap key w.1))
        (λ w. omega (arith, noted_above ks₀ ks x a.1 j c h w.listens (omega (arith, w.current)), w.above)))
        (a.0.value_new j c q v u)

    pub time_begun : (ks : List K) → Run ks → (j c q T : ℕ) → faulty_client c ≡ false → SentStamp ks j c q T → q ≤ writes ks c
    time_begun [] a j c q T h u = absurd (E.no_stamp j c q T u)
    time_begun (k ∷ ks) a j c q T h u = ⊎_elim
        (λ o. omega (arith, time_begun ks a.1 j c q T h o, a.0.writes_up c))
        (λ w. omega (arith, get_stamp_begun ks a.1 c q (w.0 h), a.0.writes_up c))
        (a.0.stamp_new j c q T u)

    time_above : (ks₀ ks : List K) → Extends ks₀ ks → Run ks → (j c q T : ℕ) → faulty_client c ≡ false → writes ks₀ c < q → SentStamp ks j c q T
        → time (present ks₀ j) ≤ T
    time_above ks₀ [] x a j c q T h l u = absurd (E.no_stamp j c q T u)
    time_above ks₀ (k ∷ ks) (inl e) a j c q T h l u = absurd (omega (arith, time_begun (k ∷ ks) a j c q T h u, ap (λ z. writes z c) e))
    time_above ks₀ (k ∷ ks) (inr x) a j c q T h l u = ⊎_elim
        (λ o. time_above ks₀ ks x a.1 j c q T h l o)
        (λ w. omega (arith, key_time _ _ (present_mono ks₀ ks x a.1 j), w.1))
        (a.0.stamp_new j c q T u)

    -- ---- what a client has counted of honest servers was sent to it for the open operation

    pub ack_from_lem : (ks : List K) → Run ks → (c j : ℕ) → Among n j → faulty_server j ≡ false → KeptAck ks c j → SentAck ks j c (writes ks c)
    ack_from_lem [] a c j i g u = absurd (E.no_kept_ack c j u)
    ack_from_lem (k ∷ ks) a c j i g u =
        let w = a.0.ack_kept c j i g u in
        rw w.0 (a.0.ack_stays j c (writes ks c) (⊎_elim (ack_from_lem ks a.1 c j i g) (λ z. z) w.1))

    pub stamp_from_lem : (ks : List K) → Run ks → (c j T : ℕ) → Among n j → faulty_server j ≡ false → KeptStamp ks c j T → SentStamp ks j c (writes ks c) T
    stamp_from_lem [] a c j T i g u = absurd (E.no_kept_stamp c j T u)
    stamp_from_lem (k ∷ ks) a c j T i g u =
        let w = a.0.stamp_kept c j T i g u in
        rw w.0 (a.0.stamp_stays j c (writes ks c) T (⊎_elim (stamp_from_lem ks a.1 c j T i g) (λ z. z) w.1))

    pub value_from_lem : (ks : List K) → Run ks → (c j : ℕ) (v : S) → Among n j → faulty_server j ≡ false → KeptValue ks c j v → SentValue ks j c (reads ks c) v
    value_from_lem [] a c j v i g u = absurd (E.no_kept_value c j v u)
    value_from_lem (k ∷ ks) a c j v i g u =
        let w = a.0.value_kept c j v i g u in
        rw w.0 (a.0.value_stays j c (reads ks c) v (⊎_elim (value_from_lem ks a.1 c j v i g) (λ z. z) w.1))

    -- ---- what n - t servers, if honest, sent when an operation ended or a time went out

    pub write_why : (ks : List K) → Run ks → (c q : ℕ) → WriteEnded ks c q → Quorum (λ j. SentAck ks j c q)
    write_why [] a c q u = absurd (E.no_write_ended c q u)
    write_why (k ∷ ks) a c q u = at_least_map (λ j i f g. a.0.ack_stays j c q (f g)) (⊎_elim
        (λ o. write_why ks a.1 c q o)
        (λ w. rw w.0 (at_least_map (λ j i f g. ⊎_elim (ack_from_lem ks a.1 c j i g) (λ z. z) (f g)) w.1))
        (a.0.write_ended_new c q u))

    pub read_why : (ks : List K) → Run ks → (c q : ℕ) (v : S) → ReadEnded ks c q v → Quorum (λ j. SentValue ks j c q v)
    read_why [] a c q v u = absurd (E.no_read_ended c q v u)
    read_why (k ∷ ks) a c q v u = at_least_map (λ j i f g. a.0.value_stays j c q v (f g)) (⊎_elim
        (λ o. read_why ks a.1 c q v o)
        (λ w. rw w.0 (at_least_map (λ j i f g. ⊎_elim (value_from_lem ks a.1 c j v i g) (λ z. z) (f g)) w.1))
        (a.0.read_ended_new c q v u))

    time_why : (ks : List K) → Run ks → (c q T : ℕ) → SentTime ks c q T → Quorum (λ j. (T' : ℕ) × (T' ≤ T) × SentStamp ks j c q T')
    time_why [] a c q T u = absurd (E.no_time c q T u)
    time_why (k ∷ ks) a c q T u = at_least_map (λ j i f g. let w = f g in (w.0, w.1, a.0.stamp_stays j c q w.0 w.2)) (⊎_elim
        (λ o. time_why ks a.1 c q T o)
        (λ w. rw w.0 (at_least_map (λ j i f g. let z = f g in (z.0, z.1, ⊎_elim (stamp_from_lem ks a.1 c j z.0 i g) (λ y. y) z.2)) w.1))
        (a.0.time_new c q T u))

    pub read_begun_lem : (ks : List K) → Run ks → (c q : ℕ) (v : S) → ReadEnded ks c q v → q ≤ reads ks c
    read_begun_lem [] a c q v u = absurd (E.no_read_ended c q v u)
    read_begun_lem (k ∷ ks) a c q v u =
        ⊎_elim (λ o. omega (arith, read_begun_lem ks a.1 c q v o, a.0.reads_up c)) (λ w. omega (arith, w.0, a.0.reads_up c)) (a.0.read_ended_new c q v u)

    module _ (F : Faults n t faulty_server) where
      -- ---- quorums

      -- a completed read has the initial stamp or that of an accepted write
      pub read_from : (ks : List K) → Run ks → (c q : ℕ) (v : S) → ReadEnded ks c q v → (v ≡ initial) ⊎ ((j : ℕ) × (faulty_server j ≡ false) × Written ks j v)
      read_from ks a c q v r =
          let (j, i, g, e) = quorum_member F (read_why ks a c q v r) in
          ⊎_elim (λ z. inl z) (λ z. inr (j, g, z)) (value_written ks a j c q v (e g)).1

      -- a write that ended was accepted by an honest server
      pub write_accepted : (ks : List K) → Run ks → (c q : ℕ) → WriteEnded ks c q → (j : ℕ) × (faulty_server j ≡ false) × (T : A) × Accepted ks j c q T
      write_accepted ks a c q r =
          let (j, i, g, e) = quorum_member F (write_why ks a c q r) in
          let (T, ac, low) = ack_accepted ks a j c q (e g) in
          (j, g, T, ac)

      -- ---- order in time: at the run ks₀ the first operation has ended, and the second, of an honest client, has not begun

      pub read_read : (ks₀ ks : List K) → Extends ks₀ ks → Run ks → (c q : ℕ) (v : S) (d p : ℕ) (w : S) → faulty_client d ≡ false
          → ReadEnded ks₀ c q v → reads ks₀ d < p → ReadEnded ks d p w → key v ≤ key w
      read_read ks₀ ks x a c q v d p w h r l s =
          let a₀ = run_before ks₀ ks x a in
          let (j, i, g, (e, f)) = quorums_meet F (read_why ks₀ a₀ c q v r) (read_why ks a d p w s) in
          omega (arith, (value_written ks₀ a₀ j c q v (e g)).0, value_above ks₀ ks x a j d p w h l (f g))

      -- agreement and validity of the times, from the broadcast
      module _ (Admissible : List K → Type 0)
          (agree : (ks : List K) → Admissible ks → (i j c q : ℕ) (T T' : A) → Accepted ks i c q T → Accepted ks j c q T' → T ≡ T')
          (valid : (ks : List K) → Admissible ks → (i c q : ℕ) (T : A) → faulty_client c ≡ false → Accepted ks i c q T → SentTime ks c q (sent T)) where
        write_above : (ks₀ ks : List K) → Extends ks₀ ks → Run ks → Admissible ks → (c q i : ℕ) (T : A) → WriteEnded ks₀ c q → Accepted ks i c q T
            → Quorum (λ j. key (stamped T c q) ≤ key (present ks₀ j))
        write_above ks₀ ks x a m c q i T r ac =
            let a₀ = run_before ks₀ ks x a in
            at_least_map (λ j is f g.
            let (T', ac', low) = ack_accepted ks₀ a₀ j c q (f g) in
            let same : T ≡ T' = agree ks m i j c q T T' ac (accepted_mono ks₀ ks x a j c q T' ac') in
            rw same low)
            (write_why ks₀ a₀ c q r)

        pub write_read : (ks₀ ks : List K) → Extends ks₀ ks → Run ks → Admissible ks → (c q i : ℕ) (T : A) (d p : ℕ) (w : S) → faulty_client d ≡ false
            → WriteEnded ks₀ c q → Accepted ks i c q T → reads ks₀ d < p → ReadEnded ks d p w → key (stamped T c q) ≤ key w
        write_read ks₀ ks x a m c q i T d p w h r ac l s =
            let (j, is, g, (e, f)) = quorums_meet F (write_above ks₀ ks x a m c q i T r ac) (read_why ks a d p w s) in
            omega (arith, e g, value_above ks₀ ks x a j d p w h l (f g))

        above : (ks₀ ks : List K) → Extends ks₀ ks → Run ks → Admissible ks → (v : S) → Quorum (λ j. key v ≤ key (present ks₀ j))
            → (i d p : ℕ) (T : A) → faulty_client d ≡ false → writes ks₀ d < p → Accepted ks i d p T → key v < key (stamped T d p)
        above ks₀ ks x a m v B i d p T h l ac =
            let (j, is, g, (e, f)) = quorums_meet F B (time_why ks a d p (sent T) (valid ks m i d p T h ac)) in
            let (T', le, u) = f g in
            go (dec_le (key (stamped T d p)) (key v)) (key_time _ _ (e g)) (time_above ks₀ ks x a j d p T' h l u) le
          where
            go : Dec (key (stamped T d p) ≤ key v) → {y T' : ℕ} → time v ≤ y → y ≤ T' → T' ≤ sent T → key v < key (stamped T d p)
            go (yes z) t1 low le = absurd (omega (arith, key_time _ _ z, time_stamped T d p))
            go (no z) t1 low le = omega arith

        pub read_write : (ks₀ ks : List K) → Extends ks₀ ks → Run ks → Admissible ks → (c q : ℕ) (v : S) (i d p : ℕ) (T : A) → faulty_client d ≡ false
            → ReadEnded ks₀ c q v → writes ks₀ d < p → Accepted ks i d p T → key v < key (stamped T d p)
        read_write ks₀ ks x a m c q v i d p T h r l ac =
            let a₀ = run_before ks₀ ks x a in
            above ks₀ ks x a m v (at_least_map (λ j is f g. (value_written ks₀ a₀ j c q v (f g)).0) (read_why ks₀ a₀ c q v r)) i d p T h l ac

        pub write_write : (ks₀ ks : List K) → Extends ks₀ ks → Run ks → Admissible ks → (c q i₁ : ℕ) (T₁ : A) (i d p : ℕ) (T : A) → faulty_client d ≡ false
            → WriteEnded ks₀ c q → Accepted ks i₁ c q T₁ → writes ks₀ d < p → Accepted ks i d p T → key (stamped T₁ c q) < key (stamped T d p)
        write_write ks₀ ks x a m c q i₁ T₁ i d p T h r ac₁ l ac =
            above ks₀ ks x a m (stamped T₁ c q) (write_above ks₀ ks x a m c q i₁ T₁ r ac₁) i d p T h l ac

        -- Reads with the same key have the same stamp, and so the same digest list: keys tell writes apart.
        pub one_stamp : ((a b : A) (c q d p : ℕ) → key (stamped a c q) ≡ key (stamped b d p) → (c ≡ d) × (q ≡ p))
            → ((a : A) (c q : ℕ) → key initial < key (stamped a c q))
            → (ks : List K) → Run ks → Admissible ks → (c q d p : ℕ) (v w : S) → ReadEnded ks c q v → ReadEnded ks d p w → key v ≡ key w → v ≡ w
        one_stamp inj pos ks a m c q d p v w r s e = go (read_from ks a c q v r) (read_from ks a d p w s)
          where
            go : (v ≡ initial) ⊎ ((j : ℕ) × (faulty_server j ≡ false) × Written ks j v)
                → (w ≡ initial) ⊎ ((j : ℕ) × (faulty_server j ≡ false) × Written ks j w) → v ≡ w
            go (inl x) (inl y) = x ∙ sym y
            go (inl x) (inr (j, g, (c, q, T, ac, y))) = absurd (omega (arith, ap key x, ap key y, e, pos T c q))
            go (inr (j, g, (c, q, T, ac, x))) (inl y) = absurd (omega (arith, ap key x, ap key y, e, pos T c q))
            go (inr (j, g, (c, q, T, ac, x))) (inr (j', g', (d, p, T', ac', y))) =
                let h = inj T T' c q d p (sym (ap key x) ∙ e ∙ ap key y) in
                let same : T ≡ T' = agree ks m j j' c q T T' ac (rw (h.0, h.1) ac') in
                cc (x, y, h.0, h.1, same)
