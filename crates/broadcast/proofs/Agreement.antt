-- Agreement and validity of a broadcast, in every run of lawful calls.
-- An honest server echoes one payload for a write. So each ready of x by an honest server is supported: n - t servers, of which the honest ones echoed x.
-- (The first ready follows n - t echoes; a later one may follow few readies, one of which is an honest server's and supported already.) Before
-- a delivery and an acceptance come all readies, more than t, so they are supported, too. Two supports share an honest server, which echoed
-- once: agreement. A support has an honest server, which echoed what it had from the client: validity. Assumes nothing.
use Prim.Native.Nat.{ℕ, ◌-◌, ◌<◌}
use native.Mathlib.Omega.{arith}
use mathlib.Core.Bool.{Bool, true, false}
use mathlib.Core.Path.{◌≡◌, sym, ◌∙◌}
use mathlib.Core.Logic.{◌⊎◌, inl, inr, ⊎_elim}
use mathlib.Core.List.{List, ◌∷◌}
use Rattle.quorum.specs.Quorum.{Among, Faults}
use Rattle.quorum.proofs.Logic.{impossible}
use Rattle.quorum.proofs.Quorums.{AtLeast, at_least_map, at_least_fewer, honest_member, quorums_meet, quorum_member}
use Rattle.broadcast.specs.Laws as L
use Rattle.broadcast.specs.Laws.{Views}

module _ {K P : Type 0} (W : Views K P) (n t few all : ℕ) (faulty_server faulty_client : ℕ → Bool) where
  open W use {sequence, echoed, KeptEcho, KeptReady, SentEcho, SentReady, Delivered, Accepted, ClientSent}

  abbrev HeardEcho : List K → ℕ → ℕ → P → ℕ → Type 0
  HeardEcho = L.HeardEcho W n t few all faulty_server faulty_client

  abbrev HeardReady : List K → ℕ → ℕ → P → ℕ → Type 0
  HeardReady = L.HeardReady W n t few all faulty_server faulty_client

  abbrev Lawful : List K → K → Type 0
  Lawful = L.Lawful W n t few all faulty_server faulty_client

  abbrev Run : List K → Type 0
  Run = L.Run W n t few all faulty_server faulty_client

  -- n - t servers, of which the honest ones echoed x
  abbrev pub Support : List K → ℕ → ℕ → P → Type 0
  Support ks c s x = AtLeast n (n - t) (λ j. faulty_server j ≡ false → SentEcho ks j c s x)

  -- all readies: servers of which the honest ones sent a ready of x
  abbrev pub Readies : List K → ℕ → ℕ → P → Type 0
  Readies ks c s x = AtLeast n all (λ j. faulty_server j ≡ false → SentReady ks j c s x)

  -- an echo of s is of a sequence that is closed, or of the open one with its flag set
  abbrev Past : List K → ℕ → ℕ → ℕ → Type 0
  Past ks i c s = (s < sequence ks i c) ⊎ ((s ≡ sequence ks i c) × (echoed ks i c ≡ true))

  pub record Invariant (ks : List K) : Type 0 where
    pub echo_past : (i c s : ℕ) (x : P) → SentEcho ks i c s x → Past ks i c s
    pub echo_once : (i c s : ℕ) (x y : P) → SentEcho ks i c s x → SentEcho ks i c s y → x ≡ y
    pub echo_heard : (i c j : ℕ) (x : P) → Among n j → faulty_server j ≡ false → KeptEcho ks i c j x → SentEcho ks j c (sequence ks i c) x
    pub ready_heard : (i c j : ℕ) (x : P) → Among n j → faulty_server j ≡ false → KeptReady ks i c j x → SentReady ks j c (sequence ks i c) x
    pub ready_supported : (i c s : ℕ) (x : P) → SentReady ks i c s x → Support ks c s x
    pub delivered_readies : (i c : ℕ) (x : P) → Delivered ks i c x → Readies ks c (sequence ks i c) x
    pub accepted_readies : (i c s : ℕ) (x : P) → Accepted ks i c s x → Readies ks c s x
    pub echo_valid : (i c s : ℕ) (x : P) → faulty_client c ≡ false → SentEcho ks i c s x → ClientSent ks c s x

  -- ---- what the invariant gives

  module _ (F : Faults n t faulty_server) {ks : List K} (I : Invariant ks) where
    -- supports of one write are of one payload
    pub supports_agree : (c s : ℕ) (x y : P) → Support ks c s x → Support ks c s y → x ≡ y
    supports_agree c s x y a b =
        let (h, is, g, f) = quorums_meet F a b in
        I.echo_once h c s x y (f.0 g) (f.1 g)

    module _ (most : t < all) where
      pub readies_supported : (c s : ℕ) (x : P) → Readies ks c s x → Support ks c s x
      readies_supported c s x e =
          let (j, is, g, f) = honest_member F (at_least_fewer most e) in
          I.ready_supported j c s x (f g)

      pub accepted_supported : (i c s : ℕ) (x : P) → Accepted ks i c s x → Support ks c s x
      accepted_supported i c s x u = readies_supported c s x (I.accepted_readies i c s x u)

      pub accepted_agree : (i j c s : ℕ) (x y : P) → Accepted ks i c s x → Accepted ks j c s y → x ≡ y
      accepted_agree i j c s x y u v = supports_agree c s x y (accepted_supported i c s x u) (accepted_supported j c s y v)

  -- ---- the invariant holds of every run

  module _ (F : Faults n t faulty_server) (more : t < few) (ks : List K) (k : K) (M : Lawful ks k) (I : Invariant ks) where
    support_stays : (c s : ℕ) (x : P) → Support ks c s x → Support (k ∷ ks) c s x
    support_stays c s x = at_least_map (λ j i f g. M.echo_stays j c s x (f g))

    by_echoes : (i c : ℕ) (x : P) → AtLeast n (n - t) (HeardEcho ks i c x) → Support ks c (sequence ks i c) x
    by_echoes i c x = at_least_map (λ j is f g. ⊎_elim (I.echo_heard i c j x is g) (λ u. u) (f g))

    -- m readies that server i heard of honest servers were sent
    heard : (i c m : ℕ) (x : P) → AtLeast n m (HeardReady ks i c x) → AtLeast n m (λ j. faulty_server j ≡ false → SentReady ks j c (sequence ks i c) x)
    heard i c m x = at_least_map (λ j is f g. ⊎_elim (I.ready_heard i c j x is g) (λ u. u) (f g))

    by_readies : (i c : ℕ) (x : P) → AtLeast n few (HeardReady ks i c x) → Support ks c (sequence ks i c) x
    by_readies i c x e =
        let (j, is, g, f) = honest_member F (at_least_fewer more (heard i c few x e)) in
        I.ready_supported j c (sequence ks i c) x (f g)

    readies_stay : (c s : ℕ) (x : P) → Readies ks c s x → Readies (k ∷ ks) c s x
    readies_stay c s x = at_least_map (λ j i f g. M.ready_stays j c s x (f g))

    next_past : (i c s : ℕ) (x : P) → SentEcho (k ∷ ks) i c s x → Past (k ∷ ks) i c s
    next_past i c s x u = ⊎_elim
        (λ old. ⊎_elim
        (λ on. ⊎_elim (λ l. inl (omega arith)) (λ e. inr (e.0 ∙ sym on.0, on.1 e.1)) (I.echo_past i c s x old))
        (λ on. ⊎_elim (λ l. inl (omega arith)) (λ e. inl (omega arith)) (I.echo_past i c s x old))
        (M.onward i c))
        (λ w. ⊎_elim (λ z. inr (w.current ∙ sym z.0, z.1)) (λ z. inl (omega (arith, w.current))) w.then)
        (M.echo_new i c s x u)

    -- two echoes of which the first is older are of one payload
    once_old : (i c s : ℕ) (x y : P) → SentEcho ks i c s x → SentEcho (k ∷ ks) i c s y → x ≡ y
    once_old i c s x y u v = ⊎_elim
        (λ old. I.echo_once i c s x y u old)
        (λ w. ⊎_elim (λ l. absurd (omega (arith, w.current))) (λ e. impossible (cc (w.first, e.1))) (I.echo_past i c s x u))
        (M.echo_new i c s y v)

    next_once : (i c s : ℕ) (x y : P) → SentEcho (k ∷ ks) i c s x → SentEcho (k ∷ ks) i c s y → x ≡ y
    next_once i c s x y u v = ⊎_elim (λ e. e) (⊎_elim (λ a. once_old i c s x y a v) (λ b. sym (once_old i c s y x b u))) (M.echo_one i c s x y u v)

    next_heard_echo : (i c j : ℕ) (x : P) → Among n j → faulty_server j ≡ false → KeptEcho (k ∷ ks) i c j x → SentEcho (k ∷ ks) j c (sequence (k ∷ ks) i c) x
    next_heard_echo i c j x is g u =
        let w = M.echo_kept i c j x is g u in
        rw w.0 (M.echo_stays j c (sequence ks i c) x (⊎_elim (I.echo_heard i c j x is g) (λ z. z) w.1))

    next_heard_ready : (i c j : ℕ) (x : P) → Among n j → faulty_server j ≡ false → KeptReady (k ∷ ks) i c j x
        → SentReady (k ∷ ks) j c (sequence (k ∷ ks) i c) x
    next_heard_ready i c j x is g u =
        let w = M.ready_kept i c j x is g u in
        rw w.0 (M.ready_stays j c (sequence ks i c) x (⊎_elim (I.ready_heard i c j x is g) (λ z. z) w.1))

    next_ready : (i c s : ℕ) (x : P) → SentReady (k ∷ ks) i c s x → Support (k ∷ ks) c s x
    next_ready i c s x u = support_stays c s x (⊎_elim
        (I.ready_supported i c s x)
        (λ w. rw w.0 (⊎_elim (by_echoes i c x) (by_readies i c x) w.1))
        (M.ready_new i c s x u))

    next_delivered : (i c : ℕ) (x : P) → Delivered (k ∷ ks) i c x → Readies (k ∷ ks) c (sequence (k ∷ ks) i c) x
    next_delivered i c x u =
        let w = M.delivered_new i c x u in
        rw w.0 (readies_stay c (sequence ks i c) x (⊎_elim (I.delivered_readies i c x) (heard i c all x) w.1))

    next_accepted : (i c s : ℕ) (x : P) → Accepted (k ∷ ks) i c s x → Readies (k ∷ ks) c s x
    next_accepted i c s x u = readies_stay c s x (⊎_elim
        (I.accepted_readies i c s x)
        (λ w. rw w.0 (⊎_elim (I.delivered_readies i c x) (heard i c all x) w.1))
        (M.accepted_new i c s x u))

    next : Invariant (k ∷ ks)
    next = record {
      echo_past = next_past;
      echo_once = next_once;
      echo_heard = next_heard_echo;
      ready_heard = next_heard_ready;
      ready_supported = next_ready;
      delivered_readies = next_delivered;
      accepted_readies = next_accepted;
      echo_valid = λ i c s x h u. M.client_stays c s x (⊎_elim (I.echo_valid i c s x h) (λ w. w.sent h) (M.echo_new i c s x u));
    }

  module _ (F : Faults n t faulty_server) (more : t < few) (most : t < all) (E : L.Fresh W n t few all faulty_server faulty_client) where
    pub invariant : {ks : List K} → Run ks → Invariant ks
    invariant L.fresh = record {
      echo_past = λ i c s x u. absurd (E.no_echo i c s x u);
      echo_once = λ i c s x y u v. absurd (E.no_echo i c s x u);
      echo_heard = λ i c j x is g u. absurd (E.no_kept_echo i c j x u);
      ready_heard = λ i c j x is g u. absurd (E.no_kept_ready i c j x u);
      ready_supported = λ i c s x u. absurd (E.no_ready i c s x u);
      delivered_readies = λ i c x u. absurd (E.no_delivered i c x u);
      accepted_readies = λ i c s x u. absurd (E.no_accepted i c s x u);
      echo_valid = λ i c s x h u. absurd (E.no_echo i c s x u);
    }
    invariant (L.call {ks} k M r) = next F more ks k M (invariant r)

    -- what an honest server accepts is supported
    pub supported : {ks : List K} → Run ks → (i c s : ℕ) (x : P) → Accepted ks i c s x → Support ks c s x
    supported r = accepted_supported F (invariant r) most

    -- all honest servers accept a write with one payload
    pub agreement : {ks : List K} → Run ks → (i j c s : ℕ) (x y : P) → Accepted ks i c s x → Accepted ks j c s y → x ≡ y
    agreement r = accepted_agree F (invariant r) most

    -- and an honest client's write with the payload that it sent
    pub validity : {ks : List K} → Run ks → (i c s : ℕ) (x : P) → faulty_client c ≡ false → Accepted ks i c s x → ClientSent ks c s x
    validity r i c s x h u =
        let (j, is, g, f) = quorum_member F (supported r i c s x u) in
        (invariant r).echo_valid j c s x h (f g)
