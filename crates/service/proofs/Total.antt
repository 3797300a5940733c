-- Totality: in a finished run a write that one honest server accepted was accepted by every honest server, or C.
-- Behind an acceptance are all readies, so few honest ones, and these have come to every honest server by now. So each of them sent a ready of its own, and
-- each has those of all honest servers, which are all that a delivery asks. A server that has come to this write then waits for nothing but that it may accept
-- it. That it has come to the write, and may accept it, rests on earlier acceptances: induction on the rank. Assumes nothing.
use Prim.Native.Nat.{ℕ, zero, suc, ◌-◌, ◌≤◌, ◌<◌}
use native.Mathlib.Omega.{arith}
use native.Mathlib.Decide.{dec_lt}
use mathlib.Core.Bool.{false}
use mathlib.Core.Path.{◌≡◌, refl, sym}
use mathlib.Core.Logic.{◌⊎◌, inl, inr, ⊎_elim}
use mathlib.Core.List.{List}
use Rattle.quorum.proofs.Quorums.{AtLeast, at_least_map, at_least_fewer, honest_servers, honest_part, honest_member}
use Rattle.broadcast.proofs.Agreement as B
use Rattle.service.specs.Final as S
use Rattle.service.specs.Final.{Protocol}
use Rattle.service.proofs.Folds.{all_honest}

module _ {K P : Type 0} (Q : Protocol K P) {ks : List K} {C : Type 0} (E : S.Ended Q ks C) where
  open Q use {n, t, few, all, faulty_server, faulty_client}
  open Q.views use {sequence, KeptEcho, KeptReady, SentEcho, SentReady, Accepted, ClientSent}
  open E.final use {Client, Backed, Below, Free, rank}

  abbrev Honest : ℕ → Type 0
  Honest = S.Correct Q

  abbrev I : B.Invariant Q.views n t few all faulty_server faulty_client ks
  I = E.invariant

  abbrev R : S.Final Q ks C
  R = E.final

  abbrev Support : ℕ → ℕ → P → Type 0
  Support = B.Support Q.views n t few all faulty_server faulty_client ks

  -- A for every honest server
  abbrev pub Each : (ℕ → Type 0) → Type 0
  Each A = (j : ℕ) → Honest j → A j

  pub gather : (A : ℕ → Type 0) → Each (λ j. A j ⊎ C) → Each A ⊎ C
  gather A = all_honest A n faulty_server

  pub by_honest : {A : ℕ → Type 0} → Each A → AtLeast n (n - t) A
  by_honest f = honest_servers E.faults (λ i is g. f i (is, g))

  -- ---- one payload a write

  pub most : t < all
  most = omega (arith, E.thresholds.some, E.thresholds.reach)

  agree : (c s : ℕ) (x y : P) → Support c s x → Support c s y → x ≡ y
  agree = B.supports_agree Q.views n t few all faulty_server faulty_client E.faults I

  pub one_ready : (i j c s : ℕ) (x y : P) → SentReady ks i c s x → SentReady ks j c s y → x ≡ y
  one_ready i j c s x y u v = agree c s x y (I.ready_supported i c s x u) (I.ready_supported j c s y v)

  pub one_accepted : (i j c s : ℕ) (x y : P) → Accepted ks i c s x → Accepted ks j c s y → x ≡ y
  one_accepted = B.accepted_agree Q.views n t few all faulty_server faulty_client E.faults I most

  -- what one honest server accepted, another that has passed it accepted
  passed_accepted : (i j c s : ℕ) (x : P) → Honest i → Honest j → Accepted ks i c s x → s < sequence ks j c → Accepted ks j c s x
  passed_accepted i j c s x hi hj u l =
      let (y, v) = R.passed j c s hj (R.of_client i c s x hi u) (R.from_one i c s x hi u) l in
      rw (one_accepted i j c s x y u v) v

  -- what an honest server sent for a sequence that an honest server has open is kept there
  pub kept_echo : (i j c : ℕ) (x : P) → Honest i → Honest j → SentEcho ks i c (sequence ks j c) x → KeptEcho ks j c i x
  kept_echo i j c x hi hj u =
      let (y, k) = R.echo_in i j c (sequence ks j c) x hi hj u refl in
      rw (I.echo_once i c (sequence ks j c) x y u (I.echo_heard j c i y hi.0 hi.1 k)) k

  kept_ready : (i j c : ℕ) (x : P) → Honest i → Honest j → SentReady ks i c (sequence ks j c) x → KeptReady ks j c i x
  kept_ready i j c x hi hj u =
      let (y, k) = R.ready_in i j c (sequence ks j c) x hi hj u refl in
      rw (one_ready i i c (sequence ks j c) x y u (I.ready_heard j c i y hi.0 hi.1 k)) k

  -- ---- a write to which every honest server has come, with a ready wherever it is open

  module _ (c s : ℕ) (x : P) (ic : Client c) (low : 1 ≤ s) (come : Each (λ j. s ≤ sequence ks j c)) (b : Backed x) (sup : Support c s x)
      (due : Each (λ j. s ≡ sequence ks j c → ((y : P) × SentReady ks j c (sequence ks j c) y) ⊎ C)) where
    ready_at_lem : (j : ℕ) → Honest j → SentReady ks j c s x ⊎ C
    ready_at_lem j h = go (dec_lt s (sequence ks j c))
      where
        of_this : (y : P) → SentReady ks j c s y → SentReady ks j c s x
        of_this y v = rw (agree c s x y sup (I.ready_supported j c s y v)) v

        go : Dec (s < sequence ks j c) → SentReady ks j c s x ⊎ C
        go (yes l) =
            let (z, a) = R.passed j c s h ic low l in
            let (y, v) = R.readied j c s z h a in
            inl (of_this y v)
        go (no l) =
            let e : s ≡ sequence ks j c = omega (arith, come j h) in
            ⊎_elim (λ w. inl (of_this w.0 (rw e w.1))) (λ z. inr z) (due j h e)

    -- each honest server sent its ready, so each has all of them, and accepted
    pub all_accept : Below x → Each (λ j. Free j x) → Each (λ j. (s < sequence ks j c) ⊎ C)
    all_accept l f j h = ⊎_elim (λ w. go w (dec_lt s (sequence ks j c))) (λ z. inr z) (gather (λ i. SentReady ks i c s x) ready_at_lem)
      where
        go : Each (λ i. SentReady ks i c s x) → Dec (s < sequence ks j c) → (s < sequence ks j c) ⊎ C
        go w (yes d) = inl d
        go w (no d) =
            let e : sequence ks j c ≡ s = omega (arith, come j h) in
            let kept : AtLeast n (n - t) (λ i. KeptReady ks j c i x) = by_honest (λ i hi. kept_ready i j c x hi h (rw e (w i hi))) in
            inr (R.not_done j c x h b l (f j h) (at_least_fewer (omega (arith, E.thresholds.room)) kept))

  -- a server that has passed the write before has come to this one
  pub come_after : (c s : ℕ) → Client c → ((p : ℕ) → suc p ≡ s → 1 ≤ p → Each (λ j. (p < sequence ks j c) ⊎ C)) → Each (λ j. s ≤ sequence ks j c) ⊎ C
  come_after c zero k f = inl (λ j h. omega arith)
  come_after c (suc zero) k f = inl (λ j h. R.begin j c h k)
  come_after c (suc (suc p)) k f = gather (λ j. suc (suc p) ≤ sequence ks j c) (f (suc p) refl (omega arith))

  -- ---- induction on the rank

  -- all acceptances of a rank below r have spread
  abbrev Spread : ℕ → Type 0
  Spread r = (i c s : ℕ) (x : P) → Honest i → (u : Accepted ks i c s x) → rank i c s x u < r → Each (λ j. (s < sequence ks j c) ⊎ C)

  before_spread : (i c s : ℕ) (x : P) → Honest i → (u : Accepted ks i c s x) → Spread (rank i c s x u)
      → (p : ℕ) → suc p ≡ s → 1 ≤ p → Each (λ j. (p < sequence ks j c) ⊎ C)
  before_spread i c zero x h u ih p e l j hj = absurd (omega arith)
  before_spread i c (suc q) x h u ih p e l j hj =
      let d : p ≡ q = omega arith in
      let (y, v, k) = R.before i c q x h u (omega arith) in
      rw d (ih i c q y h v (omega (arith, k)) j hj)

  -- where the write that x waits for has spread, each honest server may accept x
  free_by_lem : (r : ℕ) (x : P) → Spread r → S.Freed Q ks rank Free r x → Each (λ j. Free j x) ⊎ C
  free_by_lem r x ih (inl f) = inl f
  free_by_lem r x ih (inr g) = gather (λ j. Free j x) (λ j h. ⊎_elim
      (λ l. inl (g.has j h (passed_accepted g.i j g.c g.s g.y g.honest h g.accepted l)))
      (λ z. inr z)
      (ih g.i g.c g.s g.y g.honest g.accepted (omega (arith, g.below)) j h))

  module _ (i c s : ℕ) (x : P) (h : Honest i) (u : Accepted ks i c s x) where
    readies : B.Readies Q.views n t few all faulty_server faulty_client ks c s x
    readies = I.accepted_readies i c s x u

    backed : Backed x
    backed = let (k, is, g, f) = honest_member E.faults (at_least_fewer most readies) in R.ready_backed k c s x (is, g) (f g)

    due_by_readies : (k : ℕ) → Honest k → s ≡ sequence ks k c → ((y : P) × SentReady ks k c (sequence ks k c) y) ⊎ C
    due_by_readies k hk e =
        let honest : AtLeast n few (λ m. (faulty_server m ≡ false) × SentReady ks m c s x) =
        honest_part E.faults (omega (arith, E.thresholds.reach)) readies in
        R.ready_of_readies k c x hk backed (at_least_map (λ m is z. kept_ready m k c x (is, z.0) hk (rw (sym e) z.1)) honest)

    spread_step : Spread (rank i c s x u) → Each (λ j. (s < sequence ks j c) ⊎ C)
    spread_step ih j hj = go (come_after c s (R.of_client i c s x h u) (before_spread i c s x h u ih)) (free_by_lem (rank i c s x u) x ih (R.freed i c s x h u))
      where
        go : Each (λ k. s ≤ sequence ks k c) ⊎ C → Each (λ k. Free k x) ⊎ C → (s < sequence ks j c) ⊎ C
        go (inr z) f = inr z
        go (inl m) (inr z) = inr z
        go (inl m) (inl f) = all_accept c s x (R.of_client i c s x h u) (R.from_one i c s x h u) m backed
            (B.accepted_supported Q.views n t few all faulty_server faulty_client E.faults I most i c s x u)
            due_by_readies (R.accepted_below i c s x h u) f j hj

  spread_to : (r : ℕ) → Spread r
  spread_to zero i c s x h u l = absurd (omega arith)
  spread_to (suc r) i c s x h u l = spread_step i c s x h u (λ i' c' s' y h' v l'. spread_to r i' c' s' y h' v (omega arith))

  -- each honest server may accept what waits for acceptances only
  pub free_now : (r : ℕ) (x : P) → S.Freed Q ks rank Free r x → Each (λ j. Free j x) ⊎ C
  free_now r x = free_by_lem r x (spread_to r)

  -- ---- totality

  pub total : (i c s : ℕ) (x : P) → Honest i → Accepted ks i c s x → (j : ℕ) → Honest j → (s < sequence ks j c) ⊎ C
  total i c s x h u = spread_to (suc (rank i c s x u)) i c s x h u (omega arith)

  -- the same, as acceptances with this payload
  pub accepted_by_all : (i c s : ℕ) (x : P) → Honest i → Accepted ks i c s x → ((j : ℕ) → Honest j → Accepted ks j c s x) ⊎ C
  accepted_by_all i c s x h u = gather (λ j. Accepted ks j c s x)
      (λ j hj. ⊎_elim (λ l. inl (passed_accepted i j c s x h hj u l)) (λ z. inr z) (total i c s x h u j hj))
