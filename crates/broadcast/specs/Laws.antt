-- What a run shows of one broadcast by echoes and readies, and what one call may do to it.
-- K is a call, and a run is the list of its calls, latest first. P is the payload: in the protocol a time with a digest list, the one instance
-- since request F-4; nothing here knows frames or areas. n - t echoes or few readies lead to a ready, all readies to a delivery.
-- Throughout i and j are servers, c is a client, s a sequence number, x a payload. Assumes nothing.
use Rattle.std.specs.Prelude.{ℕ, ◌-◌, ◌<◌, Bool, true, false, ◌≡◌, ◌⊎◌, List, [], ◌∷◌}
use Rattle.quorum.specs.Quorum.{Among}
use Rattle.quorum.proofs.Quorums.{AtLeast}

pub record Views (K P : Type 0) : Type 1 where
  -- the sequence of client c that is open at server i, and whether i has echoed for it
  pub sequence : List K → ℕ → ℕ → ℕ
  pub echoed : List K → ℕ → ℕ → Bool
  -- server i keeps of server j an echo, a ready, of x for client c's open sequence
  pub KeptEcho : List K → ℕ → ℕ → ℕ → P → Type 0
  pub KeptReady : List K → ℕ → ℕ → ℕ → P → Type 0
  -- server i sent an echo, a ready, of x for client c's write s
  pub SentEcho : List K → ℕ → ℕ → ℕ → P → Type 0
  pub SentReady : List K → ℕ → ℕ → ℕ → P → Type 0
  -- server i has delivered x for client c's open sequence
  pub Delivered : List K → ℕ → ℕ → P → Type 0
  -- server i accepted client c's write s with x
  pub Accepted : List K → ℕ → ℕ → ℕ → P → Type 0
  -- client c sent x for its write s
  pub ClientSent : List K → ℕ → ℕ → P → Type 0

module _ {K P : Type 0} (W : Views K P) (n t few all : ℕ) (faulty_server faulty_client : ℕ → Bool) where
  open W use {sequence, echoed, KeptEcho, KeptReady, SentEcho, SentReady, Delivered, Accepted, ClientSent}

  -- if server j is honest: server i keeps its echo, its ready, of x, or is being handed one that j sent
  abbrev pub HeardEcho : List K → ℕ → ℕ → P → ℕ → Type 0
  HeardEcho ks i c x j = faulty_server j ≡ false → KeptEcho ks i c j x ⊎ SentEcho ks j c (sequence ks i c) x

  abbrev pub HeardReady : List K → ℕ → ℕ → P → ℕ → Type 0
  HeardReady ks i c x j = faulty_server j ≡ false → KeptReady ks i c j x ⊎ SentReady ks j c (sequence ks i c) x

  -- the call k has server i echo x for client c's write s: the first time for its open sequence, and an honest client sent it
  pub record NewEcho (ks : List K) (k : K) (i c s : ℕ) (x : P) : Type 0 where
    pub current : s ≡ sequence ks i c
    pub first : echoed ks i c ≡ false
    pub then : ((sequence (k ∷ ks) i c ≡ sequence ks i c) × (echoed (k ∷ ks) i c ≡ true)) ⊎ (sequence ks i c < sequence (k ∷ ks) i c)
    pub sent : faulty_client c ≡ false → ClientSent ks c s x

  -- before the first call nothing was kept, sent or accepted
  pub record Fresh : Type 0 where
    pub no_kept_echo : (i c j : ℕ) (x : P) → KeptEcho [] i c j x → ⊥
    pub no_kept_ready : (i c j : ℕ) (x : P) → KeptReady [] i c j x → ⊥
    pub no_echo : (i c s : ℕ) (x : P) → SentEcho [] i c s x → ⊥
    pub no_ready : (i c s : ℕ) (x : P) → SentReady [] i c s x → ⊥
    pub no_delivered : (i c : ℕ) (x : P) → Delivered [] i c x → ⊥
    pub no_accepted : (i c s : ℕ) (x : P) → Accepted [] i c s x → ⊥

  -- What the call k may do after the calls ks.
  pub record Lawful (ks : List K) (k : K) : Type 0 where
    -- what was sent stays sent
    pub echo_stays : (i c s : ℕ) (x : P) → SentEcho ks i c s x → SentEcho (k ∷ ks) i c s x
    pub ready_stays : (i c s : ℕ) (x : P) → SentReady ks i c s x → SentReady (k ∷ ks) i c s x
    pub client_stays : (c s : ℕ) (x : P) → ClientSent ks c s x → ClientSent (k ∷ ks) c s x
    -- the open sequence stays, with the echo flag, or grows
    pub onward : (i c : ℕ)
        → ((sequence (k ∷ ks) i c ≡ sequence ks i c) × (echoed ks i c ≡ true → echoed (k ∷ ks) i c ≡ true)) ⊎ (sequence ks i c < sequence (k ∷ ks) i c)
    -- an echo is old or a first one, and one call echoes one payload
    pub echo_new : (i c s : ℕ) (x : P) → SentEcho (k ∷ ks) i c s x → SentEcho ks i c s x ⊎ NewEcho ks k i c s x
    pub echo_one : (i c s : ℕ) (x y : P) → SentEcho (k ∷ ks) i c s x → SentEcho (k ∷ ks) i c s y → (x ≡ y) ⊎ (SentEcho ks i c s x ⊎ SentEcho ks i c s y)
    -- what is kept of an honest server was kept before, or that server sent it
    pub echo_kept : (i c j : ℕ) (x : P) → Among n j → faulty_server j ≡ false → KeptEcho (k ∷ ks) i c j x
        → (sequence (k ∷ ks) i c ≡ sequence ks i c) × (KeptEcho ks i c j x ⊎ SentEcho ks j c (sequence ks i c) x)
    pub ready_kept : (i c j : ℕ) (x : P) → Among n j → faulty_server j ≡ false → KeptReady (k ∷ ks) i c j x
        → (sequence (k ∷ ks) i c ≡ sequence ks i c) × (KeptReady ks i c j x ⊎ SentReady ks j c (sequence ks i c) x)
    -- a ready is old, or follows n - t echoes or few readies
    pub ready_new : (i c s : ℕ) (x : P) → SentReady (k ∷ ks) i c s x
        → SentReady ks i c s x ⊎ ((s ≡ sequence ks i c) × (AtLeast n (n - t) (HeardEcho ks i c x) ⊎ AtLeast n few (HeardReady ks i c x)))
    -- a delivery, and an acceptance, is old or follows all readies
    pub delivered_new : (i c : ℕ) (x : P) → Delivered (k ∷ ks) i c x
        → (sequence (k ∷ ks) i c ≡ sequence ks i c) × (Delivered ks i c x ⊎ AtLeast n all (HeardReady ks i c x))
    pub accepted_new : (i c s : ℕ) (x : P) → Accepted (k ∷ ks) i c s x
        → Accepted ks i c s x ⊎ ((s ≡ sequence ks i c) × (Delivered ks i c x ⊎ AtLeast n all (HeardReady ks i c x)))

  -- all calls of the list are lawful
  pub data Run : List K → Type 0 where
    fresh : Run []
    call : {ks : List K} (k : K) → Lawful ks k → Run ks → Run (k ∷ ks)
