-- What a finished run shows of a broadcast by echoes and readies: each frame between honest servers has come, and no honest server has left undone what its
-- kept frames call for. Nothing here knows frames, areas or times; K, P, the views and the letters i, j, c, s, x are those of `broadcast`. Assumes nothing.
use Rattle.std.specs.Prelude.{ℕ, suc, ◌+◌, ◌-◌, ◌≤◌, ◌<◌, Bool, false, ◌≡◌, ◌⊎◌, List}
use Rattle.quorum.specs.Quorum.{Among, Faults}
use Rattle.quorum.proofs.Quorums.{AtLeast}
use Rattle.broadcast.specs.Laws.{Views}
use Rattle.broadcast.proofs.Agreement.{Invariant}

-- The broadcast at hand: its views, n servers of which t may be false, how many readies lead to a ready, how many to a delivery, and who is
-- false.
pub record Protocol (K P : Type 0) : Type 1 where
  pub views : Views K P
  pub n : ℕ
  pub t : ℕ
  pub few : ℕ
  pub all : ℕ
  pub faulty_server : ℕ → Bool
  pub faulty_client : ℕ → Bool

module _ {K P : Type 0} (Q : Protocol K P) where
  open Q use {n, t, few, all, faulty_server, faulty_client}
  open Q.views use {sequence, KeptEcho, KeptReady, SentEcho, SentReady, Accepted, ClientSent}

  -- few is at least 1; of all readies at least few are of honest servers; and the n - t honest servers are enough for all
  pub record Thresholds : Type 0 where
    pub some : 1 ≤ few
    pub reach : few + t ≤ all
    pub room : all + t ≤ n

  -- j is one of the servers 1 to n, and honest
  abbrev pub Correct : ℕ → Type 0
  Correct j = Among n j × (faulty_server j ≡ false)

  -- ---- what an acceptance waits for

  -- `rank` goes by the order of the acceptances in the run ks.
  module _ (ks : List K) (rank : (i c s : ℕ) (x : P) → Accepted ks i c s x → ℕ) where
    -- an honest server's acceptance of a rank below r, with A
    pub record Earlier (r : ℕ) (A : ℕ → ℕ → P → Type 0) : Type 0 where
      pub i : ℕ
      pub c : ℕ
      pub s : ℕ
      pub y : P
      pub honest : Correct i
      pub accepted : Accepted ks i c s y
      pub below : rank i c s y accepted < r
      pub has : A c s y

    -- Free j x says that server j may accept x in its present state: each honest server may, or each may that accepted a certain write of a rank below r.
    abbrev pub Freed : (ℕ → P → Type 0) → ℕ → P → Type 0
    Freed Free r x = ((j : ℕ) → Correct j → Free j x) ⊎ Earlier r (λ c s y. (j : ℕ) → Correct j → Accepted ks j c s y → Free j x)

  -- ---- a finished run

  -- C is what else may have happened: two blocks with one digest.
  pub record Final (ks : List K) (C : Type 0) : Type 1 where
    -- c is a client; x is of a value; x is of those that can be accepted; server j may accept x in its present state
    pub Client : ℕ → Type 0
    pub Backed : P → Type 0
    pub Below : P → Type 0
    pub Free : ℕ → P → Type 0
    -- frames have come: where their sequence is open still, one was counted
    pub send_in : (c j s : ℕ) (x : P) → faulty_client c ≡ false → Correct j → ClientSent ks c s x → s ≡ sequence ks j c → (y : P) × SentEcho ks j c s y
    pub echo_in : (i j c s : ℕ) (x : P) → Correct i → Correct j → SentEcho ks i c s x → s ≡ sequence ks j c → (y : P) × KeptEcho ks j c i y
    pub ready_in : (i j c s : ℕ) (x : P) → Correct i → Correct j → SentReady ks i c s x → s ≡ sequence ks j c → (y : P) × KeptReady ks j c i y
    -- nothing is left due
    pub ready_of_echoes : (j c : ℕ) (x : P) → Correct j → Backed x → AtLeast n (n - t) (λ i. KeptEcho ks j c i x)
        → ((y : P) × SentReady ks j c (sequence ks j c) y) ⊎ C
    pub ready_of_readies : (j c : ℕ) (x : P) → Correct j → Backed x → AtLeast n few (λ i. KeptReady ks j c i x)
        → ((y : P) × SentReady ks j c (sequence ks j c) y) ⊎ C
    pub not_done : (j c : ℕ) (x : P) → Correct j → Backed x → Below x → Free j x → AtLeast n all (λ i. KeptReady ks j c i x) → C
    -- an honest client sends one payload for a write, and an honest server's ready is of a value
    pub sent_once : (c s : ℕ) (x y : P) → faulty_client c ≡ false → ClientSent ks c s x → ClientSent ks c s y → x ≡ y
    pub ready_backed : (i c s : ℕ) (x : P) → Correct i → SentReady ks i c s x → Backed x
    -- sequences begin with 1, and those passed were accepted
    pub begin : (j c : ℕ) → Correct j → Client c → 1 ≤ sequence ks j c
    pub passed : (j c s : ℕ) → Correct j → Client c → 1 ≤ s → s < sequence ks j c → (x : P) × Accepted ks j c s x
    -- an acceptance is of a client's write, from 1 on, of a payload that can be accepted, and the server had sent a ready
    pub of_client : (i c s : ℕ) (x : P) → Correct i → Accepted ks i c s x → Client c
    pub from_one : (i c s : ℕ) (x : P) → Correct i → Accepted ks i c s x → 1 ≤ s
    pub accepted_below : (i c s : ℕ) (x : P) → Correct i → Accepted ks i c s x → Below x
    pub readied : (i c s : ℕ) (x : P) → Correct i → Accepted ks i c s x → (y : P) × SentReady ks i c s y
    -- a client's writes are accepted in order, each when the server may
    pub rank : (i c s : ℕ) (x : P) → Accepted ks i c s x → ℕ
    pub before : (i c s : ℕ) (x : P) → Correct i → (u : Accepted ks i c (suc s) x) → 1 ≤ s
        → (y : P) × (v : Accepted ks i c s y) × (rank i c s y v < rank i c (suc s) x u)
    pub freed : (i c s : ℕ) (x : P) → Correct i → (u : Accepted ks i c s x) → Freed ks rank Free (rank i c s x u) x

  -- a run of lawful calls that is finished, with at most t false servers
  pub record Ended (ks : List K) (C : Type 0) : Type 1 where
    pub faults : Faults n t faulty_server
    pub thresholds : Thresholds
    pub invariant : Invariant Q.views n t few all faulty_server faulty_client ks
    pub final : Final ks C
