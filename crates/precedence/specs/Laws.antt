-- What a run shows of stamps, reads and writes, and what one call may do to it.
-- K is a call, and a run is the list of its calls, latest first. S is a stamp with what else a value carries (its digest list). A is what a server
-- accepts a write with: the time that the client sent, and what else the broadcasts agree on. Nothing here knows frames or areas.
-- Throughout j is a server, c a client, q the number of its read or write, T a time. Assumes nothing.
use Rattle.std.specs.Prelude.{ℕ, suc, ◌-◌, ◌≤◌, ◌<◌, Bool, true, false, ◌≡◌, ◌⊎◌, List, [], ◌∷◌}
use Rattle.quorum.specs.Quorum.{Among}
use Rattle.quorum.proofs.Quorums.{AtLeast}

-- Stamps are compared by a key, a number that grows with the time.
pub record Stamps (A S : Type 0) : Type 0 where
  pub key : S → ℕ
  pub time : S → ℕ
  -- the stamp before any write, and the one of client c's write q, whose time is the sent one plus one
  pub initial : S
  pub sent : A → ℕ
  pub stamped : A → ℕ → ℕ → S
  pub key_time : (x y : S) → key x ≤ key y → time x ≤ time y
  pub time_stamped : (a : A) (c q : ℕ) → time (stamped a c q) ≡ suc (sent a)

pub record Views (K A S : Type 0) : Type 1 where
  -- server j: its present stamp; of client c whether it listens, its newest read, and the key of the stamp noted for it
  pub present : List K → ℕ → S
  pub listening : List K → ℕ → ℕ → Bool
  pub newest : List K → ℕ → ℕ → ℕ
  pub noted : List K → ℕ → ℕ → ℕ
  -- client c: how many reads and writes it began
  pub reads : List K → ℕ → ℕ
  pub writes : List K → ℕ → ℕ
  -- server j sent client c an ack, a value with the stamp v, a stamp with the time T, for its operation q
  pub SentAck : List K → ℕ → ℕ → ℕ → Type 0
  pub SentValue : List K → ℕ → ℕ → ℕ → S → Type 0
  pub SentStamp : List K → ℕ → ℕ → ℕ → ℕ → Type 0
  -- client c sent a read, a get-stamp, the time T, for its operation q
  pub SentRead : List K → ℕ → ℕ → Type 0
  pub SentGetStamp : List K → ℕ → ℕ → Type 0
  pub SentTime : List K → ℕ → ℕ → ℕ → Type 0
  -- client c has counted of server j, for its open operation, an ack, a value, a stamp
  pub KeptAck : List K → ℕ → ℕ → Type 0
  pub KeptValue : List K → ℕ → ℕ → S → Type 0
  pub KeptStamp : List K → ℕ → ℕ → ℕ → Type 0
  -- server j accepted client c's write q; that write has ended; client c's read q has ended with the stamp v
  pub Accepted : List K → ℕ → ℕ → ℕ → A → Type 0
  pub WriteEnded : List K → ℕ → ℕ → Type 0
  pub ReadEnded : List K → ℕ → ℕ → S → Type 0

-- the run ks₀ is where the run ks once was
abbrev pub Extends : {K : Type 0} → List K → List K → Type 0
Extends ks₀ [] = ks₀ ≡ []
Extends ks₀ (k ∷ ks) = (ks₀ ≡ k ∷ ks) ⊎ Extends ks₀ ks

module _ {K A S : Type 0} (Z : Stamps A S) (W : Views K A S) (n t : ℕ) (faulty_server faulty_client : ℕ → Bool) where
  open Z use {key, time, initial, stamped}
  open W use {present, listening, newest, noted, reads, writes, SentAck, SentValue, SentStamp, SentRead, SentGetStamp, SentTime}
  open W use {KeptAck, KeptValue, KeptStamp, Accepted, WriteEnded, ReadEnded}

  -- server j accepted a write with the stamp v
  abbrev pub Written : List K → ℕ → S → Type 0
  Written ks j v = (c q : ℕ) × (T : A) × Accepted ks j c q T × (v ≡ stamped T c q)

  -- the call k has server j send a listener the value of a write that it accepts
  pub record ToListener (ks : List K) (k : K) (j c q : ℕ) (v : S) : Type 0 where
    pub current : newest ks j c ≡ q
    pub listens : listening ks j c ≡ true
    pub above : noted ks j c < key v
    pub below : key v ≤ key (present (k ∷ ks) j)
    pub written : Written (k ∷ ks) j v

  -- n - t servers, of which the honest ones have Q
  abbrev pub Quorum : (ℕ → Type 0) → Type 0
  Quorum Q = AtLeast n (n - t) (λ j. faulty_server j ≡ false → Q j)

  -- What the call k may do after the calls ks.
  pub record Lawful (ks : List K) (k : K) : Type 0 where
    -- stamps and numbers do not fall, and what was sent or accepted stays so
    pub present_up : (j : ℕ) → key (present ks j) ≤ key (present (k ∷ ks) j)
    pub reads_up : (c : ℕ) → reads ks c ≤ reads (k ∷ ks) c
    pub writes_up : (c : ℕ) → writes ks c ≤ writes (k ∷ ks) c
    pub ack_stays : (j c q : ℕ) → SentAck ks j c q → SentAck (k ∷ ks) j c q
    pub value_stays : (j c q : ℕ) (v : S) → SentValue ks j c q v → SentValue (k ∷ ks) j c q v
    pub stamp_stays : (j c q T : ℕ) → SentStamp ks j c q T → SentStamp (k ∷ ks) j c q T
    pub accepted_stays : (j c q : ℕ) (T : A) → Accepted ks j c q T → Accepted (k ∷ ks) j c q T
    -- a server acks what it accepts, and then holds its stamp or a larger one
    pub ack_new : (j c q : ℕ) → SentAck (k ∷ ks) j c q
        → SentAck ks j c q ⊎ ((T : A) × Accepted (k ∷ ks) j c q T × (key (stamped T c q) ≤ key (present (k ∷ ks) j)))
    -- it answers a read with its present value, and a listener with a value above the noted stamp
    pub value_new : (j c q : ℕ) (v : S) → SentValue (k ∷ ks) j c q v
        → SentValue ks j c q v ⊎ (((faulty_client c ≡ false → SentRead ks c q) × (v ≡ present ks j)) ⊎ ToListener ks k j c q v)
    -- it answers a get-stamp with its present time
    pub stamp_new : (j c q T : ℕ) → SentStamp (k ∷ ks) j c q T
        → SentStamp ks j c q T ⊎ ((faulty_client c ≡ false → SentGetStamp ks c q) × (T ≡ time (present ks j)))
    -- it notes a read with its present stamp
    pub noting : (j c : ℕ) → listening (k ∷ ks) j c ≡ true
        → ((listening ks j c ≡ true) × (newest (k ∷ ks) j c ≡ newest ks j c) × (noted (k ∷ ks) j c ≡ noted ks j c))
        ⊎ ((faulty_client c ≡ false → SentRead ks c (newest (k ∷ ks) j c)) × (noted (k ∷ ks) j c ≡ key (present ks j)))
    -- its present stamp changes to that of a write it accepts
    pub present_new : (j : ℕ) → (present (k ∷ ks) j ≡ present ks j) ⊎ Written (k ∷ ks) j (present (k ∷ ks) j)
    -- a client sends no read and no get-stamp of a number that it has not begun
    pub read_new : (c q : ℕ) → SentRead (k ∷ ks) c q → SentRead ks c q ⊎ (q ≤ reads (k ∷ ks) c)
    pub get_stamp_new : (c q : ℕ) → SentGetStamp (k ∷ ks) c q → SentGetStamp ks c q ⊎ (q ≤ writes (k ∷ ks) c)
    -- what it counts of an honest server was sent for the open operation
    pub ack_kept : (c j : ℕ) → Among n j → faulty_server j ≡ false → KeptAck (k ∷ ks) c j
        → (writes (k ∷ ks) c ≡ writes ks c) × (KeptAck ks c j ⊎ SentAck ks j c (writes ks c))
    pub stamp_kept : (c j T : ℕ) → Among n j → faulty_server j ≡ false → KeptStamp (k ∷ ks) c j T
        → (writes (k ∷ ks) c ≡ writes ks c) × (KeptStamp ks c j T ⊎ SentStamp ks j c (writes ks c) T)
    pub value_kept : (c j : ℕ) (v : S) → Among n j → faulty_server j ≡ false → KeptValue (k ∷ ks) c j v
        → (reads (k ∷ ks) c ≡ reads ks c) × (KeptValue ks c j v ⊎ SentValue ks j c (reads ks c) v)
    -- it sends a time that is at least each of n - t stamps, ends a write at n - t acks, and a read at n - t values of one stamp
    pub time_new : (c q T : ℕ) → SentTime (k ∷ ks) c q T
        → SentTime ks c q T ⊎ ((q ≡ writes ks c) × Quorum (λ j. (T' : ℕ) × (T' ≤ T) × (KeptStamp ks c j T' ⊎ SentStamp ks j c (writes ks c) T')))
    pub write_ended_new : (c q : ℕ) → WriteEnded (k ∷ ks) c q
        → WriteEnded ks c q ⊎ ((q ≡ writes ks c) × Quorum (λ j. KeptAck ks c j ⊎ SentAck ks j c (writes ks c)))
    pub read_ended_new : (c q : ℕ) (v : S) → ReadEnded (k ∷ ks) c q v
        → ReadEnded ks c q v ⊎ ((q ≡ reads ks c) × Quorum (λ j. KeptValue ks c j v ⊎ SentValue ks j c (reads ks c) v))

  -- before the first call: initial stamps, no listener, nothing sent, kept or ended
  pub record Fresh : Type 0 where
    pub initial_stamp : (j : ℕ) → present [] j ≡ initial
    pub no_listener : (j c : ℕ) → listening [] j c ≡ false
    pub no_ack : (j c q : ℕ) → SentAck [] j c q → ⊥
    pub no_value : (j c q : ℕ) (v : S) → SentValue [] j c q v → ⊥
    pub no_stamp : (j c q T : ℕ) → SentStamp [] j c q T → ⊥
    pub no_read : (c q : ℕ) → SentRead [] c q → ⊥
    pub no_get_stamp : (c q : ℕ) → SentGetStamp [] c q → ⊥
    pub no_time : (c q T : ℕ) → SentTime [] c q T → ⊥
    pub no_kept_ack : (c j : ℕ) → KeptAck [] c j → ⊥
    pub no_kept_value : (c j : ℕ) (v : S) → KeptValue [] c j v → ⊥
    pub no_kept_stamp : (c j T : ℕ) → KeptStamp [] c j T → ⊥
    pub no_write_ended : (c q : ℕ) → WriteEnded [] c q → ⊥
    pub no_read_ended : (c q : ℕ) (v : S) → ReadEnded [] c q v → ⊥

  -- all calls of the list are lawful
  abbrev pub Run : List K → Type 0
  Run [] = Unit {0}
  Run (k ∷ ks) = Lawful ks k × Run ks
