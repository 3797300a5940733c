-- Demand 3: the reads and writes of a run are in one row, as "Runs" in document 01 sets it. These are definitions.
use Rattle.std.specs.Prelude.{ℕ, ◌<◌, Bool, true, false, ◌≡◌, ◌⊎◌}
use Rattle.std.proofs.Math.Option.{some}
use mathlib.Core.List.{List, [], ◌∷◌, ◌++◌, Memᴰ}
use Rattle.sha256.specs.Hash.{digest_of}
use Rattle.frame.specs.declared.Stamp.{Stamp}
use Rattle.frame.specs.Stamps.{older, zero_stamp}
use Rattle.server_rules.specs.Steps.{Write, stamp_of}
use Rattle.client_rules.specs.Rows.{Found}
use Rattle.runs.specs.World.{Setup, Sound, DigestSize, Call}
use Rattle.runs.specs.Admissible.{Admissible}
use Rattle.runs.specs.Events.{At, Accepts, CompletesRead, Disagrees, EndsWrite, OpensRead, OpensWrite}
use Rattle.runs.specs.Blocks.{Collision}

-- ---- rows of operations

-- a read or a write: its client, its number and its stamp
pub record Operation : Type 0 where
  pub reading : Bool
  pub client : ℕ
  pub sequence : ℕ
  pub stamp : Stamp

-- two entries of one operation
pub record SameOperation (a b : Operation) : Type 0 where
  pub reading : a.reading ≡ b.reading
  pub client : a.client ≡ b.client
  pub sequence : a.sequence ≡ b.sequence

-- a comes before b in the row
abbrev pub Stands : List Operation → Operation → Operation → Type 0
Stands [] a b = ⊥
Stands (o ∷ l) a b = ((o ≡ a) × Memᴰ b l) ⊎ Stands l a b

abbrev pub NoWrite : List Operation → Type 0
NoWrite l = (o : Operation) → Memᴰ o l → o.reading ≡ true

-- the stamp of the last write, after one more operation with the stamp x
abbrev pub last_of : Bool → Stamp → Stamp → Stamp
last_of true x s = s
last_of false x s = x

-- each read bears the stamp of the last write before it, which is s where the list begins
abbrev pub BearsLast : Stamp → List Operation → Type 0
BearsLast s [] = Unit {0}
BearsLast s (o ∷ l) = (o.reading ≡ true → o.stamp ≡ s) × BearsLast (last_of o.reading o.stamp s) l

module _ (Z : Setup) (ks : List Call) where
  -- ---- the operations of a run

  -- the read was completed; an honest server accepted the write, with this stamp
  abbrev pub Completed : Operation → Type 0
  Completed o = (x : Found) × (p : ℕ) × At (CompletesRead Z o.client o.sequence x) ks p × (x.stamp ≡ o.stamp)

  abbrev pub Accepted : Operation → Type 0
  Accepted o = (i : ℕ) × (x : Write) × (p : ℕ) × At (Accepts Z i x) ks p × (x.client ≡ o.client) × (x.sequence ≡ o.sequence) × (stamp_of x ≡ o.stamp)

  abbrev pub Happened : Operation → Type 0
  Happened o = ((o.reading ≡ true) × Completed o) ⊎ ((o.reading ≡ false) × Accepted o)

  -- an honest client's operation begins, ends, in the call at the place p; those of false clients do neither
  abbrev pub Begins : Operation → ℕ → Type 0
  Begins o p =
      ((o.reading ≡ true) × At (OpensRead Z o.client o.sequence) ks p)
      ⊎ ((o.reading ≡ false) × (v : List ℕ) × At (OpensWrite Z o.client o.sequence v) ks p)

  abbrev pub Ends : Operation → ℕ → Type 0
  Ends o p =
      ((o.reading ≡ true) × (x : Found) × At (CompletesRead Z o.client o.sequence x) ks p)
      ⊎ ((o.reading ≡ false) × At (EndsWrite Z o.client o.sequence) ks p)

  -- "The row goes by stamp, a write before the reads of its stamp, these as they ended."
  pub data InOrder (a b : Operation) : Type 0 where
    by_stamp : older a.stamp b.stamp ≡ true → InOrder a b
    write_first : a.stamp ≡ b.stamp → a.reading ≡ false → b.reading ≡ true → InOrder a b
    as_ended : a.stamp ≡ b.stamp → a.reading ≡ true → b.reading ≡ true → ((p q : ℕ) → Ends a p → Ends b q → p < q) → InOrder a b

  -- what completed reads give
  pub record Values : Type 0 where
    -- "Reads with equal stamps give the same bytes,
    pub same : (c q d r p p' : ℕ) (x y : Found) → At (CompletesRead Z c q x) ks p → At (CompletesRead Z d r y) ks p' → x.stamp ≡ y.stamp → x.bytes ≡ y.bytes
    -- an honest writer's own
    pub own : (c q d r p p' : ℕ) (x : Found) (v : List ℕ) → At (CompletesRead Z c q x) ks p → At (OpensWrite Z d r v) ks p'
        → x.stamp.writer ≡ d → x.stamp.sequence ≡ r → x.bytes ≡ some v
    -- and at zero the initial value"
    pub zero : (c q p : ℕ) (x : Found) → At (CompletesRead Z c q x) ks p → x.stamp ≡ zero_stamp → x.bytes ≡ some Z.initial_value

  -- ---- the demand

  pub record Demand3 : Type 0 where
    -- "all completed reads of honest clients and all writes that an honest server accepted stand in one row"
    pub row : List Operation
    pub listed : (o : Operation) → Memᴰ o row → Happened o
    pub all : (o : Operation) → Happened o → Memᴰ o row
    -- "A write is a client and sequence that an honest server accepted, listed once"; a read is there once, too
    pub once : (a b : Operation) → Stands row a b → SameOperation a b → ⊥
    -- "its stamp is the new one there, alike at all of them"
    pub one_stamp : (i j p q : ℕ) (x y : Write) → At (Accepts Z i x) ks p → At (Accepts Z j y) ks q
        → x.client ≡ y.client → x.sequence ≡ y.sequence → stamp_of x ≡ stamp_of y
    -- "a write [ends] at its (n - t)th counted ack and is then in the row"
    pub ended : (c q p : ℕ) → At (EndsWrite Z c q) ks p → (o : Operation) × Memᴰ o row × (o.reading ≡ false) × (o.client ≡ c) × (o.sequence ≡ q)
    -- an honest client's operation in the row was begun by it: nobody reads or writes in its name. So `in_time`, and `own` of the values, are about
    -- every operation of honest clients.
    pub begun : (o : Operation) → Memᴰ o row → Z.faulty_client o.client ≡ false → (p : ℕ) × Begins o p
    -- "The row goes by stamp, a write before the reads of its stamp, these as they ended."
    pub sorted : (a b : Operation) → Stands row a b → InOrder a b
    -- "In it a read bears the stamp of the last write before it, or zero if there is none,
    pub bears : BearsLast zero_stamp row
    -- so two reads bear equal stamps exactly when no write stands between them."
    pub between : (xs ys zs : List Operation) (a b : Operation) → row ≡ xs ++ (a ∷ (ys ++ (b ∷ zs))) → a.reading ≡ true → b.reading ≡ true
        → (a.stamp ≡ b.stamp → NoWrite ys) × (NoWrite ys → a.stamp ≡ b.stamp)
    -- "An honest client's operation that ended before an honest client began another comes first."
    pub in_time : (a b : Operation) (p q : ℕ) → Memᴰ a row → Memᴰ b row → Ends a p → Begins b q → p < q → Stands row a b
    -- "Reads with equal stamps give the same bytes .., or two different blocks of that run with one digest are shown."
    pub values : Values ⊎ Collision Z ks

-- The whole-run theorem: "For every list of these calls .. from fresh states with one initial value, whatever the false ones send and whichever frames come
-- late, repeated, reordered or never". It holds for every digest function of 32 bytes,
unfoldable pub Theorem : Type 0
Theorem = (Z : Setup) → Sound Z → DigestSize Z.H → (ks : List Call) → Admissible Z ks → Demand3 Z ks

-- and so for SHA-256, with which the servers and clients of this register compute.
unfoldable pub TheoremSha256 : Type 0
TheoremSha256 = (Z : Setup) → Sound Z → Z.H ≡ digest_of → (ks : List Call) → Admissible Z ks → Demand3 Z ks

-- ---- request F-7

-- "an honest client in a run with at most t false servers sees this only where two different blocks of that run share a digest": only honest parties are called
unfoldable pub DisagreementShown : Type 0
DisagreementShown = (Z : Setup) → Sound Z → DigestSize Z.H → (ks : List Call) → Admissible Z ks
    → (c q p : ℕ) (x : Found) → At (Disagrees Z c q x) ks p → Collision Z ks
