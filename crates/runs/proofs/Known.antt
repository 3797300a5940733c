-- What the row of a run asks of its steps: facts on what happened, each for the whole run. Assumes nothing: these are definitions.
use Prim.Native.Nat.{ℕ, ◌+◌, ◌≤◌, ◌<◌}
use mathlib.Core.Bool.{true, false}
use mathlib.Core.Path.{◌≡◌}
use mathlib.Core.Logic.{◌⊎◌}
use mathlib.Core.List.{List}
use mathlib.Core.Option.{Option, some}
use lib.ListN.{length}
use Rattle.quorum.specs.Quorum.{Among, count}
use Rattle.area.specs.Area.{Bytes}
use Rattle.group_rules.specs.Coded.{has_list, digests_of, decoded, fits}
use Rattle.frame.specs.Messages.{Entry}
use Rattle.frame.specs.Stamps.{older, zero_stamp}
use Rattle.server_rules.specs.Steps.{Write, stamp_of}
use Rattle.client_rules.specs.Rows.{Found}
use Rattle.runs.specs.Blocks.{InFrame}
use Rattle.runs.specs.Events.{At, Accepts, StopsRead, EndsWrite, OpensRead, OpensWrite, Decodes}
use Rattle.runs.specs.World.{Setup, Call}

module _ (Z : Setup) (ks : List Call) where
  pub record Rows (x : Found) : Type 0 where
    pub at : ℕ → Option Entry
    pub bytes : x.bytes ≡ decoded Z.g at x.digests
    pub many : Z.g.n ≤ count (λ j. has_list (at j) x.digests) Z.g.n + Z.g.t
    pub fit : (j : ℕ) (e : Entry) → Among Z.g.n j → at j ≡ some e → fits Z.H e j ≡ true
    pub carried : (j : ℕ) (e : Entry) → Among Z.g.n j → at j ≡ some e → (p : ℕ) × At (InFrame Z e.block) ks p

  -- for what reads give
  pub record KnownValues : Type 0 where
    -- what is accepted has the digests of a value that was decoded, and those of an honest client's own
    pub accepted_from : (i p : ℕ) (y : Write) → At (Accepts Z i y) ks p
        → (v : List ℕ) × (p' : ℕ) × At (Decodes Z v) ks p' × (digests_of Z.H Z.g v ≡ y.entry.digests) × (length v ≡ Z.g.size) × Bytes v
    pub written_from : (i p : ℕ) (y : Write) (d r p' : ℕ) (v : List ℕ) → At (Accepts Z i y) ks p → At (OpensWrite Z d r v) ks p'
        → y.client ≡ d → y.sequence ≡ r → digests_of Z.H Z.g v ≡ y.entry.digests
    pub written_sized : (d r p : ℕ) (v : List ℕ) → At (OpensWrite Z d r v) ks p → (length v ≡ Z.g.size) × Bytes v
    -- a read decodes what n - t rows have at its stamp, entries that fit and were in frames
    pub read_rows : (c q p : ℕ) (x : Found) → At (StopsRead Z c q x) ks p → Rows x

  -- for the row
  pub record Known : Type 0 where
    -- a read completes once, and after it began
    pub read_once : (c q p p' : ℕ) (x y : Found) → At (StopsRead Z c q x) ks p → At (StopsRead Z c q y) ks p' → p ≡ p'
    pub read_after : (c q p p' : ℕ) (x : Found) → At (OpensRead Z c q) ks p → At (StopsRead Z c q x) ks p' → p < p'
    -- its stamp and digest list are the initial ones or those of an accepted write
    pub read_from : (c q p : ℕ) (x : Found) → At (StopsRead Z c q x) ks p
        → ((x.stamp ≡ zero_stamp) × (x.digests ≡ digests_of Z.H Z.g Z.initial_value))
        ⊎ ((i p' : ℕ) × (y : Write) × At (Accepts Z i y) ks p' × (stamp_of y ≡ x.stamp) × (y.entry.digests ≡ x.digests))
    -- one stamp and one digest list a write; a write that ended was accepted
    pub agree : (i j p p' : ℕ) (x y : Write) → At (Accepts Z i x) ks p → At (Accepts Z j y) ks p'
        → x.client ≡ y.client → x.sequence ≡ y.sequence → (stamp_of x ≡ stamp_of y) × (x.entry.digests ≡ y.entry.digests)
    pub wrote_accepted : (c q p : ℕ) → At (EndsWrite Z c q) ks p
        → (i p' : ℕ) × (x : Write) × At (Accepts Z i x) ks p' × (x.client ≡ c) × (x.sequence ≡ q)
    -- an accepted write of an honest client was begun by it, and a completed read by its client
    pub write_begun_lem : (i p : ℕ) (y : Write) → At (Accepts Z i y) ks p → Z.faulty_client y.client ≡ false
        → (p' : ℕ) × (v : List ℕ) × At (OpensWrite Z y.client y.sequence v) ks p'
    pub read_begun_lem : (c q p : ℕ) (x : Found) → At (StopsRead Z c q x) ks p → (p' : ℕ) × At (OpensRead Z c q) ks p'
    -- order in time: what ended at p, before what began at p'
    pub read_read : (c q p : ℕ) (x : Found) (d r p' p'' : ℕ) (y : Found) → At (StopsRead Z c q x) ks p → At (OpensRead Z d r) ks p' → p < p'
        → At (StopsRead Z d r y) ks p'' → older y.stamp x.stamp ≡ false
    pub write_read : (c q p i e : ℕ) (x : Write) (d r p' p'' : ℕ) (y : Found) → At (EndsWrite Z c q) ks p → At (Accepts Z i x) ks e
        → x.client ≡ c → x.sequence ≡ q → At (OpensRead Z d r) ks p' → p < p' → At (StopsRead Z d r y) ks p'' → older y.stamp (stamp_of x) ≡ false
    pub read_write : (c q p : ℕ) (x : Found) (d r p' i e : ℕ) (v : List ℕ) (y : Write) → At (StopsRead Z c q x) ks p → At (OpensWrite Z d r v) ks p' → p < p'
        → At (Accepts Z i y) ks e → y.client ≡ d → y.sequence ≡ r → older x.stamp (stamp_of y) ≡ true
    pub write_write : (c q p i e : ℕ) (x : Write) (d r p' j e' : ℕ) (v : List ℕ) (y : Write) → At (EndsWrite Z c q) ks p → At (Accepts Z i x) ks e
        → x.client ≡ c → x.sequence ≡ q → At (OpensWrite Z d r v) ks p' → p < p' → At (Accepts Z j y) ks e'
        → y.client ≡ d → y.sequence ≡ r → older (stamp_of x) (stamp_of y) ≡ true
