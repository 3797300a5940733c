-- What is proved of a playback and of a resumption at the record's bytes (`JournalTheorem`; its proof is in proofs/Journal.antt): they leave what
-- `byte_construction` and `byte_delivery`, the promises of the exported calls, leave one after the other. Assumes nothing: these are definitions and statements.
use Rattle.std.specs.Prelude.{ℕ, ◌≤◌, ◌≡◌, List, [], ◌∷◌, ◌++◌, map, length}
use Rattle.area.specs.Area.{pick, Bytes}
use Rattle.area.specs.Responses.{gives, is_turned_down}
use Rattle.sha256.specs.Hash.{digest_of}
use Rattle.blocks.specs.declared.Params.{Params}
use Rattle.layout.specs.Servers.{server_size}
use Rattle.server_deliver.specs.Records.{ByteOutcome, byte_delivery, byte_construction}
use Rattle.entries.specs.Entries.{TraceEntry, trace_of}
use Rattle.playback.specs.Playback.{Summed}
use Rattle.playback.specs.Records.{byte_playback}
use Rattle.playback.specs.Resume.{Areas, areas_of, handed_to, resumed}
use Rattle.playback.specs.Theorem.{Handed, AllEnough, entries_of}

module _ (g : Params) (me : ℕ) (initial : List ℕ) where
  -- the record and the state area after deliveries, each with areas of its own for frames and receivers
  pub record Kept : Type 0 where
    pub state : List ℕ
    pub area : List ℕ

  unfoldable pub deliveries : List ℕ → List ℕ → List Handed → Kept
  deliveries state area [] = record { state = state; area = area }
  deliveries state area (h ∷ hs) =
      let o = byte_delivery digest_of g me h.entry.sender h.entry.frame area initial state h.out h.to in
      deliveries o.state o.area hs

  -- the entries whose frames were not turned down: a journal of the steps alone
  unfoldable pub steps_alone : Areas → List TraceEntry → List TraceEntry
  steps_alone l [] = []
  steps_alone l (e ∷ es) =
      let o = handed_to digest_of g me initial l e in
      pick (is_turned_down o.reply) (steps_alone (areas_of o) es) (e ∷ steps_alone (areas_of o) es)

pub record JournalTheorem (g : Params) (me : ℕ) : Type 0 where
  -- a playback leaves the bytes that a fresh server and then its deliveries leave, whatever areas these were lent
  pub played : (v trace area initial state out : List ℕ) → Bytes trace → Bytes state → server_size ≤ length state → (x : Summed)
      → (byte_playback digest_of g me v trace area initial state out).answer ≡ gives x
      → (hs : List Handed) → entries_of hs ≡ (trace_of trace).entries → AllEnough g hs
      → let m = byte_construction digest_of g me v area initial state in
      let k = deliveries g me m.initial m.state m.area hs in
      ((byte_playback digest_of g me v trace area initial state out).state ≡ k.state)
      × ((byte_playback digest_of g me v trace area initial state out).area ≡ k.area)
  -- a journal without the frames that were turned down gives the same bytes
  pub steps_suffice : (initial : List ℕ) (l : Areas) (es : List TraceEntry)
      → resumed digest_of g me initial l (steps_alone g me initial l es) ≡ resumed digest_of g me initial l es
  -- one journal after another is both as one
  pub goes_on : (initial : List ℕ) (l : Areas) (es fs : List TraceEntry)
      → resumed digest_of g me initial l (es ++ fs) ≡ resumed digest_of g me initial (resumed digest_of g me initial l es) fs
