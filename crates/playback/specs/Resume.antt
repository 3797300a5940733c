-- A server that goes on from a kept record: the entries of a trace are handed to it one after the other, and its record, its state area and the areas for
-- frames and receivers are what the last one left. This is how a host that starts again plays its journal. H is the digest, g the parameters, me the
-- server's number. These are definitions.
use Rattle.std.specs.Prelude.{ℕ, List, [], ◌∷◌, length, Ok, Err}
use Rattle.area.specs.Responses.{Response, turned_down, gives}
use Rattle.blocks.specs.declared.Params.{Params}
use Rattle.frame.specs.Refusals.{number_of, and_then, Verdict}
use Rattle.frame.specs.Params.{params_test}
use Rattle.server_deliver.specs.Records.{ByteOutcome, rooms_test, byte_delivery}
use Rattle.entries.specs.Entries.{TraceEntry, Trace, trace_of}
use Rattle.playback.specs.Playback.{ending_of, Summed}

-- the areas that are lent for each step
pub record Areas : Type 0 where
  pub area : List ℕ
  pub state : List ℕ
  pub out : List ℕ
  pub to : List ℕ

abbrev pub areas : List ℕ → List ℕ → List ℕ → List ℕ → Areas
areas area state out to = record { area = area; state = state; out = out; to = to }

abbrev pub areas_of : ByteOutcome → Areas
areas_of o = areas o.area o.state o.out o.to

module _ (H : List ℕ → List ℕ) (g : Params) (me : ℕ) (initial : List ℕ) where
  unfoldable pub handed_to : Areas → TraceEntry → ByteOutcome
  handed_to l e = byte_delivery H g me e.sender e.frame l.area initial l.state l.out l.to

  -- a frame that is turned down changes nothing, and the next one is handed in
  unfoldable pub resumed : Areas → List TraceEntry → Areas
  resumed l [] = l
  resumed l (e ∷ es) = resumed (areas_of (handed_to l e)) es

-- refusals 1, 2, 3, 10
unfoldable pub resume_test : Params → ℕ → ℕ → ℕ → ℕ → ℕ → ℕ → Verdict
resume_test g me state area initial out to = and_then (params_test g me g.n) (rooms_test g state area initial out to)

pub record Resumption : Type 0 where
  pub answer : Response Summed
  pub areas : Areas

abbrev pub resumption : Response Summed → Areas → Resumption
resumption a l = record { answer = a; areas = l }

module _ (H : List ℕ → List ℕ) (g : Params) (me : ℕ) (initial : List ℕ) where
  -- a refusal changes nothing; else the answer says how many entries were played and, as a playback's, how the trace closed
  unfoldable pub resumption_by : Verdict → Trace → Areas → Resumption
  resumption_by (Err r) t l = resumption (turned_down (number_of r)) l
  resumption_by (Ok _) t l =
      resumption (gives (record { entries = length t.entries; bytes = 0; ending = ending_of t.closing (length t.entries) }))
      (resumed H g me initial l t.entries)

  -- the entry point
  unfoldable pub byte_resumption : List ℕ → Areas → Resumption
  byte_resumption trace l =
      resumption_by (resume_test g me (length l.state) (length l.area) (length initial) (length l.out) (length l.to)) (trace_of trace) l
