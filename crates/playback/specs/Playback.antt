-- The playback of a trace. Document 02, F-8: "From a fresh server the playback gives every reply, every frame sent and the final state. They must
-- equal the steps taken one after another, each with room enough." H is the digest, g the parameters, me the server's number. These are definitions.
use Rattle.std.specs.Prelude.{ℕ, ◌+◌, ◌*◌, List, [], ◌∷◌, length, replicate, ltb, eqb, Result, Ok, Err}
use Rattle.std.proofs.lemmas.List.Edits.{sets}
use Rattle.area.specs.Area.{pick}
use Rattle.area.specs.Responses.{Response, turned_down, gives}
use Rattle.blocks.specs.declared.Params.{Params}
use Rattle.frame.specs.declared.Refusal.{Refusal}
use Rattle.frame.specs.Refusals.{number_of, refused, and_then, Verdict, fine}
use Rattle.frame.specs.Params.{largest_frame, server_frames, out_room, to_room}
use Rattle.server_rules.specs.declared.Server.{Server}
use Rattle.server_rules.specs.State.{fresh_server}
use Rattle.server_rules.specs.Delivery.{Constructed, construct_test, construction, delivered, delivery}
use Rattle.entries.specs.declared.Closing.TheVariants as C
use Rattle.entries.specs.Entries.{closing_number, TraceEntry, Trace, trace_of}
use Rattle.playback.specs.declared.Ending.{Ending}
use Rattle.playback.specs.declared.Ending.TheVariants as E
use Rattle.playback.specs.declared.Summary.{Summary}
use Rattle.playback.specs.Reports.{Report, reports_bytes}

-- ---- the room

-- areas that have room enough for a step
unfoldable pub spare_out : Params → List ℕ
spare_out g = replicate (out_room g (server_frames g)) 0

unfoldable pub spare_to : Params → List ℕ
spare_to g = replicate (to_room (server_frames g)) 0

-- "3 bytes and, at 2 bytes more a frame, a step's full need each"
unfoldable pub entry_need : Params → ℕ
entry_need g = 3 + server_frames g * (largest_frame g + 2)

-- refusal 10: "summed over them it must hold" this; count entries are played, and the one at which the trace closes is not counted
unfoldable pub out_test : Params → ℕ → ℕ → Verdict
out_test g count out = pick (ltb out (count * entry_need g)) (refused 10) fine

-- ---- the entries, one after the other

-- the server and its state area after the last entry, and what is reported of each
pub record Played : Type 0 where
  pub server : Server
  pub area : List ℕ
  pub reports : List Report

module _ (H : List ℕ → List ℕ) (g : Params) (me : ℕ) where
  -- the reply to an entry and what it sends
  unfoldable pub report_of : List ℕ → Server → List ℕ → TraceEntry → Report
  report_of initial s a e = record {
    reply = (delivery H g me s a initial e.sender e.frame (spare_out g) (spare_to g)).reply;
    sends = (delivered H g me s a initial e.sender e.frame (spare_out g) (spare_to g)).sends;
  }

  -- the server and its state area after the entry
  unfoldable pub server_after : List ℕ → Server → List ℕ → TraceEntry → Server
  server_after initial s a e = (delivery H g me s a initial e.sender e.frame (spare_out g) (spare_to g)).server

  unfoldable pub area_after : List ℕ → Server → List ℕ → TraceEntry → List ℕ
  area_after initial s a e = (delivery H g me s a initial e.sender e.frame (spare_out g) (spare_to g)).area

  -- every frame is handed to the server that the one before it left, whatever the reply was: "A turned-down frame doesn't end the playback"
  unfoldable pub played : List ℕ → Server → List ℕ → List TraceEntry → Played
  played initial s a [] = record { server = s; area = a; reports = [] }
  played initial s a (e ∷ es) =
      let p = played initial (server_after initial s a e) (area_after initial s a e) es in
      record { server = p.server; area = p.area; reports = report_of initial s a e ∷ p.reports }

  -- ---- the whole outcome

  -- refusals 1, 2, 3, 10
  unfoldable pub play_test : List ℕ → Trace → ℕ → ℕ → ℕ → Verdict
  play_test v t area initial out = and_then (construct_test H g me v area initial) (out_test g (length t.entries) out)

  -- "From a fresh server"
  unfoldable pub played_from : Constructed → List TraceEntry → Played
  played_from x es = played x.initial x.server x.area es

-- where a playback ended: after the last entry, or with 22 or 23 at an entry: "Both close a result, name the entry counted from 1"
pub data End : Type 0 where
  whole : End
  closed_with : ℕ → ℕ → End

abbrev pub end_in : Ending → End
end_in E.Whole = whole
end_in (E.Malformed i) = closed_with (closing_number C.Malformed) i
end_in (E.Cut i) = closed_with (closing_number C.Cut) i

-- the end after count entries were played; n is the number with which the trace closes, 0 where it is whole
unfoldable pub ending_of : ℕ → ℕ → End
ending_of n count = pick (eqb n 0) whole (closed_with n (count + 1))

-- what a playback gives: how many entries were played, how many bytes of the out area they took, and where it ended
pub record Summed : Type 0 where
  pub entries : ℕ
  pub bytes : ℕ
  pub ending : End

abbrev pub summed : Summary → Summed
summed x = record { entries = x.entries; bytes = x.bytes; ending = end_in x.ending }

-- what a playback gave, or why it was turned down
abbrev pub Answer : Type 0
Answer = Result Summary Refusal

abbrev pub playback_response : Answer → Response Summed
playback_response (Ok x) = gives (summed x)
playback_response (Err r) = turned_down (number_of r)

-- the answer, the server, and every byte of the lent areas
pub record Outcome : Type 0 where
  pub answer : Response Summed
  pub server : Server
  pub area : List ℕ
  pub initial : List ℕ
  pub out : List ℕ

abbrev pub summary_of : Trace → List Report → Summed
summary_of t rs = record { entries = length t.entries; bytes = length (reports_bytes rs); ending = ending_of t.closing (length t.entries) }

-- reports lie end to end from the start of the out area; other bytes stay as lent
abbrev pub outcome_of : Trace → Played → List ℕ → List ℕ → Outcome
outcome_of t p initial out = record {
  answer = gives (summary_of t p.reports);
  server = p.server;
  area = p.area;
  initial = initial;
  out = sets out 0 (reports_bytes p.reports);
}

module _ (H : List ℕ → List ℕ) (g : Params) (me : ℕ) where
  -- a refusal changes nothing
  unfoldable pub playback_by : Verdict → List ℕ → Trace → List ℕ → List ℕ → List ℕ → Outcome
  playback_by (Err r) v t a initial out = record { answer = turned_down (number_of r); server = fresh_server; area = a; initial = initial; out = out }
  playback_by (Ok _) v t a initial out =
      let x = construction H g me v a initial in
      outcome_of t (played_from H g me x t.entries) x.initial out

  -- the entry point: the server's initial value is v
  unfoldable pub playback : List ℕ → List ℕ → List ℕ → List ℕ → List ℕ → Outcome
  playback v trace a initial out =
      playback_by (play_test H g me v (trace_of trace) (length a) (length initial) (length out)) v (trace_of trace) a initial out
