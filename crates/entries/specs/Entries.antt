-- Entries of a trace. Document 02, F-8: "A trace is a row of entries, each a 2-byte big-endian length, version 1, the sender class (0 client, 1 server), its
-- number (1) and the frame; the length counts all after itself." "Errors: 22, entry malformed (length under 3, version not 1 or class above 1, as far as its
-- bytes go), at that entry ..; 23, trace ends inside an entry, likewise." Assumes nothing: these are definitions.
use Rattle.std.specs.Prelude.{ℕ, zero, suc, ◌+◌, ◌-◌, Bool, not, ◌&&◌, ◌||◌, List, [], ◌∷◌, ◌++◌, length, get_or, drop, eqb, ltb, leb, Result, Ok, Err}
use Rattle.std.proofs.Math.Option.{Option, none, some}
use Rattle.area.specs.Area.{pick, part}
use Rattle.area.specs.Responses.{Response, turned_down, gives}
use Rattle.area.specs.Numbers.{be2, bytes2}
use Rattle.frame.specs.declared.Party.{Party}
use Rattle.frame.specs.Outbox.{party_bytes, party_in}
use Rattle.entries.specs.declared.Closing.{Closing}
use Rattle.entries.specs.declared.Closing.TheVariants as C
use Rattle.entries.specs.declared.Found.{Found}
use Rattle.entries.specs.declared.Survey.{Survey}

-- a frame, and who handed it in
pub record TraceEntry : Type 0 where
  pub sender : Party
  pub frame : List ℕ

abbrev pub trace_entry : Party → List ℕ → TraceEntry
trace_entry p f = record { sender = p; frame = f }

-- ---- written

abbrev pub entry_version : ℕ
entry_version = 1

-- where the frame begins
abbrev pub frame_at : ℕ
frame_at = 5

-- the bytes of an entry before its frame; size is how many bytes follow the length
unfoldable pub lead_bytes : ℕ → Party → List ℕ
lead_bytes size p = bytes2 size ++ (entry_version ∷ party_bytes p)

-- "the length counts all after itself": version, class, number and frame
unfoldable pub entry_bytes : TraceEntry → List ℕ
entry_bytes e = lead_bytes (3 + length e.frame) e.sender ++ e.frame

unfoldable pub trace_bytes : List TraceEntry → List ℕ
trace_bytes [] = []
trace_bytes (e ∷ es) = entry_bytes e ++ trace_bytes es

-- ---- read

-- 22: "length under 3, version not 1 or class above 1, as far as its bytes go"
unfoldable pub malformed : List ℕ → Bool
malformed l =
    (leb 2 (length l) && ltb (be2 l 0) 3)
    || ((leb 3 (length l) && not (eqb (get_or l 2 0) entry_version))
    || (leb 4 (length l) && ltb 1 (get_or l 3 0)))

-- 23: "trace ends inside an entry"
unfoldable pub cut : List ℕ → Bool
cut l = ltb (length l) 2 || ltb (length l) (2 + be2 l 0)

-- document 02's number of a closing; 0 where the trace is whole
abbrev pub closing_number : Closing → ℕ
closing_number C.Whole = 0
closing_number C.Malformed = 22
closing_number C.Cut = 23

-- what is at the front of some bytes: an entry, or how the trace closes there
abbrev pub Reading : Type 0
Reading = Result Found Closing

-- what a reading says, by its cases: an entry; nothing, since no bytes are left; or the number, 22 or 23, with which the trace closes there
abbrev pub reading_response : Reading → Response (Option Found)
reading_response (Ok x) = gives (some x)
reading_response (Err C.Whole) = gives none
reading_response (Err C.Malformed) = turned_down (closing_number C.Malformed)
reading_response (Err C.Cut) = turned_down (closing_number C.Cut)

-- what is at the front of the bytes that are left: nothing, so that the trace is whole; 22; 23; or an entry
unfoldable pub reading_of : List ℕ → Response (Option Found)
reading_of l =
    pick (eqb (length l) 0) (gives none)
    (pick (malformed l) (turned_down 22)
    (pick (cut l) (turned_down 23)
    (gives (some (record { sender = party_in (get_or l 3 0) (get_or l 4 0); end = 2 + be2 l 0 })))))

-- the entries of a trace up to where it closes, and the number with which it closes there: 22 or 23, or 0 where the trace is whole
pub record Trace : Type 0 where
  pub entries : List TraceEntry
  pub closing : ℕ

abbrev pub closed : ℕ → Trace
closed n = record { entries = []; closing = n }

-- entries before those of a trace
unfoldable pub before : List TraceEntry → Trace → Trace
before es t = record { entries = es ++ t.entries; closing = t.closing }

-- the entry that was found at the front of l
abbrev pub found_in : List ℕ → Found → TraceEntry
found_in l x = trace_entry x.sender (part l frame_at (x.end - frame_at))

-- an entry, and what the bytes after it say
unfoldable pub then_trace : Response (Option Found) → List ℕ → (List ℕ → Trace) → Trace
then_trace (turned_down n) l rest = closed n
then_trace (gives none) l rest = closed 0
then_trace (gives (some x)) l rest = before (found_in l x ∷ []) (rest (drop x.end l))

-- at most m entries; an entry takes at least one byte, so the number of bytes is enough for m
unfoldable pub trace_from : ℕ → List ℕ → Trace
trace_from zero l = closed 0
trace_from (suc m) l = then_trace (reading_of l) l (trace_from m)

unfoldable pub trace_of : List ℕ → Trace
trace_of l = trace_from (length l) l

-- ---- counted

-- how many entries a trace has before it closes, and the number with which it closes
pub record Surveyed : Type 0 where
  pub count : ℕ
  pub closing : ℕ

abbrev pub surveyed : Survey → Surveyed
surveyed x = record { count = x.count; closing = closing_number x.closing }

unfoldable pub survey_of : Trace → Surveyed
survey_of t = record { count = length t.entries; closing = t.closing }
