-- What a host may ask about a frame. It is opened as a party of the register would open it; of one that does not open only the refusal's number is told.
-- These are definitions.
use Rattle.std.specs.Prelude.{ℕ, ◌+◌, ◌*◌, List, length, ltb}
use Rattle.std.proofs.Math.Option.{Option, none, some}
use Rattle.std.proofs.lemmas.List.Edits.{sets}
use Rattle.area.specs.Area.{pick}
use Rattle.area.specs.Responses.{Response, turned_down, gives}
use Rattle.area.specs.Numbers.{bytes8}
use Rattle.blocks.specs.declared.Params.{Params}
use Rattle.frame.specs.declared.Header.{Header}
use Rattle.frame.specs.Messages.{Body, get_stamp, ack, ask_read, read_complete, stamp_is, block_is, value_is, report}
use Rattle.frame.specs.Frames.{opened_under, body_in}
use Rattle.host_facts.specs.Outcomes.{Wrote, wrote}

-- the header: the kind in the second byte of the answer, the client in the third, the sequence in the four above; or the refusal's number
unfoldable pub header_answer : Response Header → ℕ
header_answer (gives h) = 256 * h.kind + 65536 * h.client + 16777216 * h.sequence
header_answer (turned_down n) = n

unfoldable pub header_call : Params → List ℕ → ℕ
header_call g f = header_answer (opened_under g f)

-- the time that a frame carries: that of the server's stamp, of the write, or of the value's stamp, or the server's that is reported
unfoldable pub time_of : Body → Option ℕ
time_of get_stamp = none
time_of ack = none
time_of ask_read = none
time_of read_complete = none
time_of (stamp_is T) = some T
time_of (block_is z o) = some o.time
time_of (value_is s e) = some s.time
time_of (report T) = some T

-- the second byte of the answer is 1, and the time is in the first 8 bytes of the area; or it is 0, and the area stays as lent
unfoldable pub timed : Option ℕ → List ℕ → Wrote
timed none time = wrote 0 time
timed (some T) time = wrote 256 (sets time 0 (bytes8 T))

-- refusals 1 to 9, then 10, "lent area short"
unfoldable pub time_given : Params → List ℕ → Response Header → List ℕ → Wrote
time_given g f (gives h) time = pick (ltb (length time) 8) (wrote 10 time) (timed (time_of (body_in g h.kind f)) time)
time_given g f (turned_down n) time = wrote n time

unfoldable pub time_call : Params → List ℕ → List ℕ → Wrote
time_call g f time = time_given g f (opened_under g f) time
