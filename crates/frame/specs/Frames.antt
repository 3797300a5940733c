-- Frames: "Length (2 bytes, big-endian, counting what follows it), version 1, kind, client (1), sequence (4), body." The bytes of a
-- message's frame, and what opening a frame of any length and content finds. Assumes nothing: these are definitions.
use Rattle.std.specs.Prelude.{ℕ, ◌+◌, Bool, ◌&&◌, List, [], ◌∷◌, ◌++◌, length, get_or, eqb, ltb, leb, Result, Ok, Err}
use Rattle.area.specs.Area.{pick, part}
use Rattle.area.specs.Responses.{Response, turned_down, gives}
use Rattle.area.specs.Numbers.{be2, be4, be8, bytes2, bytes4, bytes8}
use Rattle.blocks.specs.declared.Params.{Params}
use Rattle.frame.specs.declared.Stamp.{Stamp}
use Rattle.frame.specs.declared.Header.{Header}
use Rattle.frame.specs.declared.Refusal.{Refusal}
use Rattle.frame.specs.Refusals.{number_of, Verdict, fine, refused, answered_by, and_then}
use Rattle.frame.specs.Params.{width, listed, entry_length, bounds_test}
use Rattle.frame.specs.Stamps.{parts_agree, last_client}
use Rattle.frame.specs.Messages.{Entry, entry, Offer, offer, send, echo, ready, Body, get_stamp, ack}
use Rattle.frame.specs.Messages.{ask_read, read_complete, stamp_is, block_is, value_is, report, Message, message}

-- ---- layout

-- the version
abbrev pub version : ℕ
version = 1

-- the places of the header's fields, and of the body
abbrev pub version_at : ℕ
version_at = 2

abbrev pub kind_at : ℕ
kind_at = 3

abbrev pub client_at : ℕ
client_at = 4

abbrev pub sequence_at : ℕ
sequence_at = 5

abbrev pub body_at : ℕ
body_at = 9

-- the place of an offer's entry, after its time
abbrev pub offer_at : ℕ
offer_at = 17

-- the places of a value's writer, write sequence and entry
abbrev pub writer_at : ℕ
writer_at = 17

abbrev pub write_at : ℕ
write_at = 18

abbrev pub value_at : ℕ
value_at = 22

-- the kind of a body, from the table
unfoldable pub kind_of : Body → ℕ
kind_of get_stamp = 1
kind_of (stamp_is T) = 2
kind_of (block_is send o) = 3
kind_of (block_is echo o) = 4
kind_of (block_is ready o) = 5
kind_of ack = 9
kind_of ask_read = 10
kind_of (value_is s e) = 11
kind_of read_complete = 12
kind_of (report T) = 13

-- request F-4: "Kinds 6, 7 and 8 are retired and get 6"
unfoldable pub retired : ℕ → Bool
retired kind = leb 6 kind && leb kind 8

-- the length of the body of a kind, from the table by rising kind; entry is the length of a digest list and a block
unfoldable pub length_of : ℕ → ℕ → ℕ
length_of kind entry =
    pick (leb kind 1) 0
    (pick (leb kind 2) 8
    (pick (leb kind 5) (8 + entry)
    (pick (leb kind 10) 0
    (pick (leb kind 11) (13 + entry)
    (pick (leb kind 12) 0
    8)))))

unfoldable pub body_length : Params → ℕ → ℕ
body_length g kind = length_of kind (entry_length g)

-- ---- building

unfoldable pub entry_bytes : Entry → List ℕ
entry_bytes e = e.digests ++ e.block

unfoldable pub offer_bytes : Offer → List ℕ
offer_bytes o = bytes8 o.time ++ entry_bytes o.entry

unfoldable pub stamp_bytes : Stamp → List ℕ
stamp_bytes s = bytes8 s.time ++ (s.writer ∷ bytes4 s.sequence)

unfoldable pub body_bytes : Body → List ℕ
body_bytes get_stamp = []
body_bytes ack = []
body_bytes ask_read = []
body_bytes read_complete = []
body_bytes (stamp_is T) = bytes8 T
body_bytes (block_is z o) = offer_bytes o
body_bytes (value_is s e) = stamp_bytes s ++ entry_bytes e
body_bytes (report T) = bytes8 T

-- the bytes before the body; following counts what follows the length
unfoldable pub header_bytes : ℕ → ℕ → ℕ → ℕ → List ℕ
header_bytes following kind client sequence = bytes2 following ++ (version ∷ kind ∷ client ∷ bytes4 sequence)

unfoldable pub frame_of : ℕ → ℕ → ℕ → List ℕ → List ℕ
frame_of kind client sequence body = header_bytes (7 + length body) kind client sequence ++ body

-- the frame of a message
unfoldable pub build : Message → List ℕ
build m = frame_of (kind_of m.body) m.client m.sequence (body_bytes m.body)

-- ---- opening: refusals 4 to 9 in the order of the numbers

-- refusal 4: the length field counts what follows it
unfoldable pub framing_test : List ℕ → Verdict
framing_test f = pick (ltb (length f) body_at) (refused 4) (pick (eqb (be2 f 0 + 2) (length f)) fine (refused 4))

unfoldable pub header_in : List ℕ → Header
header_in f = record { kind = get_or f kind_at 0; client = get_or f client_at 0; sequence = be4 f sequence_at }

-- refusals 5 to 7
unfoldable pub header_test : ℕ → Header → Verdict
header_test v h =
    pick (eqb v version)
    (pick (ltb h.kind 1) (refused 6)
    (pick (ltb 13 h.kind) (refused 6)
    (pick (retired h.kind) (refused 6)
    (pick (ltb h.client 1) (refused 7)
    (pick (ltb last_client h.client) (refused 7)
    (pick (eqb h.sequence 0) (refused 7)
    fine))))))
    (refused 5)

-- refusal 8, of a frame of size bytes
unfoldable pub body_test : Params → ℕ → ℕ → Verdict
body_test g kind size = pick (eqb size (body_at + body_length g kind)) fine (refused 8)

-- a value's stamp
unfoldable pub stamp_in : List ℕ → Stamp
stamp_in f = record { time = be8 f body_at; writer = get_or f writer_at 0; sequence = be4 f write_at }

-- refusal 9, of a value's stamp
unfoldable pub stamp_test : Stamp → Verdict
stamp_test s =
    pick (parts_agree s.time s.writer s.sequence) (pick (ltb last_client s.writer) (refused 9) fine) (refused 9)

-- refusal 9
unfoldable pub content_test : ℕ → List ℕ → Verdict
content_test kind f = pick (eqb kind 11) (stamp_test (stamp_in f)) fine

unfoldable pub frame_test : Params → List ℕ → Verdict
frame_test g f =
    and_then (framing_test f)
    (and_then (header_test (get_or f version_at 0) (header_in f))
    (and_then (body_test g (get_or f kind_at 0) (length f))
    (content_test (get_or f kind_at 0) f)))

-- what opening a frame finds; the parts of the body lie at fixed places after the header
abbrev pub Opened : Type 0
Opened = Result Header Refusal

abbrev pub opened_by : Verdict → Header → Opened
opened_by (Ok _) h = Ok h
opened_by (Err r) h = Err r

-- what opening a frame finds, the parameters within their bounds
unfoldable pub opened : Params → List ℕ → Opened
opened g f = opened_by (frame_test g f) (header_in f)

-- what an opening says: the number, or the header
abbrev pub opening_response : Opened → Response Header
opening_response (Ok h) = gives h
opening_response (Err r) = turned_down (number_of r)

-- the same for any parameters: refusals 1 to 3 come first
unfoldable pub opened_under : Params → List ℕ → Response Header
opened_under g f = answered_by (and_then (bounds_test g) (frame_test g f)) (header_in f)

-- ---- what an opened frame says; f is the whole frame

-- the entry from index i on
abbrev pub entry_in : Params → List ℕ → ℕ → Entry
entry_in g f i = entry (part f i (listed g)) (part f (i + listed g) (width g))

-- the offer of a frame of kind 3, 4 or 5
abbrev pub offer_in : Params → List ℕ → Offer
offer_in g f = offer (be8 f body_at) (entry_in g f offer_at)

unfoldable pub body_in : Params → ℕ → List ℕ → Body
body_in g kind f =
    pick (eqb kind 1) get_stamp
    (pick (eqb kind 2) (stamp_is (be8 f body_at))
    (pick (eqb kind 3) (block_is send (offer_in g f))
    (pick (eqb kind 4) (block_is echo (offer_in g f))
    (pick (eqb kind 5) (block_is ready (offer_in g f))
    (pick (eqb kind 9) ack
    (pick (eqb kind 10) ask_read
    (pick (eqb kind 11) (value_is (stamp_in f) (entry_in g f value_at))
    (pick (eqb kind 12) read_complete
    (report (be8 f body_at))))))))))

unfoldable pub message_in : Params → Header → List ℕ → Message
message_in g h f = message h.client h.sequence (body_in g h.kind f)

-- the header of a message's frame
abbrev pub header_for : Message → Header
header_for m = record { kind = kind_of m.body; client = m.client; sequence = m.sequence }
