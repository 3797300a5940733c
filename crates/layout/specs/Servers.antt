-- A server's record as bytes: its stamp (13), 9 slots of 217, 9 readers of 18 and 11 reports of 8. A slot is its sequence (8) and what was counted of its
-- write (209): three flags, the completed time (8), the flags of echoes and of readies (11 each) and their times (88 each). These are definitions.
use Rattle.std.specs.Prelude.{ℕ, ◌+◌, ◌*◌, Bool, List, [], ◌∷◌, ◌++◌}
use Rattle.std.proofs.lemmas.List.Edits.{sets}
use Rattle.area.specs.Numbers.{be4, be8, bytes4, bytes8}
use Rattle.frame.specs.declared.Stamp.{Stamp}
use Rattle.frame.specs.Frames.{stamp_bytes}
use Rattle.server_rules.specs.declared.BlockPart.{BlockPart}
use Rattle.server_rules.specs.declared.Slot.{Slot}
use Rattle.server_rules.specs.declared.Reader.{Reader}
use Rattle.server_rules.specs.declared.Server.{Server}
use Rattle.server_rules.specs.State.{no_slot, no_reader}
use Rattle.layout.specs.Fields.{flag_byte, flag_at, stamp_size, stamp_at, row_bytes, row_at, flags_bytes, flags_at, numbers_bytes, numbers_at}

-- ---- sizes and places

abbrev pub server_size : ℕ
server_size = 2216

-- sizes of what was counted of a write, of a slot and of all slots
abbrev pub blocks_size : ℕ
blocks_size = 209

abbrev pub slot_size : ℕ
slot_size = 217

abbrev pub slots_size : ℕ
slots_size = 1953

-- sizes of a reader and of all readers
abbrev pub reader_size : ℕ
reader_size = 18

abbrev pub readers_size : ℕ
readers_size = 162

-- where the slots, the readers and the reports begin
abbrev pub slots_place : ℕ
slots_place = stamp_size

abbrev pub readers_place : ℕ
readers_place = 1966

abbrev pub reports_place : ℕ
reports_place = 2128

-- ---- slots

-- three flags, and the flags of echoes and readies
unfoldable pub marks_bytes : Bool → Bool → Bool → List ℕ
marks_bytes a b c = flag_byte a ∷ flag_byte b ∷ flag_byte c ∷ []

unfoldable pub votes_bytes : List Bool → List Bool → List ℕ
votes_bytes e r = flags_bytes e ++ flags_bytes r

unfoldable pub blocks_bytes : BlockPart → List ℕ
blocks_bytes b =
    marks_bytes b.sent b.ready b.complete
    ++ (bytes8 b.time ++ (votes_bytes b.echoes b.readies ++ (numbers_bytes b.echoed ++ numbers_bytes b.readied)))

unfoldable pub blocks_at : List ℕ → ℕ → BlockPart
blocks_at l i = record {
  sent = flag_at l i;
  ready = flag_at l (i + 1);
  complete = flag_at l (i + 2);
  time = be8 l (i + 3);
  echoes = flags_at l (i + 11);
  readies = flags_at l (i + 22);
  echoed = numbers_at l (i + 33);
  readied = numbers_at l (i + 121);
}

unfoldable pub slot_bytes : Slot → List ℕ
slot_bytes x = bytes8 x.sequence ++ blocks_bytes x.blocks

unfoldable pub slot_at : List ℕ → ℕ → Slot
slot_at l i = record { sequence = be8 l i; blocks = blocks_at l (i + 8) }

unfoldable pub slots_bytes : List Slot → List ℕ
slots_bytes xs = row_bytes slot_bytes 9 no_slot xs

unfoldable pub slots_at : List ℕ → ℕ → List Slot
slots_at l i = row_at slot_at 9 slot_size l i

-- ---- readers

unfoldable pub reader_bytes : Reader → List ℕ
reader_bytes x = bytes4 x.sequence ++ (flag_byte x.listening ∷ stamp_bytes x.noted)

unfoldable pub reader_at : List ℕ → ℕ → Reader
reader_at l i = record { sequence = be4 l i; listening = flag_at l (i + 4); noted = stamp_at l (i + 5) }

unfoldable pub readers_bytes : List Reader → List ℕ
readers_bytes xs = row_bytes reader_bytes 9 no_reader xs

unfoldable pub readers_at : List ℕ → ℕ → List Reader
readers_at l i = row_at reader_at 9 reader_size l i

-- ---- the record

unfoldable pub server_bytes : Server → List ℕ
server_bytes s = stamp_bytes s.stamp ++ (slots_bytes s.slots ++ (readers_bytes s.readers ++ numbers_bytes s.reports))

unfoldable pub server_at : List ℕ → ℕ → Server
server_at l i = record {
  stamp = stamp_at l i;
  slots = slots_at l (i + slots_place);
  readers = readers_at l (i + readers_place);
  reports = numbers_at l (i + reports_place);
}

-- the record that the bytes say
unfoldable pub server_in : List ℕ → Server
server_in l = server_at l 0

-- ---- parts of the record

-- the stamp and client c's slot are written, all other bytes stay
unfoldable pub slot_sets : List ℕ → ℕ → Stamp → Slot → List ℕ
slot_sets l c x y = sets (sets l 0 (stamp_bytes x)) (slots_place + c * slot_size) (slot_bytes y)

-- the same, and client c's reader
unfoldable pub scope_sets : List ℕ → ℕ → Stamp → Slot → Reader → List ℕ
scope_sets l c x y z = sets (slot_sets l c x y) (readers_place + c * reader_size) (reader_bytes z)

-- the report of server j
unfoldable pub report_sets : List ℕ → ℕ → ℕ → List ℕ
report_sets l j T = sets l (reports_place + j * 8) (bytes8 T)
