-- A client's record as bytes: writes and reads (4 each), closed and phase (1 each), 11 flags, 11 times of 8, 11 rows of 60, each a count of 8 and 4 stamps of
-- 13, and 11 reports of 8. These are definitions.
use Rattle.std.specs.Prelude.{ℕ, ◌+◌, Bool, List, [], ◌∷◌, ◌++◌, get_or, eqb}
use Rattle.area.specs.Area.{pick}
use Rattle.area.specs.Numbers.{be4, be8, bytes4, bytes8}
use Rattle.frame.specs.declared.Stamp.{Stamp}
use Rattle.frame.specs.Frames.{stamp_bytes}
use Rattle.frame.specs.Stamps.{zero_stamp}
use Rattle.client_rules.specs.declared.Phase.{Phase}
use Rattle.client_rules.specs.declared.Phase.TheVariants as F
use Rattle.client_rules.specs.declared.Row.{Row}
use Rattle.client_rules.specs.declared.Client.{Client}
use Rattle.client_rules.specs.State.{no_row}
use Rattle.layout.specs.Fields.{flag_byte, flag_at, stamp_size, stamp_at, row_bytes, row_at, flags_bytes, flags_at, numbers_bytes, numbers_at}

abbrev pub client_size : ℕ
client_size = 857

-- ---- the phase: written as 0 to 3; a byte above 3 is read as idle

unfoldable pub phase_byte : Phase → ℕ
phase_byte F.Idle = 0
phase_byte F.Asking = 1
phase_byte F.Acking = 2
phase_byte F.Reading = 3

unfoldable pub phase_in : ℕ → Phase
phase_in x = pick (eqb x 1) F.Asking (pick (eqb x 2) F.Acking (pick (eqb x 3) F.Reading F.Idle))

-- ---- rows

unfoldable pub stamps_bytes : List Stamp → List ℕ
stamps_bytes xs = row_bytes stamp_bytes 4 zero_stamp xs

unfoldable pub stamps_at : List ℕ → ℕ → List Stamp
stamps_at l i = row_at stamp_at 4 stamp_size l i

unfoldable pub kept_bytes : Row → List ℕ
kept_bytes r = bytes8 r.count ++ stamps_bytes r.stamps

unfoldable pub kept_at : List ℕ → ℕ → Row
kept_at l i = record { count = be8 l i; stamps = stamps_at l (i + 8) }

unfoldable pub rows_bytes : List Row → List ℕ
rows_bytes xs = row_bytes kept_bytes 11 no_row xs

unfoldable pub rows_at : List ℕ → ℕ → List Row
rows_at l i = row_at kept_at 11 60 l i

-- ---- the record

-- the fields before the arrays
unfoldable pub head_bytes : ℕ → ℕ → Bool → Phase → List ℕ
head_bytes w r b p = bytes4 w ++ (bytes4 r ++ (flag_byte b ∷ phase_byte p ∷ []))

unfoldable pub client_bytes : Client → List ℕ
client_bytes s =
    head_bytes s.writes s.reads s.closed s.phase
    ++ (flags_bytes s.heard ++ (numbers_bytes s.times ++ (rows_bytes s.rows ++ numbers_bytes s.reports)))

unfoldable pub client_at : List ℕ → ℕ → Client
client_at l i = record {
  writes = be4 l i;
  reads = be4 l (i + 4);
  closed = flag_at l (i + 8);
  phase = phase_in (get_or l (i + 9) 0);
  heard = flags_at l (i + 10);
  times = numbers_at l (i + 21);
  rows = rows_at l (i + 109);
  reports = numbers_at l (i + 769);
}

-- the record that the bytes say
unfoldable pub client_in : List ℕ → Client
client_in l = client_at l 0
