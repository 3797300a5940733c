-- "A stamp is (time, writer, write sequence), compared in that order." Assumes nothing: these are definitions.
use Rattle.std.specs.Prelude.{ℕ, Bool, not, ◌&&◌, ◌||◌, eqb, ltb}
use Rattle.area.specs.Area.{pick}
use Rattle.frame.specs.declared.Stamp.{Stamp}

-- whether a comes before b
unfoldable pub older : Stamp → Stamp → Bool
older a b =
    ltb a.time b.time
    || (eqb a.time b.time && (ltb a.writer b.writer || (eqb a.writer b.writer && ltb a.sequence b.sequence)))

unfoldable pub same_stamp : Stamp → Stamp → Bool
same_stamp a b = eqb a.time b.time && (eqb a.writer b.writer && eqb a.sequence b.sequence)

-- "A fresh server holds stamp 0, client 0 and sequence 0"; it is also what is read past the end of an array of stamps
abbrev pub zero_stamp : Stamp
zero_stamp = record { time = 0; writer = 0; sequence = 0 }

-- "In a value the three stamp parts are all zero or none is"
unfoldable pub parts_agree : ℕ → ℕ → ℕ → Bool
parts_agree T w q = pick (eqb T 0) (eqb w 0 && eqb q 0) (not (eqb w 0) && not (eqb q 0))

-- the largest time, 2^64 - 1, and the largest sequence
abbrev pub last_time : ℕ
last_time = 18446744073709551615

abbrev pub last_sequence : ℕ
last_sequence = 4294967295

-- "Clients are 1 to 8"
abbrev pub last_client : ℕ
last_client = 8
