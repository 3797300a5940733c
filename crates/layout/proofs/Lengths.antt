-- How many bytes each part of a layout has, whatever it holds. Assumes nothing.
use Prim.Native.Nat.{ℕ, ◌+◌}
use mathlib.Core.Path.{◌≡◌, refl}
use mathlib.Core.Bool.{Bool, false}
use mathlib.Core.List.{List, [], ◌∷◌, ◌++◌}
use lib.ListN.{length, get_or}
use Rattle.area.specs.Numbers.{bytes4, bytes8}
use Rattle.area.proofs.Numbers.{length_bytes4, length_bytes8}
use Rattle.area.proofs.Fills.{length_joined}
use Rattle.frame.specs.declared.Stamp.{Stamp}
use Rattle.frame.specs.Frames.{stamp_bytes}
use Rattle.frame.proofs.RoundTrip.{length_stamp}
use Rattle.frame.specs.Stamps.{zero_stamp}
use Rattle.client_rules.specs.declared.Phase.{Phase}
use Rattle.client_rules.specs.declared.Row.{Row}
use Rattle.client_rules.specs.declared.Client.{Client}
use Rattle.client_rules.specs.State.{no_row}
use Rattle.server_rules.specs.declared.BlockPart.{BlockPart}
use Rattle.server_rules.specs.declared.Slot.{Slot}
use Rattle.server_rules.specs.declared.Reader.{Reader}
use Rattle.server_rules.specs.declared.Server.{Server}
use Rattle.server_rules.specs.State.{no_slot, no_reader}
use Rattle.layout.proofs.Places.{both}
use Rattle.layout.specs.Fields.{flag_byte, row_bytes, flags_bytes, numbers_bytes}
use Rattle.layout.specs.Clients.{client_size, phase_byte, stamps_bytes, kept_bytes, rows_bytes, head_bytes, client_bytes}
use Rattle.layout.specs.Servers.{server_size, blocks_size, slot_size, slots_size, reader_size, readers_size, marks_bytes}
use Rattle.layout.specs.Servers.{votes_bytes, blocks_bytes, slot_bytes, slots_bytes, reader_bytes, readers_bytes, server_bytes}

pub length_flags : (xs : List Bool) → length (flags_bytes xs) ≡ 11
unfolding flags_bytes row_bytes
length_flags xs = length_joined (λ j. flag_byte (get_or xs j false) ∷ []) 1 0 11 (λ j. refl)

pub length_numbers : (xs : List ℕ) → length (numbers_bytes xs) ≡ 88
unfolding numbers_bytes row_bytes
length_numbers xs = length_joined (λ j. bytes8 (get_or xs j 0)) 8 0 11 (λ j. length_bytes8 (get_or xs j 0))

-- ---- a client's record

length_stamps : (xs : List Stamp) → length (stamps_bytes xs) ≡ 52
unfolding stamps_bytes row_bytes
length_stamps xs = length_joined (λ j. stamp_bytes (get_or xs j zero_stamp)) 13 0 4 (λ j. length_stamp (get_or xs j zero_stamp))

pub length_kept : (r : Row) → length (kept_bytes r) ≡ 60
unfolding kept_bytes
length_kept r = both (bytes8 r.count) (stamps_bytes r.stamps) 8 52 (length_bytes8 r.count) (length_stamps r.stamps)

pub length_rows : (xs : List Row) → length (rows_bytes xs) ≡ 660
unfolding rows_bytes row_bytes
length_rows xs = length_joined (λ j. kept_bytes (get_or xs j no_row)) 60 0 11 (λ j. length_kept (get_or xs j no_row))

pub length_head : (w r : ℕ) (b : Bool) (p : Phase) → length (head_bytes w r b p) ≡ 10
unfolding head_bytes
length_head w r b p =
    both (bytes4 w) (bytes4 r ++ (flag_byte b ∷ phase_byte p ∷ [])) 4 6 (length_bytes4 w)
    (both (bytes4 r) (flag_byte b ∷ phase_byte p ∷ []) 4 2 (length_bytes4 r) refl)

pub length_client : (s : Client) → length (client_bytes s) ≡ client_size
unfolding client_bytes
length_client s =
    let x = rows_bytes s.rows ++ numbers_bytes s.reports in
    let d = both (rows_bytes s.rows) (numbers_bytes s.reports) 660 88 (length_rows s.rows) (length_numbers s.reports) in
    let c = both (numbers_bytes s.times) x 88 748 (length_numbers s.times) d in
    let b = both (flags_bytes s.heard) (numbers_bytes s.times ++ x) 11 836 (length_flags s.heard) c in
    both (head_bytes s.writes s.reads s.closed s.phase) (flags_bytes s.heard ++ (numbers_bytes s.times ++ x)) 10 847
    (length_head s.writes s.reads s.closed s.phase) b

-- ---- a server's record

pub length_marks : (a b c : Bool) → length (marks_bytes a b c) ≡ 3
unfolding marks_bytes
length_marks a b c = refl

pub length_votes : (e r : List Bool) → length (votes_bytes e r) ≡ 22
unfolding votes_bytes
length_votes e r = both (flags_bytes e) (flags_bytes r) 11 11 (length_flags e) (length_flags r)

length_blocks : (b : BlockPart) → length (blocks_bytes b) ≡ blocks_size
unfolding blocks_bytes
length_blocks b =
    let m = marks_bytes b.sent b.ready b.complete in
    let v = votes_bytes b.echoes b.readies in
    let x = numbers_bytes b.echoed in
    let y = numbers_bytes b.readied in
    let f = both x y 88 88 (length_numbers b.echoed) (length_numbers b.readied) in
    let g = both v (x ++ y) 22 176 (length_votes b.echoes b.readies) f in
    let h = both (bytes8 b.time) (v ++ (x ++ y)) 8 198 (length_bytes8 b.time) g in
    both m (bytes8 b.time ++ (v ++ (x ++ y))) 3 206 (length_marks b.sent b.ready b.complete) h

pub length_slot : (x : Slot) → length (slot_bytes x) ≡ slot_size
unfolding slot_bytes
length_slot x = both (bytes8 x.sequence) (blocks_bytes x.blocks) 8 blocks_size (length_bytes8 x.sequence) (length_blocks x.blocks)

pub length_slots : (xs : List Slot) → length (slots_bytes xs) ≡ slots_size
unfolding slots_bytes row_bytes
length_slots xs = length_joined (λ j. slot_bytes (get_or xs j no_slot)) slot_size 0 9 (λ j. length_slot (get_or xs j no_slot))

pub length_reader : (x : Reader) → length (reader_bytes x) ≡ reader_size
unfolding reader_bytes
length_reader x =
    both (bytes4 x.sequence) (flag_byte x.listening ∷ stamp_bytes x.noted) 4 14 (length_bytes4 x.sequence)
    (both (flag_byte x.listening ∷ []) (stamp_bytes x.noted) 1 13 refl (length_stamp x.noted))

pub length_readers : (xs : List Reader) → length (readers_bytes xs) ≡ readers_size
unfolding readers_bytes row_bytes
length_readers xs = length_joined (λ j. reader_bytes (get_or xs j no_reader)) reader_size 0 9 (λ j. length_reader (get_or xs j no_reader))

pub length_server : (s : Server) → length (server_bytes s) ≡ server_size
unfolding server_bytes
length_server s =
    let x = readers_bytes s.readers ++ numbers_bytes s.reports in
    both (stamp_bytes s.stamp) (slots_bytes s.slots ++ x) 13 (slots_size + (readers_size + 88)) (length_stamp s.stamp)
    (both (slots_bytes s.slots) x slots_size (readers_size + 88) (length_slots s.slots)
    (both (readers_bytes s.readers) (numbers_bytes s.reports) readers_size 88 (length_readers s.readers) (length_numbers s.reports)))
