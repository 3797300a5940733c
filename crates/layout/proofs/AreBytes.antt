-- What a record is written as are bytes, if its numbers are within their widths. Assumes nothing.
use Prim.Native.Nat.{ℕ, ◌+◌, ◌<◌}
use native.Mathlib.Omega.{arith}
use mathlib.Core.Bool.{Bool, true, false}
use mathlib.Core.List.{List, [], ◌∷◌, ◌++◌}
use lib.ListN.{get_or}
use Rattle.area.specs.Area.{pick, Bytes}
use Rattle.area.specs.Numbers.{bytes4, bytes8}
use Rattle.area.proofs.Numbers.{Bytes-append, Bytes-bytes4, Bytes-bytes8}
use Rattle.blocks.proofs.ByteLists.{Bytes-joined}
use Rattle.frame.specs.declared.Stamp.{Stamp}
use Rattle.frame.specs.Frames.{stamp_bytes}
use Rattle.frame.specs.Stamps.{zero_stamp}
use Rattle.client_rules.specs.declared.Phase.{Phase}
use Rattle.client_rules.specs.declared.Phase.TheVariants as F
use Rattle.client_rules.specs.declared.Row.{Row}
use Rattle.client_rules.specs.declared.Client.{Client}
use Rattle.client_rules.specs.State.{no_row}
use Rattle.server_rules.specs.declared.BlockPart.{BlockPart}
use Rattle.server_rules.specs.declared.Slot.{Slot}
use Rattle.server_rules.specs.declared.Reader.{Reader}
use Rattle.server_rules.specs.declared.Server.{Server}
use Rattle.server_rules.specs.State.{no_slot, no_reader}
use Rattle.server_rules.specs.WellFormed.{Array}
use Rattle.server_rules.proofs.Within.{get_d_every}
use Rattle.layout.specs.Fields.{flag_byte, row_bytes, flags_bytes, numbers_bytes}
use Rattle.layout.specs.Clients.{phase_byte, stamps_bytes, kept_bytes, rows_bytes, head_bytes, client_bytes}
use Rattle.layout.specs.Servers.{marks_bytes, votes_bytes, blocks_bytes, slot_bytes, slots_bytes, reader_bytes, readers_bytes, server_bytes}
use Rattle.layout.specs.Typed.{TypedStamp, TypedRow, TypedClient, TypedReader, TypedServer}

-- ---- what the layouts are made of

flag_byte_lem : (b : Bool) → flag_byte b < 256
unfolding flag_byte pick
flag_byte_lem true = omega arith
flag_byte_lem false = omega arith

row_bytes_lem : {A : Type 0} (P : A → Type 0) (f : A → List ℕ) (m : ℕ) (d : A) (xs : List A) → ((x : A) → P x → Bytes (f x)) → Array m P xs
    → Bytes (row_bytes f m d xs)
unfolding row_bytes
row_bytes_lem P f m d xs h e =
    let n = e.0 in Bytes-joined (λ j. f (get_or xs j d)) 0 m (λ j k. h (get_or xs j d) (get_d_every P xs j d e.1 (omega (arith, k, n))))

flags_bytes_lem : (xs : List Bool) → Bytes (flags_bytes xs)
unfolding flags_bytes row_bytes
flags_bytes_lem xs = Bytes-joined _ 0 11 (λ j k. (flag_byte_lem (get_or xs j false), tt))

numbers_bytes_lem : (xs : List ℕ) → Bytes (numbers_bytes xs)
unfolding numbers_bytes row_bytes
numbers_bytes_lem xs = Bytes-joined _ 0 11 (λ j k. Bytes-bytes8 (get_or xs j 0))

-- a stamp
pub stamp_bytes_lem : (s : Stamp) → TypedStamp s → Bytes (stamp_bytes s)
unfolding stamp_bytes
stamp_bytes_lem s t = Bytes-append (bytes8 s.time) (s.writer ∷ bytes4 s.sequence) (Bytes-bytes8 s.time) (t.writer, Bytes-bytes4 s.sequence)

-- ---- a client's record

phase_byte_lem : (p : Phase) → phase_byte p < 256
unfolding phase_byte
phase_byte_lem F.Idle = omega arith
phase_byte_lem F.Asking = omega arith
phase_byte_lem F.Acking = omega arith
phase_byte_lem F.Reading = omega arith

kept_bytes_lem : (r : Row) → TypedRow r → Bytes (kept_bytes r)
unfolding kept_bytes stamps_bytes
kept_bytes_lem r t =
    Bytes-append (bytes8 r.count) (stamps_bytes r.stamps) (Bytes-bytes8 r.count)
    (row_bytes_lem TypedStamp stamp_bytes 4 zero_stamp r.stamps stamp_bytes_lem t.stamps)

head_bytes_lem : (w r : ℕ) (b : Bool) (p : Phase) → Bytes (head_bytes w r b p)
unfolding head_bytes
head_bytes_lem w r b p =
    let z = flag_byte b ∷ phase_byte p ∷ [] in
    Bytes-append (bytes4 w) (bytes4 r ++ z) (Bytes-bytes4 w) (Bytes-append (bytes4 r) z (Bytes-bytes4 r) (flag_byte_lem b, (phase_byte_lem p, tt)))

pub client_bytes_lem : (s : Client) → TypedClient s → Bytes (client_bytes s)
unfolding client_bytes rows_bytes
client_bytes_lem s t =
    let z = rows_bytes s.rows ++ numbers_bytes s.reports in
    let y = numbers_bytes s.times ++ z in
    Bytes-append (head_bytes s.writes s.reads s.closed s.phase) (flags_bytes s.heard ++ y)
    (head_bytes_lem s.writes s.reads s.closed s.phase)
    (Bytes-append (flags_bytes s.heard) y (flags_bytes_lem s.heard)
    (Bytes-append (numbers_bytes s.times) z (numbers_bytes_lem s.times)
    (Bytes-append (rows_bytes s.rows) (numbers_bytes s.reports) (row_bytes_lem TypedRow kept_bytes 11 no_row s.rows kept_bytes_lem t.rows)
    (numbers_bytes_lem s.reports))))

-- ---- a server's record

marks_bytes_lem : (a b c : Bool) → Bytes (marks_bytes a b c)
unfolding marks_bytes
marks_bytes_lem a b c = (flag_byte_lem a, (flag_byte_lem b, (flag_byte_lem c, tt)))

votes_bytes_lem : (e r : List Bool) → Bytes (votes_bytes e r)
unfolding votes_bytes
votes_bytes_lem e r = Bytes-append (flags_bytes e) (flags_bytes r) (flags_bytes_lem e) (flags_bytes_lem r)

blocks_bytes_lem : (b : BlockPart) → Bytes (blocks_bytes b)
unfolding blocks_bytes
blocks_bytes_lem b =
    let u = bytes8 b.time in
    let y = votes_bytes b.echoes b.readies in
    let e = numbers_bytes b.echoed in
    let r = numbers_bytes b.readied in
    Bytes-append (marks_bytes b.sent b.ready b.complete) (u ++ (y ++ (e ++ r))) (marks_bytes_lem b.sent b.ready b.complete)
    (Bytes-append u (y ++ (e ++ r)) (Bytes-bytes8 b.time)
    (Bytes-append y (e ++ r) (votes_bytes_lem b.echoes b.readies)
    (Bytes-append e r (numbers_bytes_lem b.echoed) (numbers_bytes_lem b.readied))))

-- a slot's are, whatever its numbers are
pub slot_bytes_lem : (x : Slot) → Bytes (slot_bytes x)
unfolding slot_bytes
slot_bytes_lem x = Bytes-append (bytes8 x.sequence) (blocks_bytes x.blocks) (Bytes-bytes8 x.sequence) (blocks_bytes_lem x.blocks)

pub reader_bytes_lem : (x : Reader) → TypedReader x → Bytes (reader_bytes x)
unfolding reader_bytes
reader_bytes_lem x t =
    Bytes-append (bytes4 x.sequence) (flag_byte x.listening ∷ stamp_bytes x.noted) (Bytes-bytes4 x.sequence)
    (flag_byte_lem x.listening, stamp_bytes_lem x.noted t.noted)

pub server_bytes_lem : (s : Server) → TypedServer s → Bytes (server_bytes s)
unfolding server_bytes slots_bytes readers_bytes
server_bytes_lem s t =
    let y = slots_bytes s.slots in
    let r = readers_bytes s.readers in
    let z = r ++ numbers_bytes s.reports in
    Bytes-append (stamp_bytes s.stamp) (y ++ z) (stamp_bytes_lem s.stamp t.stamp)
    (Bytes-append y z (row_bytes_lem _ slot_bytes 9 no_slot s.slots (λ x k. slot_bytes_lem x) t.slots)
    (Bytes-append r (numbers_bytes s.reports) (row_bytes_lem TypedReader reader_bytes 9 no_reader s.readers reader_bytes_lem t.readers)
    (numbers_bytes_lem s.reports)))
