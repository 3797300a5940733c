-- What the types of the records say: each number is within its width, each array has its length. These are definitions.
use Rattle.std.specs.Prelude.{ℕ, ◌<◌, ◌≡◌, length}
use Rattle.frame.specs.declared.Stamp.{Stamp}
use Rattle.client_rules.specs.declared.Row.{Row}
use Rattle.client_rules.specs.declared.Client.{Client}
use Rattle.client_rules.specs.WellFormed as C
use Rattle.server_rules.specs.declared.BlockPart.{BlockPart}
use Rattle.server_rules.specs.declared.Slot.{Slot}
use Rattle.server_rules.specs.declared.Reader.{Reader}
use Rattle.server_rules.specs.declared.Server.{Server}
use Rattle.server_rules.specs.WellFormed.{Array, Bounds, BlocksWithin, SlotWithin, Within}

-- numbers of 32 and of 64 bits
abbrev pub Word : ℕ → Type 0
Word x = x < 4294967296

abbrev pub Long : ℕ → Type 0
Long x = x < 18446744073709551616

pub record TypedStamp (s : Stamp) : Type 0 where
  pub time : Long s.time
  pub writer : s.writer < 256
  pub sequence : Word s.sequence

-- ---- a client's record

pub record TypedRow (r : Row) : Type 0 where
  pub count : Long r.count
  pub stamps : Array 4 TypedStamp r.stamps

-- the numbers of operations have 32 bits; there are 11 flags, 11 times of 64 bits and 11 rows
abbrev pub client_widths : C.Bounds
client_widths = record { number = Word; heard = λ l. length l ≡ 11; times = Array 11 Long; rows = Array 11 TypedRow }

abbrev pub TypedClient : Client → Type 0
TypedClient = C.Within client_widths

-- ---- a server's record

pub record TypedReader (x : Reader) : Type 0 where
  pub sequence : Word x.sequence
  pub noted : TypedStamp x.noted

-- there are 11 flags of servers; times and sequences have 64 bits
abbrev pub widths : Bounds
widths = record { flags = λ l. length l ≡ 11; time = Long; sequence = Long; stamp = TypedStamp; reader = TypedReader }

abbrev pub TypedBlocks : BlockPart → Type 0
TypedBlocks = BlocksWithin widths

abbrev pub TypedSlot : Slot → Type 0
TypedSlot = SlotWithin widths

abbrev pub TypedServer : Server → Type 0
TypedServer = Within widths
