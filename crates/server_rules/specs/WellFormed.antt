-- A well-formed server: each array has its length, and each flag list, time, sequence, stamp and reader is within its bounds. What the bounds are is
-- a parameter, so that one law of a step serves all who ask (proofs/Within.antt). These are definitions.
use Rattle.std.specs.Prelude.{ℕ, Bool, ◌≡◌, List, [], ◌∷◌, length}
use Rattle.frame.specs.declared.Stamp.{Stamp}
use Rattle.server_rules.specs.declared.BlockPart.{BlockPart}
use Rattle.server_rules.specs.declared.Slot.{Slot}
use Rattle.server_rules.specs.declared.Reader.{Reader}
use Rattle.server_rules.specs.declared.Server.{Server}

-- every element of a list, and an array of m such elements
abbrev pub Every : {A : Type 0} → (A → Type 0) → List A → Type 0
Every P [] = Unit {0}
Every P (x ∷ xs) = P x × Every P xs

abbrev pub Array : {A : Type 0} → ℕ → (A → Type 0) → List A → Type 0
Array m P xs = (length xs ≡ m) × Every P xs

-- what is asked of servers' flags, of a time, of an open sequence, of a stamp and of a reader
pub record Bounds : Type 1 where
  pub flags : List Bool → Type 0
  pub time : ℕ → Type 0
  pub sequence : ℕ → Type 0
  pub stamp : Stamp → Type 0
  pub reader : Reader → Type 0

pub record BlocksWithin (B : Bounds) (b : BlockPart) : Type 0 where
  pub time : B.time b.time
  pub echoes : B.flags b.echoes
  pub readies : B.flags b.readies
  pub echoed : Array 11 B.time b.echoed
  pub readied : Array 11 B.time b.readied

pub record SlotWithin (B : Bounds) (x : Slot) : Type 0 where
  pub sequence : B.sequence x.sequence
  pub blocks : BlocksWithin B x.blocks

pub record Within (B : Bounds) (s : Server) : Type 0 where
  pub stamp : B.stamp s.stamp
  pub slots : Array 9 (SlotWithin B) s.slots
  pub readers : Array 9 B.reader s.readers
  pub reports : Array 11 B.time s.reports
