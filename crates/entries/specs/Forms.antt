-- What is proved of entries (`Theorem`; its proof is in proofs/Theorem.antt): entries written are read back, only written forms are read, and a trace closes
-- where no entry begins. Assumes nothing: these are definitions and statements.
use Rattle.std.specs.Prelude.{ℕ, ◌≤◌, ◌<◌, ◌≡◌, List, [], ◌∷◌, ◌++◌, length}
use Rattle.area.specs.Area.{Bytes}
use Rattle.frame.specs.Messages.{number_in}
use Rattle.entries.specs.Entries.{TraceEntry, entry_bytes, trace_bytes, Trace, before, trace_of}
use Rattle.entries.specs.Writing.{longest}

-- an entry that can be written: the sender's number fits into a byte, and the length into two
pub record Writable (e : TraceEntry) : Type 0 where
  pub number : number_in e.sender < 256
  pub short : length e.frame ≤ longest

abbrev pub AllWritable : List TraceEntry → Type 0
AllWritable [] = Unit {0}
AllWritable (e ∷ es) = Writable e × AllWritable es

-- a trace closes at the bytes l, with a number
pub data Closes (l : List ℕ) : ℕ → Type 0 where
  -- no bytes are left
  closes_whole : l ≡ [] → Closes l 0
  -- whatever may follow them, no entry begins there
  closes_malformed : ((e : TraceEntry) → Writable e → (more rest : List ℕ) → l ++ more ≡ entry_bytes e ++ rest → ⊥) → Closes l 22
  -- they are the front of an entry, and not all of it
  closes_cut : (l ≡ [] → ⊥) → (e : TraceEntry) → Writable e → (more : List ℕ) → (more ≡ [] → ⊥) → l ++ more ≡ entry_bytes e → Closes l 23

-- what is read of the bytes l
pub record Read (l : List ℕ) (t : Trace) : Type 0 where
  pub rest : List ℕ
  pub writable : AllWritable t.entries
  pub is : l ≡ trace_bytes t.entries ++ rest
  pub closes : Closes rest t.closing

pub record Theorem : Type 0 where
  -- entries written are read back, whatever follows them
  pub back : (es : List TraceEntry) → AllWritable es → (rest : List ℕ) → trace_of (trace_bytes es ++ rest) ≡ before es (trace_of rest)
  -- only written forms are read, and a trace closes where no entry begins: at its end, at 22 or at 23
  pub only : (l : List ℕ) → Bytes l → Read l (trace_of l)
  -- 22 wherever the bytes that are there show it, and else 23
  pub malformed : ((trace_of (0x00 ∷ 0x02 ∷ [])).closing ≡ 22) × ((trace_of (0x00 ∷ 0x03 ∷ 0x02 ∷ [])).closing ≡ 22)
      × ((trace_of (0xff ∷ 0xff ∷ 0x01 ∷ 0x02 ∷ [])).closing ≡ 22)
  pub cut : ((trace_of (0x00 ∷ [])).closing ≡ 23) × ((trace_of (0x00 ∷ 0x03 ∷ [])).closing ≡ 23)
      × ((trace_of (0x00 ∷ 0x03 ∷ 0x01 ∷ 0x01 ∷ [])).closing ≡ 23)
      × ((trace_of (0xff ∷ 0xff ∷ 0x01 ∷ 0x01 ∷ [])).closing ≡ 23)
