-- The outcome of writing an entry: the answer, and every byte of the lent area. Assumes nothing: these are definitions.
use Rattle.std.specs.Prelude.{ℕ, ◌+◌, List, length, ltb, Result, Ok, Err}
use Rattle.std.proofs.lemmas.List.Edits.{sets}
use Rattle.area.specs.Area.{pick}
use Rattle.area.specs.Responses.{Response, turned_down, gives}
use Rattle.frame.specs.declared.Party.{Party}
use Rattle.frame.specs.declared.Refusal.{Refusal}
use Rattle.frame.specs.Refusals.{number_of}
use Rattle.entries.specs.Entries.{frame_at, trace_entry, entry_bytes}

-- the longest frame of an entry: the entry's length, which counts the frame and three bytes before it, fits into two bytes
abbrev pub longest : ℕ
longest = 65532

-- how many bytes an entry takes, or why it is turned down
abbrev pub Writing : Type 0
Writing = Result ℕ Refusal

-- what a writing says, by its cases: how many bytes the entry takes, or the refusal's number
abbrev pub writing_response : Writing → Response ℕ
writing_response (Ok m) = gives m
writing_response (Err r) = turned_down (number_of r)

pub record Written : Type 0 where
  pub answer : Response ℕ
  pub out : List ℕ

abbrev pub written : Response ℕ → List ℕ → Written
written r out = record { answer = r; out = out }

-- an entry at the front of the area, and how many bytes it takes. Refusal 3: the frame is too long for an entry; 10: "lent area short"
unfoldable pub writing : Party → List ℕ → List ℕ → Written
writing p f out =
    pick (ltb longest (length f)) (written (turned_down 3) out)
    (pick (ltb (length out) (frame_at + length f)) (written (turned_down 10) out)
    (written (gives (frame_at + length f)) (sets out 0 (entry_bytes (trace_entry p f)))))
