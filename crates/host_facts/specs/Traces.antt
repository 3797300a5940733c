-- What a host is answered when it reads or writes an entry of a trace. These are definitions.
use Rattle.std.specs.Prelude.{ℕ, ◌+◌, ◌*◌, ◌%◌, List, length, get_or, ltb}
use Rattle.std.proofs.Math.Option.{Option, none, some}
use Rattle.area.specs.Area.{pick}
use Rattle.area.specs.Responses.{Response, turned_down, gives}
use Rattle.frame.specs.Outbox.{party_bytes, party_in}
use Rattle.entries.specs.declared.Found.{Found}
use Rattle.entries.specs.Entries.{frame_at, reading_of}
use Rattle.entries.specs.Writing.{longest, Written, writing}
use Rattle.host_facts.specs.Outcomes.{Wrote, wrote}

-- there is an entry: the second byte of the answer is 1, the third is the sender's class and the fourth its number; the bytes above say how many bytes the
-- entry takes
unfoldable pub found_answer : Found → ℕ
found_answer x =
    256 + 65536 * get_or (party_bytes x.sender) 0 0 + 16777216 * get_or (party_bytes x.sender) 1 0 + 4294967296 * (x.end % 4294967296)

-- 0: no bytes are left. 22, 23: what is there is not a whole entry
unfoldable pub reading_answer : Response (Option Found) → ℕ
reading_answer (gives none) = 0
reading_answer (gives (some x)) = found_answer x
reading_answer (turned_down n) = n

unfoldable pub entry_read_call : List ℕ → ℕ
entry_read_call l = reading_answer (reading_of l)

-- how many bytes the entry takes, from the third byte of the answer on; or refusal 3 or 10
unfoldable pub writing_answer : Response ℕ → ℕ
writing_answer (gives m) = 65536 * (m % 281474976710656)
writing_answer (turned_down n) = n

unfoldable pub entry_wrote : Written → Wrote
entry_wrote x = wrote (writing_answer x.answer) x.out

-- refusal 11: an entry cannot name this sender; 3 and 10 come first
unfoldable pub nobody_answer : ℕ → ℕ → ℕ
nobody_answer len room = pick (ltb longest len) 3 (pick (ltb room (frame_at + len)) 10 11)

-- nobody has a class above 1 or a number above 255
unfoldable pub entry_write_call : ℕ → ℕ → List ℕ → List ℕ → Wrote
entry_write_call class j f out =
    pick (ltb 1 class) (wrote (nobody_answer (length f) (length out)) out)
    (pick (ltb 255 j) (wrote (nobody_answer (length f) (length out)) out)
    (entry_wrote (writing (party_in class j) f out)))
