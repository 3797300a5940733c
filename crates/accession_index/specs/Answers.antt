-- The index's answers to a host, as one number. Its lowest byte is 0, or the number of the refusal, and then all other bytes are 0. These are definitions.
use Rattle.std.specs.Prelude.{ℕ, ◌*◌}
use Rattle.std.proofs.Math.Option.{Option, none, some}
use Rattle.area.specs.Responses.{Response, turned_down, gives}

-- an insertion: the place, in the bytes from the third on; or refusal 25 or 26
unfoldable pub insertion_answer : Response ℕ → ℕ
insertion_answer (gives p) = 65536 * p
insertion_answer (turned_down n) = n

-- a search: the place, or 0 for none
unfoldable pub search_answer : Option ℕ → ℕ
search_answer (some p) = 65536 * p
search_answer none = 0
