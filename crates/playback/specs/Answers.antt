-- A playback's answer to a host, as one number: its lowest byte is 0, or the number of the refusal, and then all other bytes are 0. These are definitions.
use Rattle.std.specs.Prelude.{ℕ, ◌+◌, ◌*◌, ◌%◌}
use Rattle.area.specs.Responses.{Response, turned_down, gives}
use Rattle.playback.specs.Playback.{End, whole, closed_with, Summed}

-- how the trace closed, in the second byte: 22 or 23; 0 where it is whole
unfoldable pub closed_answer : End → ℕ
closed_answer whole = 0
closed_answer (closed_with n i) = 256 * n

-- from the fourth byte on, how many entries were played; the third byte is 0
unfoldable pub summary_answer : Summed → ℕ
summary_answer x = closed_answer x.ending + 16777216 * (x.entries % 1099511627776)

unfoldable pub playback_answer : Response Summed → ℕ
playback_answer (gives x) = summary_answer x
playback_answer (turned_down n) = n
