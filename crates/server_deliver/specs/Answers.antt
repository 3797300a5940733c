-- A server's answer to a host, as one number. Its lowest byte is 0, or the number of the refusal, and then all other bytes are 0. These are definitions.
use Rattle.std.specs.Prelude.{ℕ, ◌*◌, ◌%◌}
use Rattle.area.specs.Responses.{Response, turned_down, gives}

-- the bytes from the third on say how many frames were sent
unfoldable pub server_answer : Response ℕ → ℕ
server_answer (gives m) = 65536 * (m % 65536)
server_answer (turned_down n) = n
