-- A client's answer to a host, as one number. Its lowest byte is 0, or the number of the refusal, and then all other bytes are 0. These are definitions.
use Rattle.std.specs.Prelude.{ℕ, ◌+◌, ◌*◌, ◌%◌, Ok, Err}
use Rattle.area.specs.Responses.{Response, turned_down, gives}
use Rattle.frame.specs.Refusals.{number_of, Verdict}
use Rattle.client_rules.specs.Answers.{Progress, goes_on, write_ends, write_closes, read_gives, read_disagrees}
use Rattle.client_rules.specs.declared.Phase.{Phase}
use Rattle.client_rules.specs.declared.Phase.TheVariants as F

-- the answer of a test
unfoldable pub test_answer : Verdict → ℕ
test_answer (Ok _) = 0
test_answer (Err r) = number_of r

-- the second byte says what happened: 0, nothing has ended; 1, the write has ended; 2, it closed as out of stamps; 3, the read has ended with a value;
-- 4, it has ended because its blocks disagree. The bytes above say how many frames were sent; at the end of a read a read-complete to each of n servers.
unfoldable pub client_answer : ℕ → Response Progress → ℕ
client_answer n (gives (goes_on m)) = 65536 * (m % 65536)
client_answer n (gives write_ends) = 256
client_answer n (gives write_closes) = 512
client_answer n (gives (read_gives x)) = 768 + 65536 * (n % 65536)
client_answer n (gives read_disagrees) = 1024 + 65536 * (n % 65536)
client_answer n (turned_down r) = r

-- the second byte says what is open: 0, nothing; 1, a write that awaits stamps; 2, a write that awaits acks; 3, a read. The bytes above say its number:
-- w of a write, r of a read
unfoldable pub open_answer : Phase → ℕ → ℕ → ℕ
open_answer F.Idle w r = 0
open_answer F.Asking w r = 256 + 65536 * w
open_answer F.Acking w r = 512 + 65536 * w
open_answer F.Reading w r = 768 + 65536 * r
