-- The number that a host is answered for a history. Its lowest byte is 0, or the number of the refusal, and then all else is 0. These are definitions.
use Rattle.std.specs.Prelude.{ℕ, ◌+◌, ◌*◌, ◌%◌}
use Rattle.area.specs.Responses.{Response, turned_down, gives}
use Rattle.order.specs.Histories.{Finding, has_order, no_order}
use Rattle.order.specs.declared.judge.Fault.{Fault}
use Rattle.order.specs.declared.judge.Fault.TheVariants.{Offending, Refused}

-- how many line numbers an answer gives
unfoldable pub line_count : Response Finding → ℕ
line_count (gives (has_order m)) = m
line_count (gives (no_order a b)) = 0
line_count (turned_down n) = 0

-- 0, its operations have an order, as many as the bytes above say; 1, a pair of them offends, the line number of the earlier in the byte above
-- and that of the later in the byte above that
unfoldable pub history_answer : Response Finding → ℕ
history_answer (gives (has_order m)) = 65536 * (m % 256)
history_answer (gives (no_order a b)) = 256 + 65536 * (a % 256) + 16777216 * (b % 256)
history_answer (turned_down n) = n

-- the number of what leaves no order
unfoldable pub fault_answer : Fault → ℕ
fault_answer (Offending p) = 256 + 65536 * (p.earlier % 256) + 16777216 * (p.later % 256)
fault_answer (Refused x) = x
