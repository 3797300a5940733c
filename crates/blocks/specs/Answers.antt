-- The block code's answer to a host, as one number: 0, or the number of the refusal. These are definitions.
use Rattle.std.specs.Prelude.{ℕ}
use Rattle.area.specs.Responses.{Response, turned_down, gives}

unfoldable pub code_answer : Response (Unit {0}) → ℕ
code_answer (gives x) = 0
code_answer (turned_down n) = n
