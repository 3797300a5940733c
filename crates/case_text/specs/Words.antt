-- The words of a line. These are definitions.
use Rattle.std.specs.Prelude.{ℕ, List, ◌==◌, length, unwrap_or, position}

-- how many bytes the first word has: those before the first space, or all
unfoldable pub word_length : List ℕ → ℕ
word_length line = unwrap_or (position (λ b. b == 0x20) line) (length line)
