-- Numbers of 2, 4 and 8 bytes, big-endian, read from a list and as the bytes that are written. Assumes nothing: these are definitions.
use Rattle.std.specs.Prelude.{ℕ, ◌+◌, ◌*◌, ◌/◌, ◌%◌, List, [], ◌∷◌, ◌++◌, get_or}

-- the number in the 2, 4 or 8 bytes from index i on
unfoldable pub be2 : List ℕ → ℕ → ℕ
be2 l i = get_or l i 0 * 256 + get_or l (i + 1) 0

unfoldable pub be4 : List ℕ → ℕ → ℕ
be4 l i = be2 l i * 65536 + be2 l (i + 2)

unfoldable pub be8 : List ℕ → ℕ → ℕ
be8 l i = be4 l i * 4294967296 + be4 l (i + 4)

-- the bytes of a number, the highest first
unfoldable pub bytes2 : ℕ → List ℕ
bytes2 x = x / 256 % 256 ∷ x % 256 ∷ []

unfoldable pub bytes4 : ℕ → List ℕ
bytes4 x = bytes2 (x / 65536) ++ bytes2 (x % 65536)

unfoldable pub bytes8 : ℕ → List ℕ
bytes8 x = bytes4 (x / 4294967296) ++ bytes4 (x % 4294967296)
