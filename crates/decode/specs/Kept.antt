-- What is kept of the numbers and the blocks of a line, which may be of any length. Assumes nothing: these are definitions.
use Rattle.std.specs.Prelude.{ℕ, ◌≡◌, List, take}
use Rattle.blocks.specs.declared.Params.{Params}
use Rattle.blocks.specs.Calls.{Outcome, decoding}

-- how many numbers, and how many bytes of blocks: one more than is ever decoded, which is at most ten blocks of 256 bytes
unfoldable pub numbers_kept : ℕ
numbers_kept = 11

unfoldable pub bytes_kept : ℕ
bytes_kept = 2561

-- o is the outcome of decoding any numbers and blocks of which these are kept
unfoldable pub DecodesAll : Params → List ℕ → List ℕ → List ℕ → Outcome → Type 0
DecodesAll g numbers blocks out o = (js w : List ℕ) → numbers ≡ take numbers_kept js → blocks ≡ take bytes_kept w → o ≡ decoding g js w out
