-- The forms in which the inner functions of the code state what they do: arrays that are filled in place, and turns taken four at a time. `digest` does not
-- cite them. Assumes nothing: these are definitions.
use Rattle.std.specs.Prelude.{ℕ, zero, suc, ◌+◌, ◌-◌, ◌*◌, ◌/◌, List, [], ◌∷◌, ◌++◌, length, replicate, slice_index, slice_set}
use Rattle.std.proofs.lemmas.List.Edits.{sets}
use Rattle.area.specs.Numbers.{bytes4, bytes8}
use Rattle.sha256.specs.declared.State.{State}
use Rattle.sha256.specs.Words.{add, sigma0, sigma1}
use Rattle.sha256.specs.Constants.{constants}
use Rattle.sha256.specs.Hash.{round, next_word}

-- how many blocks a message of n bytes has with its padding
unfoldable pub block_count : ℕ → ℕ
block_count n = (n + 72) / 64

-- an area of five blocks of zeros, enough for 256 bytes and their padding
unfoldable pub zeros : List ℕ
zeros = replicate 320 0

-- that area with a message and its padding stored
unfoldable pub laid : List ℕ → List ℕ
laid m = sets (sets (sets zeros 0 m) (length m) (128 ∷ [])) (block_count (length m) * 64 - 8) (bytes8 (length m * 8))

-- the turns t to t + 3
unfoldable pub four : State → List ℕ → ℕ → State
four s w t =
    round
    (round
    (round (round s (slice_index constants t) (slice_index w t)) (slice_index constants (t + 1)) (slice_index w (t + 1)))
    (slice_index constants (t + 2))
    (slice_index w (t + 2)))
    (slice_index constants (t + 3))
    (slice_index w (t + 3))

-- a word of the schedule from those 2, 7, 15 and 16 before it
unfoldable pub word_from : ℕ → ℕ → ℕ → ℕ → ℕ
word_from x y z u = add (add (add (sigma1 x) y) (sigma0 z)) u

-- the word 16 + t stored
unfoldable pub stored : List ℕ → ℕ → List ℕ
stored w t = slice_set w (16 + t) (next_word w (16 + t))

-- the words 16 + t to 16 + t + n - 1 stored
unfoldable pub stored_from : ℕ → List ℕ → ℕ → List ℕ
stored_from zero w t = w
stored_from (suc n) w t = stored (stored_from n w t) (t + n)

-- four words one after the other
unfoldable pub four_words : ℕ → ℕ → ℕ → ℕ → List ℕ
four_words x y z u = bytes4 x ++ (bytes4 y ++ (bytes4 z ++ bytes4 u))
