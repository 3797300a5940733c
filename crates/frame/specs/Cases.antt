-- The twelve cases that document 01 asks to be proved together: the four blocks of 01 02 03 at k = 2, n = 4, their six pairs decoded,
-- 57 times 83, and the get-stamp frame of client 2, sequence 5. Assumes nothing: these are definitions.
use Rattle.std.specs.Prelude.{ℕ, List, [], ◌∷◌}
use Rattle.std.proofs.Math.Option.{Option, none, some}
use Rattle.field.specs.Field.{◌⊗◌}
use Rattle.blocks.specs.Code.{block_of, decoded_all}
use Rattle.frame.specs.Messages.{message, get_stamp}
use Rattle.frame.specs.Frames.{build}

-- what the definitions give, and what document 01 states
pub record Case : Type 0 where
  pub given : List ℕ
  pub stated : List ℕ

abbrev pub is : List ℕ → List ℕ → Case
is a b = record { given = a; stated = b }

-- what decoding gives; nothing, if the blocks disagree
abbrev pub value_in : Option (List ℕ) → List ℕ
value_in none = []
value_in (some v) = v

unfoldable pub value : List ℕ
value = 0x01 ∷ 0x02 ∷ 0x03 ∷ []

unfoldable pub cases : List Case
cases =
    is (block_of 2 value 1) (0x03 ∷ 0x03 ∷ [])
    ∷ is (block_of 2 value 2) (0x05 ∷ 0x03 ∷ [])
    ∷ is (block_of 2 value 3) (0x07 ∷ 0x03 ∷ [])
    ∷ is (block_of 2 value 4) (0x09 ∷ 0x03 ∷ [])
    ∷ is (value_in (decoded_all 2 3 (1 ∷ 2 ∷ []) (0x03 ∷ 0x03 ∷ 0x05 ∷ 0x03 ∷ []))) value
    ∷ is (value_in (decoded_all 2 3 (1 ∷ 3 ∷ []) (0x03 ∷ 0x03 ∷ 0x07 ∷ 0x03 ∷ []))) value
    ∷ is (value_in (decoded_all 2 3 (1 ∷ 4 ∷ []) (0x03 ∷ 0x03 ∷ 0x09 ∷ 0x03 ∷ []))) value
    ∷ is (value_in (decoded_all 2 3 (2 ∷ 3 ∷ []) (0x05 ∷ 0x03 ∷ 0x07 ∷ 0x03 ∷ []))) value
    ∷ is (value_in (decoded_all 2 3 (2 ∷ 4 ∷ []) (0x05 ∷ 0x03 ∷ 0x09 ∷ 0x03 ∷ []))) value
    ∷ is (value_in (decoded_all 2 3 (3 ∷ 4 ∷ []) (0x07 ∷ 0x03 ∷ 0x09 ∷ 0x03 ∷ []))) value
    ∷ is (0x57 ⊗ 0x83 ∷ []) (0xc1 ∷ [])
    ∷ is (build (message 2 5 get_stamp)) (0x00 ∷ 0x07 ∷ 0x01 ∷ 0x01 ∷ 0x02 ∷ 0x00 ∷ 0x00 ∷ 0x00 ∷ 0x05 ∷ [])
    ∷ []
