-- Decimal numbers as text; 48 to 57 are the digits 0 to 9. Assumes nothing: these are definitions.
use Rattle.std.specs.Prelude.{ℕ, zero, suc, ◌+◌, ◌-◌, ◌*◌, ◌/◌, ◌%◌, Bool, true, false, List, [], ◌∷◌, ◌++◌, eqb, ltb, leb}
use Rattle.area.specs.Area.{pick}

unfoldable pub is_digit : ℕ → Bool
is_digit c = pick (ltb c 48) false (leb c 57)

unfoldable pub are_digits : List ℕ → Bool
are_digits [] = true
are_digits (c ∷ field) = pick (is_digit c) (are_digits field) false

-- the number that digits make if they follow others, which make n
unfoldable pub value_from : ℕ → List ℕ → ℕ
value_from n [] = n
value_from n (c ∷ field) = value_from (n * 10 + (c - 48)) field

unfoldable pub value_of : List ℕ → ℕ
value_of field = value_from 0 field

-- a number "without leading zeros": digits, one at least, and the first of several is not 0
unfoldable pub is_plain : List ℕ → Bool
is_plain [] = false
is_plain (c ∷ []) = is_digit c
is_plain (c ∷ d ∷ field) = pick (eqb c 48) false (are_digits (c ∷ d ∷ field))

-- such a number that is at most limit
unfoldable pub is_number : ℕ → List ℕ → Bool
is_number limit field = pick (is_plain field) (leb (value_of field) limit) false

-- the digits of a number of at most k digits
unfoldable pub decimal_of : ℕ → ℕ → List ℕ
decimal_of zero n = []
decimal_of (suc k) n = pick (ltb n 10) ((n + 48) ∷ []) (decimal_of k (n / 10) ++ ((n % 10 + 48) ∷ []))

-- numbers of 64 bits have at most 20 digits
unfoldable pub decimal : ℕ → List ℕ
decimal n = decimal_of 20 n
