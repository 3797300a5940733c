-- How the code reads a number at the front of a text. These are the stages of `read_field`; Decimals.antt says what a number is.
-- Assumes nothing: these are definitions.
use Rattle.std.specs.Prelude.{ℕ, ◌+◌, ◌-◌, ◌*◌, ◌≤◌, List, [], ◌∷◌, eqb, ltb, leb, get_or, Option, Some, None}
use Rattle.area.specs.Area.{pick}
use Rattle.history_text.specs.declared.number.Field.{Field}

-- a number that was read, and how many bytes it takes
abbrev pub number_with : ℕ → ℕ → Option Field
number_with value used = Some (record { value = value; used = used })

-- the value of a digit; 48 to 57 are 0 to 9
unfoldable pub digit_of : ℕ → Option ℕ
digit_of c = pick (ltb c 48) None (pick (ltb 57 c) None (Some (c - 48)))

-- what follows a value, and what there is without one
unfoldable pub then_value : {T A : Type 0} → Option T → A → (T → A) → A
then_value (Some x) other f = f x
then_value None other f = other

-- the number that value and then the digits at the front of a text make, and how many bytes were used; none if it is above limit
unfoldable pub digits_of : ℕ → ℕ → ℕ → List ℕ → Option Field
digits_of limit value used [] = number_with value used
digits_of limit value used (c ∷ text) =
    then_value (digit_of c) (number_with value used)
    (λ d. pick (leb (value * 10 + d) limit) (digits_of limit (value * 10 + d) (used + 1) text) None)

-- a number at the front of a text: 0, or digits that do not begin with 0
unfoldable pub number_of : ℕ → List ℕ → Option Field
number_of limit [] = None
number_of limit (c ∷ text) = pick (eqb c 48) (number_with 0 1) (then_value (digit_of c) None (λ d. digits_of limit 0 0 (c ∷ text)))

-- what follows a number that was read
unfoldable pub then_number : {A : Type 0} → Option Field → A → (ℕ → ℕ → A) → A
then_number (Some n) bad f = f n.value n.used
then_number None bad f = bad

-- a number and the byte after it, a space or a newline
unfoldable pub field_of : ℕ → ℕ → List ℕ → Option Field
field_of limit end text = then_number (number_of limit text) None (λ value used. pick (eqb (get_or text used 0) end) (number_with value (used + 1)) None)

-- a number that was read is at most limit, and its bytes are there
abbrev pub WithinField : ℕ → ℕ → Option Field → Type 0
WithinField limit room (Some n) = (n.value ≤ limit) × (n.used ≤ room)
WithinField limit room None = Unit {0}
