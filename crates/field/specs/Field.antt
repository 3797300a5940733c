-- The byte field of FIPS 197, section 4: a sum is the exclusive or, and a product that of polynomials over the bits modulo 11B (hexadecimal). It knows no
-- table. Factors count by their low eight bits, so that the laws of the product need no bound. Assumes nothing: these are definitions.
use Rattle.std.specs.Prelude.{ℕ, zero, suc, ◌*◌, ◌/◌, ◌%◌, ◌<◌, ◌≡◌, List, get_or}
use Rattle.std.specs.Int.Bits.{bit_xor}

infixl 65 ◌⊕◌
-- FIPS 197, 4.1: the sum of two bytes
unfoldable pub ◌⊕◌ : ℕ → ℕ → ℕ
a ⊕ b = bit_xor a b

-- the polynomial 11B without its top bit
unfoldable pub reduction : ℕ
reduction = 0x1b

-- 4.2.1: the product with 02, which is a shift by one place and, if the top bit was set, the sum with 1B
unfoldable pub xtime : ℕ → ℕ
xtime a = (a * 2 % 256) ⊕ (a / 128 % 2 * reduction)

-- the sum of a times 02 to the power i over the set bits i of b, for the n low bits of b
unfoldable pub shift_add : ℕ → ℕ → ℕ → ℕ
shift_add zero a b = 0
shift_add (suc n) a b = (b % 2 * a) ⊕ shift_add n (xtime a) (b / 2)

infixl 70 ◌⊗◌
-- 4.2: the product of two bytes
unfoldable pub ◌⊗◌ : ℕ → ℕ → ℕ
a ⊗ b = shift_add 8 (a % 256) (b % 256)

-- the power of a with the exponent n
unfoldable pub power_of : ℕ → ℕ → ℕ
power_of a zero = 1
power_of a (suc n) = a ⊗ power_of a n

-- Document 01, "Blocks": 255 powers of 03
unfoldable pub Powers : List ℕ → Type 0
Powers l = (e : ℕ) → e < 255 → get_or l e 0 ≡ power_of 3 e

-- the logarithm of each byte but 00, whose entry is 0
unfoldable pub Logs : List ℕ → Type 0
Logs l = (get_or l 0 0 ≡ 0) × ((a : ℕ) → 0 < a → a < 256 → (get_or l a 0 < 255) × (power_of 3 (get_or l a 0) ≡ a))

-- the two tables of a product
pub record Tables (ps ls : List ℕ) : Type 0 where
  pub powers : Powers ps
  pub logs : Logs ls
