-- The operations on words of 32 bits: FIPS 180-4, sections 2.2.2, 3.2 and 4.1.2. A word is a number below 2^32. Assumes nothing: these are definitions.
use Rattle.std.specs.Prelude.{ℕ, ◌+◌, ◌-◌, ◌*◌, ◌/◌, ◌%◌, ◌^◌, bit_and, bit_or, bit_xor}

-- 3.2, 1: the sum modulo 2^32
abbrev pub add : ℕ → ℕ → ℕ
add x y = (x + y) % 2 ^ 32

-- 3.2, 3: the right shift by n
abbrev pub shr : ℕ → ℕ → ℕ
shr n x = x / 2 ^ n

-- 3.2, 2: the left shift by n, its overflow discarded
abbrev pub shl : ℕ → ℕ → ℕ
shl n x = x * 2 ^ n % 2 ^ 32

-- 3.2, 4: the rotation to the right by n
unfoldable pub rotr : ℕ → ℕ → ℕ
rotr n x = bit_or (shr n x) (shl (32 - n) x)

-- 2.2.2: the complement
abbrev pub complement : ℕ → ℕ
complement x = 2 ^ 32 - 1 - x

-- (4.2)
unfoldable pub ch : ℕ → ℕ → ℕ → ℕ
ch x y z = bit_xor (bit_and x y) (bit_and (complement x) z)

-- (4.3)
unfoldable pub maj : ℕ → ℕ → ℕ → ℕ
maj x y z = bit_xor (bit_xor (bit_and x y) (bit_and x z)) (bit_and y z)

-- (4.4)
unfoldable pub big_sigma0 : ℕ → ℕ
big_sigma0 x = bit_xor (bit_xor (rotr 2 x) (rotr 13 x)) (rotr 22 x)

-- (4.5)
unfoldable pub big_sigma1 : ℕ → ℕ
big_sigma1 x = bit_xor (bit_xor (rotr 6 x) (rotr 11 x)) (rotr 25 x)

-- (4.6)
unfoldable pub sigma0 : ℕ → ℕ
sigma0 x = bit_xor (bit_xor (rotr 7 x) (rotr 18 x)) (shr 3 x)

-- (4.7)
unfoldable pub sigma1 : ℕ → ℕ
sigma1 x = bit_xor (bit_xor (rotr 17 x) (rotr 19 x)) (shr 10 x)
