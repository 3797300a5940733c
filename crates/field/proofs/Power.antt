-- The laws of powers in the byte field: of sums of exponents, of halved exponents, the period of 03, and that the 254th power of a byte other than 00 is its
-- inverse. Assumes nothing.
use mathlib.Core.Logic.{◌≢◌}
use mathlib.Core.Path.{◌≡◌, refl, sym, ap, ap₂, ◌∙◌}
use Prim.Native.Nat.{ℕ, zero, suc, ◌+◌, ◌-◌, ◌/◌, ◌%◌, ◌<◌, ◌≤◌}
use native.Mathlib.Nat.{suc-add, add-suc, zero-add, le_of_suc-le-suc, not-suc-le-zero}
use native.Mathlib.Omega.{arith}
use lib.Dec.{eqb, lit<}
use borrow.Author.Tests.{eqb-true}
use Rattle.area.proofs.Rules.{number}
use Rattle.field.specs.Field.{◌⊕◌, xtime, reduction, shift_add, ◌⊗◌, power_of}
use Rattle.field.proofs.Ring.{one_left, one_right, zero_left, assoc, product_byte}

pub power_byte : (a n : ℕ) → power_of a n < 256
unfolding power_of
power_byte a zero = lit< tt
power_byte a (suc n) = product_byte a (power_of a n)

pub power_add : (a m n : ℕ) → power_of a (m + n) ≡ power_of a m ⊗ power_of a n
unfolding power_of
power_add a zero n = ap (power_of a) (zero-add n) ∙ sym (one_left (power_of a n) (power_byte a n))
power_add a (suc m) n = ap (power_of a) (suc-add m n) ∙ ap (◌⊗◌ a) (power_add a m n) ∙ sym (assoc a (power_of a m) (power_of a n))

-- the power of a square has twice the exponent
pub power_square : (a n : ℕ) → power_of (a ⊗ a) n ≡ power_of a (n + n)
unfolding power_of
power_square a zero = refl
power_square a (suc n) =
    ap (◌⊗◌ (a ⊗ a)) (power_square a n) ∙ assoc a a (power_of a (n + n)) ∙ ap (power_of a) (sym (suc-add n (suc n) ∙ ap suc (add-suc n n)))

-- by halving the exponent
pub power_even : (a e : ℕ) → e % 2 ≡ 0 → power_of a e ≡ power_of (a ⊗ a) (e / 2)
power_even a e h =
    let split : e ≡ e / 2 + e / 2 = omega arith in
    ap (power_of a) split ∙ sym (power_square a (e / 2))

pub power_odd : (a e : ℕ) → e % 2 ≡ 1 → power_of a e ≡ a ⊗ power_of (a ⊗ a) (e / 2)
unfolding power_of
power_odd a e h =
    let split : e ≡ suc (e / 2 + e / 2) = omega arith in
    ap (power_of a) split ∙ ap (◌⊗◌ a) (sym (power_square a (e / 2)))

-- a turn of the loop that halves the exponent e: x is r times s to the power e, before and after
pub turn_odd : (x r s e r' s' : ℕ) → e % 2 ≡ 1 → r' ≡ r ⊗ s → s' ≡ s ⊗ s → r ⊗ power_of s e ≡ x → (r' ⊗ power_of s' (e / 2) ≡ x) × (r' < 256)
turn_odd x r s e r' s' h p q i = (
  ap₂ (λ (u v : ℕ). u ⊗ power_of v (e / 2)) p q ∙ assoc r s (power_of (s ⊗ s) (e / 2)) ∙ ap (◌⊗◌ r) (sym (power_odd s e h)) ∙ i,
  omega (arith, product_byte r s),
)

pub turn_even : (x r s e r' s' : ℕ) → e % 2 ≢ 1 → r' ≡ r → s' ≡ s ⊗ s → r < 256 → r ⊗ power_of s e ≡ x → (r' ⊗ power_of s' (e / 2) ≡ x) × (r' < 256)
turn_even x r s e r' s' h p q k i =
    let even : e % 2 ≡ 0 = omega arith in
    (ap₂ (λ (u v : ℕ). u ⊗ power_of v (e / 2)) p q ∙ ap (◌⊗◌ r) (sym (power_even s e even)) ∙ i, omega arith)

pub turn_none : (x r s e : ℕ) → e ≡ 0 → r < 256 → r ⊗ power_of s e ≡ x → r ≡ x
unfolding power_of
turn_none x r s e h k i = sym (one_right r k) ∙ ap (λ (n : ℕ). r ⊗ power_of s n) (sym h) ∙ i

-- ---- the period of 03

pub period : power_of 3 255 ≡ 1
unfolding power_of ◌⊗◌ shift_add xtime reduction ◌⊕◌
period = refl

pub period_add : (n : ℕ) → power_of 3 (255 + n) ≡ power_of 3 n
period_add n = power_add 3 255 n ∙ ap (λ (x : ℕ). x ⊗ power_of 3 n) period ∙ one_left (power_of 3 n) (power_byte 3 n)

-- a product by the logarithms of its factors, where their sum is below the period and where it is not
pub log_product : (a b i j : ℕ) → power_of 3 i ≡ a → power_of 3 j ≡ b → power_of 3 (i + j) ≡ a ⊗ b
log_product a b i j p q = power_add 3 i j ∙ ap₂ ◌⊗◌ p q

pub log_product_less : (a b i j : ℕ) → 255 ≤ i + j → power_of 3 i ≡ a → power_of 3 j ≡ b → power_of 3 (i + j - 255) ≡ a ⊗ b
log_product_less a b i j h p q =
    let back : 255 + (i + j - 255) ≡ i + j = omega arith in
    sym (period_add (i + j - 255)) ∙ ap (power_of 3) back ∙ log_product a b i j p q

-- ---- the inverse

-- the number of n binary digits 1, and the power of a with that exponent, by squares
ones : ℕ → ℕ
ones zero = 0
ones (suc n) = suc (ones n + ones n)

by_squares : ℕ → ℕ → ℕ
by_squares zero a = 1
by_squares (suc n) a = a ⊗ by_squares n (a ⊗ a)

by_squares_lem : (n a : ℕ) → by_squares n a ≡ power_of a (ones n)
unfolding by_squares ones power_of
by_squares_lem zero a = refl
by_squares_lem (suc n) a = ap (◌⊗◌ a) (by_squares_lem n (a ⊗ a) ∙ power_square a (ones n))

-- the 255th power is 1, computed for each byte but 00
full : (a : ℕ) → a < 255 → by_squares 8 (suc a) ≡ 1
unfolding by_squares ◌⊗◌ shift_add xtime reduction ◌⊕◌
full a h = eqb-true (by_squares 8 (suc a)) 1 (number (λ x. eqb (by_squares 8 (suc x)) 1) 255 refl a h)

pub inverse_right : (a : ℕ) → 0 < a → a < 256 → a ⊗ power_of a 254 ≡ 1
unfolding ones power_of
inverse_right zero p h = absurd (not-suc-le-zero p)
inverse_right (suc a) p h = sym (by_squares_lem 8 (suc a)) ∙ full a (le_of_suc-le-suc h)

-- the 254th power of 00 is 00
pub inverse_zero : power_of 0 254 ≡ 0
unfolding power_of
inverse_zero = zero_left (power_of 0 253)
