-- The laws of the byte field's product: over sums, of order and grouping, and of 1. All but the last follow from the product by 02 being
-- linear. Assumes nothing.
use mathlib.Core.Path.{◌≡◌, refl, sym, ap, ap₂, ◌∙◌}
use Prim.Native.Nat.{ℕ, zero, suc, ◌*◌, ◌/◌, ◌%◌, ◌<◌}
use native.Mathlib.Nat.{mod-lt, mod-eq_of_lt, zero-lt-suc, zero-mul, one-mul, mul-zero}
use native.Mathlib.Omega.{arith}
use lib.Dec.{eqb, lit<}
use borrow.Author.Tests.{eqb-true}
use Rattle.field.specs.Field.{◌⊕◌, xtime, reduction, shift_add, ◌⊗◌}
use Rattle.field.proofs.Sum.{bit, big, bit_times, times_bit, xtime_sum, four, byte, mod_256, mod_2, half, zero_l}
use Rattle.area.proofs.Rules.{number}

mod_byte : (n : ℕ) → n % 256 < 256
mod_byte n = mod-lt n (zero-lt-suc 255)

xtime_zero : xtime 0 ≡ 0
unfolding xtime reduction ◌⊕◌
xtime_zero = refl

xtime_byte : (a : ℕ) → xtime a < 256
unfolding xtime reduction
xtime_byte a = byte (a * 2 % 256) (a / 128 % 2 * reduction) (mod_byte (a * 2)) (omega arith)

xtime_bit : (p : ℕ) → p < 2 → (a : ℕ) → xtime (p * a) ≡ p * xtime a
xtime_bit zero h a = simp (zero-mul, xtime_zero)
xtime_bit (suc zero) h a = simp one-mul
xtime_bit (suc (suc p)) h a = big h

bit_byte : (p : ℕ) → p < 2 → (a : ℕ) → a < 256 → p * a < 256
bit_byte zero h a k = simp zero-mul (lit< tt)
bit_byte (suc zero) h a k = simp one-mul k
bit_byte (suc (suc p)) h a k = big h

add_byte : (n a b : ℕ) → a < 256 → shift_add n a b < 256
unfolding shift_add
add_byte zero a b h = lit< tt
add_byte (suc n) a b h =
    byte (b % 2 * a) (shift_add n (xtime a) (b / 2)) (bit_byte (b % 2) (bit b) a h) (add_byte n (xtime a) (b / 2) (xtime_byte a))

add_left : (n a a' b : ℕ) → shift_add n (a ⊕ a') b ≡ shift_add n a b ⊕ shift_add n a' b
unfolding shift_add
add_left zero a a' b = sym (zero_l 0)
add_left (suc n) a a' b =
    ap₂ ◌⊕◌ (times_bit (b % 2) (bit b) a a')
    (ap (λ (x : ℕ). shift_add n x (b / 2)) (xtime_sum a a') ∙ add_left n (xtime a) (xtime a') (b / 2))
    ∙ four (b % 2 * a) (b % 2 * a') (shift_add n (xtime a) (b / 2)) (shift_add n (xtime a') (b / 2))

add_right : (n a b b' : ℕ) → shift_add n a (b ⊕ b') ≡ shift_add n a b ⊕ shift_add n a b'
unfolding shift_add
add_right zero a b b' = sym (zero_l 0)
add_right (suc n) a b b' =
    ap₂ ◌⊕◌ (ap (λ (x : ℕ). x * a) (mod_2 b b') ∙ bit_times (b % 2) (b' % 2) (bit b) (bit b') a)
    (ap (shift_add n (xtime a)) (half b b') ∙ add_right n (xtime a) (b / 2) (b' / 2))
    ∙ four (b % 2 * a) (b' % 2 * a) (shift_add n (xtime a) (b / 2)) (shift_add n (xtime a) (b' / 2))

add_xtime : (n a b : ℕ) → shift_add n (xtime a) b ≡ xtime (shift_add n a b)
unfolding shift_add
add_xtime zero a b = sym xtime_zero
add_xtime (suc n) a b =
    ap₂ ◌⊕◌ (sym (xtime_bit (b % 2) (bit b) a)) (add_xtime n (xtime a) (b / 2))
    ∙ sym (xtime_sum (b % 2 * a) (shift_add n (xtime a) (b / 2)))

add_zero_left : (n b : ℕ) → shift_add n 0 b ≡ 0
unfolding shift_add
add_zero_left zero b = refl
add_zero_left (suc n) b = ap₂ ◌⊕◌ (mul-zero (b % 2)) (ap (λ (x : ℕ). shift_add n x (b / 2)) xtime_zero ∙ add_zero_left n (b / 2)) ∙ zero_l 0

add_bit : (p : ℕ) → p < 2 → (n a b : ℕ) → shift_add n (p * a) b ≡ p * shift_add n a b
add_bit zero h n a b = simp (zero-mul, add_zero_left)
add_bit (suc zero) h n a b = simp one-mul
add_bit (suc (suc p)) h n a b = big h

-- (a b) c = (a c) b, at any two counts of bits
add_swap : (n m a b c : ℕ) → shift_add m (shift_add n a b) c ≡ shift_add n (shift_add m a c) b
unfolding shift_add
add_swap zero m a b c = add_zero_left m c
add_swap (suc n) m a b c =
    add_left m (b % 2 * a) (shift_add n (xtime a) (b / 2)) c
    ∙ ap₂ ◌⊕◌ (add_bit (b % 2) (bit b) m a c)
    (add_swap n m (xtime a) (b / 2) c ∙ ap (λ (x : ℕ). shift_add n x (b / 2)) (add_xtime m a c))

-- a product by 01, computed for each byte
one_byte : (b : ℕ) → b < 256 → shift_add 8 1 b ≡ b
unfolding shift_add xtime reduction ◌⊕◌
one_byte b h = eqb-true (shift_add 8 1 b) b (number (λ x. eqb (shift_add 8 1 x) x) 256 refl b h)

pub product_byte : (a b : ℕ) → a ⊗ b < 256
unfolding ◌⊗◌
product_byte a b = add_byte 8 (a % 256) (b % 256) (mod_byte a)

pub mod_byte_id : {a : ℕ} → a < 256 → a % 256 ≡ a
mod_byte_id h = mod-eq_of_lt h

pub one_left : (a : ℕ) → a < 256 → 1 ⊗ a ≡ a
unfolding ◌⊗◌
one_left a h = ap (shift_add 8 1) (mod_byte_id h) ∙ one_byte a h

pub zero_left : (a : ℕ) → 0 ⊗ a ≡ 0
unfolding ◌⊗◌
zero_left a = add_zero_left 8 (a % 256)

pub over_left : (a b c : ℕ) → (a ⊕ b) ⊗ c ≡ a ⊗ c ⊕ b ⊗ c
unfolding ◌⊗◌
over_left a b c = ap (λ (x : ℕ). shift_add 8 x (c % 256)) (mod_256 a b) ∙ add_left 8 (a % 256) (b % 256) (c % 256)

pub over_right : (a b c : ℕ) → a ⊗ (b ⊕ c) ≡ a ⊗ b ⊕ a ⊗ c
unfolding ◌⊗◌
over_right a b c = ap (shift_add 8 (a % 256)) (mod_256 b c) ∙ add_right 8 (a % 256) (b % 256) (c % 256)

swap : (a b c : ℕ) → (a ⊗ b) ⊗ c ≡ (a ⊗ c) ⊗ b
unfolding ◌⊗◌
swap a b c =
    ap (λ (x : ℕ). shift_add 8 x (c % 256)) (mod_byte_id (product_byte a b))
    ∙ add_swap 8 8 (a % 256) (b % 256) (c % 256)
    ∙ sym (ap (λ (x : ℕ). shift_add 8 x (b % 256)) (mod_byte_id (product_byte a c)))

-- a factor counts by its low eight bits
left_mod : (a b : ℕ) → (a % 256) ⊗ b ≡ a ⊗ b
unfolding ◌⊗◌
left_mod a b = ap (λ (x : ℕ). shift_add 8 x (b % 256)) (mod_byte_id (mod_byte a))

one_mod : (a : ℕ) → 1 ⊗ a ≡ a % 256
unfolding ◌⊗◌
one_mod a = one_byte (a % 256) (mod_byte a)

pub comm : (a b : ℕ) → a ⊗ b ≡ b ⊗ a
comm a b =
    sym (left_mod a b) ∙ ap (λ (x : ℕ). x ⊗ b) (sym (one_mod a)) ∙ swap 1 a b
    ∙ ap (λ (x : ℕ). x ⊗ a) (one_mod b) ∙ left_mod b a

pub one_right : (a : ℕ) → a < 256 → a ⊗ 1 ≡ a
one_right a h = comm a 1 ∙ one_left a h

pub zero_right : (a : ℕ) → a ⊗ 0 ≡ 0
zero_right a = comm a 0 ∙ zero_left a

pub assoc : (a b c : ℕ) → (a ⊗ b) ⊗ c ≡ a ⊗ (b ⊗ c)
assoc a b c = ap (λ (x : ℕ). x ⊗ c) (comm a b) ∙ swap b a c ∙ comm (b ⊗ c) a

pub left_comm : (a b c : ℕ) → a ⊗ (b ⊗ c) ≡ b ⊗ (a ⊗ c)
left_comm a b c = sym (assoc a b c) ∙ ap (λ (x : ℕ). x ⊗ c) (comm a b) ∙ assoc b a c
