-- The laws of exclusive or on numbers, and that of the product by 02 over it. Assumes nothing.
use mathlib.Core.Path.{◌≡◌, refl, sym, ap, ap₂, ◌∙◌}
use Prim.Native.Nat.{ℕ, zero, suc, ◌+◌, ◌*◌, ◌/◌, ◌%◌, ◌<◌}
use native.Mathlib.Nat.{mod-lt, add-zero, not-suc-le-zero, le_of_suc-le-suc, zero-lt-suc, one-mul, zero-mul}
use lib.Bits.{bit_xor, differ, xor_step, xor_comm, xor_zero_r, xor_self, xor_shr, xor_mod, xor_block, xor_lt}
use lib.Arith.{bin_ind}
use Rattle.field.specs.Field.{◌⊕◌, reduction, xtime}

pub comm : (a b : ℕ) → a ⊕ b ≡ b ⊕ a
unfolding ◌⊕◌
comm a b = xor_comm a b

pub zero_l : (a : ℕ) → 0 ⊕ a ≡ a
unfolding ◌⊕◌
zero_l a = refl

pub zero_r : (a : ℕ) → a ⊕ 0 ≡ a
unfolding ◌⊕◌
zero_r a = xor_zero_r a

pub self : (a : ℕ) → a ⊕ a ≡ 0
unfolding ◌⊕◌
self a = xor_self a

pub big : {A : Type 0} {x : ℕ} → suc (suc x) < 2 → A
big h = absurd (not-suc-le-zero (le_of_suc-le-suc (le_of_suc-le-suc h)))

bit_assoc : (x y z : ℕ) → x < 2 → y < 2 → z < 2 → differ (bit_xor x y) z ≡ differ x (bit_xor y z)
bit_assoc zero zero zero p q r = refl
bit_assoc zero zero (suc zero) p q r = refl
bit_assoc zero (suc zero) zero p q r = refl
bit_assoc zero (suc zero) (suc zero) p q r = refl
bit_assoc (suc zero) zero zero p q r = refl
bit_assoc (suc zero) zero (suc zero) p q r = refl
bit_assoc (suc zero) (suc zero) zero p q r = refl
bit_assoc (suc zero) (suc zero) (suc zero) p q r = refl
bit_assoc zero zero (suc (suc z)) p q r = big r
bit_assoc zero (suc zero) (suc (suc z)) p q r = big r
bit_assoc (suc zero) zero (suc (suc z)) p q r = big r
bit_assoc (suc zero) (suc zero) (suc (suc z)) p q r = big r
bit_assoc zero (suc (suc y)) z p q r = big q
bit_assoc (suc zero) (suc (suc y)) z p q r = big q
bit_assoc (suc (suc x)) y z p q r = big p

pub bit : (n : ℕ) → n % 2 < 2
bit n = mod-lt n (zero-lt-suc 1)

left : (a b c : ℕ) → bit_xor (bit_xor a b) c ≡ bit_xor (bit_xor (a / 2) (b / 2)) (c / 2) * 2 + differ (bit_xor (a % 2) (b % 2)) (c % 2)
left a b c =
    xor_step (bit_xor a b) c ∙ ap₂ (λ (x y : ℕ). bit_xor x (c / 2) * 2 + differ y (c % 2)) (xor_shr a b 1) (xor_mod a b 1)

right : (a b c : ℕ) → bit_xor a (bit_xor b c) ≡ bit_xor (a / 2) (bit_xor (b / 2) (c / 2)) * 2 + differ (a % 2) (bit_xor (b % 2) (c % 2))
right a b c =
    xor_step a (bit_xor b c) ∙ ap₂ (λ (x y : ℕ). bit_xor (a / 2) x * 2 + differ (a % 2) y) (xor_shr b c 1) (xor_mod b c 1)

assoc_bits : (a b c : ℕ) → bit_xor (bit_xor a b) c ≡ bit_xor a (bit_xor b c)
assoc_bits a =
    bin_ind (λ (n : ℕ). (b c : ℕ) → bit_xor (bit_xor n b) c ≡ bit_xor n (bit_xor b c)) (λ b c. refl)
    (λ n ih b c. left n b c
    ∙ ap₂ (λ (x y : ℕ). x * 2 + y) (ih (b / 2) (c / 2)) (bit_assoc (n % 2) (b % 2) (c % 2) (bit n) (bit b) (bit c))
    ∙ sym (right n b c))
    a

pub assoc : (a b c : ℕ) → (a ⊕ b) ⊕ c ≡ a ⊕ (b ⊕ c)
unfolding ◌⊕◌
assoc a b c = assoc_bits a b c

pub left_comm : (a b c : ℕ) → a ⊕ (b ⊕ c) ≡ b ⊕ (a ⊕ c)
left_comm a b c = sym (assoc a b c) ∙ ap (λ (x : ℕ). x ⊕ c) (comm a b) ∙ assoc b a c

pub cancel : (a b : ℕ) → a ⊕ (a ⊕ b) ≡ b
cancel a b = sym (assoc a a b) ∙ ap (λ (x : ℕ). x ⊕ b) (self a) ∙ zero_l b

pub four : (a b c d : ℕ) → (a ⊕ b) ⊕ (c ⊕ d) ≡ (a ⊕ c) ⊕ (b ⊕ d)
four a b c d = simp (assoc, comm, left_comm)

pub equal : (a b : ℕ) → a ⊕ b ≡ 0 → a ≡ b
equal a b e = sym (zero_r a) ∙ ap (λ (x : ℕ). a ⊕ x) (sym e) ∙ cancel a b

pub byte : (a b : ℕ) → a < 256 → b < 256 → a ⊕ b < 256
unfolding ◌⊕◌
byte a b p q = xor_lt 8 a b p q

pub mod_256 : (a b : ℕ) → (a ⊕ b) % 256 ≡ (a % 256) ⊕ (b % 256)
unfolding ◌⊕◌
mod_256 a b = xor_mod a b 8

pub mod_2 : (a b : ℕ) → (a ⊕ b) % 2 ≡ (a % 2) ⊕ (b % 2)
unfolding ◌⊕◌
mod_2 a b = xor_mod a b 1

pub half : (a b : ℕ) → (a ⊕ b) / 2 ≡ (a / 2) ⊕ (b / 2)
unfolding ◌⊕◌
half a b = xor_shr a b 1

top : (a b : ℕ) → (a ⊕ b) / 128 ≡ (a / 128) ⊕ (b / 128)
unfolding ◌⊕◌
top a b = xor_shr a b 7

twice : (a b : ℕ) → (a ⊕ b) * 2 ≡ (a * 2) ⊕ (b * 2)
unfolding ◌⊕◌
twice a b =
    sym (add-zero (bit_xor a b * 2)) ∙ sym (xor_block 1 a b 0 0 (zero-lt-suc 1) (zero-lt-suc 1))
    ∙ ap₂ bit_xor (add-zero (a * 2)) (add-zero (b * 2))

-- a bit times a number
pub bit_times : (p q : ℕ) → p < 2 → q < 2 → (a : ℕ) → (p ⊕ q) * a ≡ (p * a) ⊕ (q * a)
bit_times zero q h k a = simp (zero_l, zero-mul)
bit_times (suc zero) zero h k a = simp (zero_r, zero-mul)
bit_times (suc zero) (suc zero) h k a = simp (self, zero-mul)
bit_times (suc zero) (suc (suc q)) h k a = big k
bit_times (suc (suc p)) q h k a = big h

pub times_bit : (p : ℕ) → p < 2 → (a b : ℕ) → p * (a ⊕ b) ≡ (p * a) ⊕ (p * b)
times_bit zero h a b = simp (zero_l, zero-mul)
times_bit (suc zero) h a b = simp one-mul
times_bit (suc (suc p)) h a b = big h

pub xtime_sum : (a b : ℕ) → xtime (a ⊕ b) ≡ xtime a ⊕ xtime b
unfolding xtime
xtime_sum a b =
    ap₂ ◌⊕◌
    (ap (λ (x : ℕ). x % 256) (twice a b) ∙ mod_256 (a * 2) (b * 2))
    (ap (λ (x : ℕ). x % 2 * reduction) (top a b) ∙ ap (λ (x : ℕ). x * reduction) (mod_2 (a / 128) (b / 128))
    ∙ bit_times (a / 128 % 2) (b / 128 % 2) (bit (a / 128)) (bit (b / 128)) reduction)
    ∙ four (a * 2 % 256) (b * 2 % 256) (a / 128 % 2 * reduction) (b / 128 % 2 * reduction)
