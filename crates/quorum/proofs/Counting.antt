-- Laws of counting the numbers 1 to n that pass a test. Assumes nothing.
use Prim.Native.Nat.{ℕ, zero, suc, ◌+◌, ◌≤◌, ◌<◌, zero-le}
use native.Mathlib.Omega.{arith}
use native.Mathlib.Decide.{dec_le}
use native.Mathlib.Nat.{not-suc-le-zero}
use mathlib.Core.Bool.{Bool, true, false, not, ◌&&◌}
use mathlib.Core.Path.{◌≡◌, refl, ap, ◌∙◌}
use Rattle.quorum.specs.Quorum.{bit, count, Among}

-- ---- one number more

pub count_suc : (p : ℕ → Bool) (k : ℕ) → count p (suc k) ≡ bit (p (suc k)) + count p k
unfolding count
count_suc p k = refl

-- ---- bounds

bit_le : (a : Bool) → bit a ≤ 1
bit_le true = omega arith
bit_le false = omega arith

pub count_le : (p : ℕ → Bool) (n : ℕ) → count p n ≤ n
unfolding count
count_le p zero = zero-le
count_le p (suc k) = omega (arith, count_le p k, bit_le (p (suc k)))

bit_not : (a : Bool) → bit (not a) + bit a ≡ 1
bit_not true = refl
bit_not false = refl

pub count_not : (p : ℕ → Bool) (n : ℕ) → count (λ j. not (p j)) n + count p n ≡ n
unfolding count
count_not p zero = refl
count_not p (suc k) = omega (arith, count_not p k, bit_not (p (suc k)))

bit_both : (a b : Bool) → bit a + bit b ≤ 1 + bit (a && b)
bit_both true b = omega arith
bit_both false true = omega arith
bit_both false false = omega arith

-- two sets of 1 to n share at least what they count beyond n
pub count_both : (p q : ℕ → Bool) (n : ℕ) → count p n + count q n ≤ n + count (λ j. p j && q j) n
unfolding count
count_both p q zero = zero-le
count_both p q (suc k) = omega (arith, count_both p q k, bit_both (p (suc k)) (q (suc k)))

-- ---- a larger set counts no less

bit_mono : (a b : Bool) → (a ≡ true → b ≡ true) → bit a ≤ bit b
bit_mono true b f = omega (arith, ap bit (f refl))
bit_mono false b f = omega arith

pub count_mono : (p q : ℕ → Bool) (n : ℕ) → ((j : ℕ) → Among n j → p j ≡ true → q j ≡ true) → count p n ≤ count q n
unfolding count
count_mono p q zero f = zero-le
count_mono p q (suc k) f =
    let below = count_mono p q k (λ j i e. f j (omega arith) e) in
    omega (arith, below, bit_mono (p (suc k)) (q (suc k)) (f (suc k) (omega arith)))

-- and more, if one member is new
pub count_more : (p q : ℕ → Bool) (n c : ℕ) → ((j : ℕ) → Among n j → p j ≡ true → q j ≡ true) → Among n c → p c ≡ false → q c ≡ true
    → count p n < count q n
unfolding count
count_more p q zero c f i d e = absurd (omega arith)
count_more p q (suc k) c f i d e = go (dec_le c k) (λ l. count_more p q k c (λ j i e. f j (omega arith) e) (omega arith) d e)
  where
    at_last : p (suc k) ≡ false → q (suc k) ≡ true → bit (p (suc k)) + count p k < bit (q (suc k)) + count q k
    at_last d e = omega (arith, ap bit d, ap bit e, count_mono p q k (λ j i e. f j (omega arith) e))

    go : Dec (c ≤ k) → (c ≤ k → count p k < count q k) → bit (p (suc k)) + count p k < bit (q (suc k)) + count q k
    go (yes l) r = omega (arith, r l, bit_mono (p (suc k)) (q (suc k)) (f (suc k) (omega arith)))
    go (no l) r =
        let z : suc k ≡ c = omega arith in
        at_last (ap p z ∙ d) (ap q z ∙ e)

-- ---- a count above zero has a member

pub record Passing (n : ℕ) (p : ℕ → Bool) : Type 0 where
  pub at : ℕ
  pub among : Among n at
  pub passes : p at ≡ true

pub some_passes : (p : ℕ → Bool) (n : ℕ) → 0 < count p n → Passing n p
unfolding count
some_passes p zero h = absurd (not-suc-le-zero h)
some_passes p (suc k) h = go (λ l. some_passes p k l) (p (suc k)) refl
  where
    go : (0 < count p k → Passing k p) → (b : Bool) → p (suc k) ≡ b → Passing (suc k) p
    go f true e = record { at = suc k; among = omega arith; passes = e }
    go f false e =
        let less : 0 < count p k = omega (arith, ap bit e) in
        let r = f less in
        record { at = r.at; among = omega (arith, r.among); passes = r.passes }
