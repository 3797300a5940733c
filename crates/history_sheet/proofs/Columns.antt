-- Numbers in columns: how many columns the digits of a number take, and the stores that put them. Assumes nothing.
use mathlib.Core.Path.{◌≡◌, refl, sym, ap, ◌∙◌}
use mathlib.Core.List.{List, [], ◌∷◌, ◌++◌, append_assoc, append-nil}
use Prim.Native.Nat.{ℕ, zero, suc, ◌+◌, ◌-◌, ◌*◌, ◌/◌, ◌%◌, ◌^◌, ◌<◌, ◌≤◌}
use native.Mathlib.Nat.{sub-zero}
use native.Mathlib.Omega.{arith}
use lib.Dec.{ltb}
use lib.ListN.{length, set, replicate, length-append, length-replicate}
use lib.Seq.{sets, set_comm}
use borrow.Author.Tests.{ltb-true, ltb-false}
use Rattle.area.proofs.Sets.{sets_snoc}
use Rattle.order.proofs.Lists.{by_test}
use Rattle.history_text.specs.Decimals.{value_from, decimal_of, decimal}
use Rattle.history_text.proofs.Decimals.{decimal_small, decimal_large, decimal_from, cons_digits, no_digits, is_digit_lem}
use Rattle.history_text.proofs.Bounds.{digits_long}
use Rattle.history_sheet.specs.Sheet.{aligned}

-- ---- the digits of a number

pub decimal_one : (n : ℕ) → n < 10 → decimal n ≡ (n + 48) ∷ []
unfolding decimal
decimal_one n h = decimal_small 19 n h

value_one : (n c : ℕ) → value_from n (c ∷ []) ≡ n * 10 + (c - 48)
unfolding value_from
value_one n c = refl

-- the digits of a number are those of its tenth, and then its last digit
pub decimal_more : (n : ℕ) → 10 ≤ n → n < 10 ^ 20 → decimal n ≡ decimal (n / 10) ++ ((n % 10 + 48) ∷ [])
decimal_more n g h =
    let c = n % 10 + 48 in
    let m : n % 10 < 10 = omega arith in
    let v : n / 10 * 10 + (c - 48) ≡ n = omega arith in
    let e : value_from (n / 10) (c ∷ []) ≡ n = value_one (n / 10) c ∙ v in
    let k : value_from (n / 10) (c ∷ []) < 10 ^ 20 = omega arith in
    ap decimal (sym e) ∙ decimal_from (n / 10) (c ∷ []) (omega arith) (cons_digits c [] (is_digit_lem c (omega arith) (omega arith)) no_digits) k

-- a number below 10 ^ w has at most w digits
pub length_decimal : (w n : ℕ) → n < 10 ^ suc w → length (decimal n) ≤ suc w
unfolding decimal
length_decimal w n h = digits_long 20 w n h

-- and at least one
pub decimal_some : (n : ℕ) → 1 ≤ length (decimal n)
unfolding decimal
decimal_some n =
    by_test (ltb n 10)
    (λ b. let e = ap length (decimal_small 19 n (ltb-true n 10 b)) in omega arith)
    (λ b.
    let e = ap length (decimal_large 19 n (ltb-false n 10 b)) in
    let l = length-append (decimal_of 19 (n / 10)) ((n % 10 + 48) ∷ []) in
    omega arith)

-- ---- texts aligned at the right

pub length_aligned : (w : ℕ) (t : List ℕ) → length t ≤ w → length (aligned w t) ≡ w
unfolding aligned
length_aligned w t h = simp (length-append, length-replicate) (omega arith)

-- one more byte at the end takes one more column
pub aligned_snoc : (w : ℕ) (t : List ℕ) (c : ℕ) → aligned (suc w) (t ++ (c ∷ [])) ≡ aligned w t ++ (c ∷ [])
unfolding aligned
aligned_snoc w t c =
    let e : suc w - length (t ++ (c ∷ [])) ≡ w - length t = (let l = length-append t (c ∷ []) in omega arith) in
    ap (λ k. replicate k 32 ++ (t ++ (c ∷ []))) e ∙ sym (append_assoc (replicate (w - length t) 32) t (c ∷ []))

-- ---- the stores of `put_number`

-- a store at a higher index may be made before the others
sets_behind : (d : List ℕ) (j c i : ℕ) (vs : List ℕ) → i + length vs ≤ j → sets (set d j c) i vs ≡ set (sets d i vs) j c
sets_behind d j c i [] h = refl
sets_behind d j c i (v ∷ vs) h =
    ap (λ l. sets l (suc i) vs) (set_comm d j i c v (λ e. omega arith)) ∙ sets_behind (set d i v) j c (suc i) vs (omega arith)

-- the last of the digits that are left is stored: the final outcome stays the same
digit_put : (d : List ℕ) (at k x : ℕ) → 10 ≤ x → x < 10 ^ 20 → length (decimal x) ≤ suc k
    → (length (decimal (x / 10)) ≤ k)
    × (sets (set d (at + k) (x % 10 + 48)) at (aligned k (decimal (x / 10))) ≡ sets d at (aligned (suc k) (decimal x)))
digit_put d at k x g h l =
    let e = decimal_more x g h in
    let c = x % 10 + 48 in
    let n = length-append (decimal (x / 10)) (c ∷ []) in
    let m = ap length e in
    let short : length (decimal (x / 10)) ≤ k = omega arith in
    let w = length_aligned k (decimal (x / 10)) short in (
      short,
      sets_behind d (at + k) c at (aligned k (decimal (x / 10))) (omega arith)
          ∙ ap (λ i. set (sets d at (aligned k (decimal (x / 10)))) (at + i) c) (sym w)
          ∙ sym (sets_snoc d at (aligned k (decimal (x / 10))) c)
          ∙ ap (sets d at) (sym (aligned_snoc k (decimal (x / 10)) c) ∙ ap (aligned (suc k)) (sym e)),
    )

pub digit_turn : (d : List ℕ) (at k x : ℕ) → 1 ≤ k → 10 ≤ x → x < 10 ^ 20 → length (decimal x) ≤ k
    → (length (decimal (x / 10)) ≤ k - 1)
    × (sets (set d (at + (k - 1)) (x % 10 + 48)) at (aligned (k - 1) (decimal (x / 10))) ≡ sets d at (aligned k (decimal x)))
digit_turn d at zero x p g h l = absurd (omega arith)
digit_turn d at (suc k) x p g h l = let e : suc k - 1 ≡ k = omega arith in rw e (digit_put d at k x g h l)

aligned_none : (w : ℕ) → aligned w [] ≡ replicate w 32
unfolding aligned
aligned_none w = rw sub-zero (append-nil (replicate w 32))

first_put : (d : List ℕ) (at k x : ℕ) → x < 10 → set (sets d at (replicate k 32)) (at + k) (x + 48) ≡ sets d at (aligned (suc k) (decimal x))
first_put d at k x h =
    ap (λ i. set (sets d at (replicate k 32)) (at + i) (x + 48)) (sym (length-replicate k 32))
    ∙ sym (sets_snoc d at (replicate k 32) (x + 48))
    ∙ ap (sets d at) (ap (λ l. l ++ ((x + 48) ∷ [])) (sym (aligned_none k)) ∙ sym (aligned_snoc k [] (x + 48)) ∙ ap (aligned (suc k)) (sym (decimal_one x h)))

-- the first digit, after spaces
pub first_turn : (d : List ℕ) (at k x : ℕ) → 1 ≤ k → x < 10
    → set (sets d at (replicate (k - 1) 32)) (at + (k - 1)) (x + 48) ≡ sets d at (aligned k (decimal x))
first_turn d at zero x p h = absurd (omega arith)
first_turn d at (suc k) x p h = let e : suc k - 1 ≡ k = omega arith in rw e (first_put d at k x h)
