-- Decimal numbers and the texts that say them: a number's digits are plain and have its value (`plain_decimal`, `value_decimal`), and plain digits are
-- those of their value (`decimal_plain`). Assumes nothing.
use mathlib.Core.Path.{◌≡◌, refl, sym, ap, ap₂, ◌∙◌}
use mathlib.Core.Bool.{true, false}
use mathlib.Core.List.{List, [], ◌∷◌, ◌++◌, append-nil, append_assoc}
use Prim.Native.Nat.{ℕ, zero, suc, ◌+◌, ◌-◌, ◌*◌, ◌/◌, ◌%◌, ◌^◌, ◌<◌, ◌≤◌}
use native.Mathlib.Nat.{pow-suc}
use native.Mathlib.Omega.{arith}
use lib.Dec.{ltb, leb}
use borrow.Author.Tests.{ltb-true, ltb-false, leb-true, eqb-false, lt-ltb, le-ltb, le-leb, ne_eqb}
use Rattle.area.proofs.Tests.{pick_is, pick_not}
use Rattle.order.proofs.Picks.{pick_yes, pick_no}
use Rattle.order.proofs.Lists.{by_test}
use Rattle.order.proofs.StampLaws.{false_true}
use Rattle.history_text.specs.Decimals.{is_digit, are_digits, value_from, value_of, is_plain, decimal_of, decimal}

-- ---- digits

pub record Digit (c : ℕ) : Type 0 where
  pub low : 48 ≤ c
  pub high : c ≤ 57

pub digit_is : (c : ℕ) → is_digit c ≡ true → Digit c
unfolding is_digit
digit_is c e =
    let p = pick_not (ltb c 48) false (leb c 57) true false_true e in
    record { low = ltb-false c 48 p.0; high = leb-true c 57 p.1 }

pub is_digit_lem : (c : ℕ) → 48 ≤ c → c ≤ 57 → is_digit c ≡ true
unfolding is_digit
is_digit_lem c l h = sym (pick_no _ _ _ refl (le-ltb c 48 l) (sym (le-leb c 57 h)))

pub digits_cons : (c : ℕ) (f : List ℕ) → are_digits (c ∷ f) ≡ true → (is_digit c ≡ true) × (are_digits f ≡ true)
unfolding are_digits
digits_cons c f e = pick_is _ _ _ _ false_true e

pub cons_digits : (c : ℕ) (f : List ℕ) → is_digit c ≡ true → are_digits f ≡ true → are_digits (c ∷ f) ≡ true
unfolding are_digits
cons_digits c f d e = sym (pick_yes _ _ _ refl d (sym e))

digits_append : (f g : List ℕ) → are_digits f ≡ true → are_digits g ≡ true → are_digits (f ++ g) ≡ true
digits_append [] g h e = e
digits_append (c ∷ f) g h e = let p = digits_cons c f h in cons_digits c (f ++ g) p.0 (digits_append f g p.1 e)

pub no_digits : are_digits [] ≡ true
unfolding are_digits
no_digits = refl

-- ---- the digits of a number

pub decimal_small : (k n : ℕ) → n < 10 → decimal_of (suc k) n ≡ (n + 48) ∷ []
unfolding decimal_of
decimal_small k n h = sym (pick_yes _ _ _ refl (lt-ltb n 10 h) refl)

pub decimal_large : (k n : ℕ) → 10 ≤ n → decimal_of (suc k) n ≡ decimal_of k (n / 10) ++ ((n % 10 + 48) ∷ [])
unfolding decimal_of
decimal_large k n h = sym (pick_no _ _ _ refl (le-ltb n 10 h) refl)

pub tenth : (k n : ℕ) → n < 10 ^ suc k → n / 10 < 10 ^ k
tenth k n h = let p : n < 10 ^ k * 10 = rw pow-suc at h in omega arith

-- a number of at most 64 bits has at most 20 digits
pub below_all : (n limit : ℕ) → n ≤ limit → limit ≤ 18446744073709551615 → n < 10 ^ 20
below_all n limit h g = omega arith

pub decimal_none : (n : ℕ) → decimal_of 0 n ≡ []
unfolding decimal_of
decimal_none n = refl

pub digits_decimal : (k n : ℕ) → are_digits (decimal_of k n) ≡ true
digits_decimal zero n = ap are_digits (decimal_none n) ∙ no_digits
digits_decimal (suc k) n =
    by_test (ltb n 10)
    (λ b. let g : n < 10 = ltb-true n 10 b in
    ap are_digits (decimal_small k n g) ∙ cons_digits (n + 48) [] (is_digit_lem (n + 48) (omega arith) (omega arith)) no_digits)
    (λ b. let g : 10 ≤ n = ltb-false n 10 b in
    let m : n % 10 < 10 = omega arith in
    ap are_digits (decimal_large k n g)
    ∙ digits_append (decimal_of k (n / 10)) _ (digits_decimal k (n / 10))
    (cons_digits (n % 10 + 48) [] (is_digit_lem (n % 10 + 48) (omega arith) (omega arith)) no_digits))

-- one digit more to spare
decimal_spare : (k n : ℕ) → n < 10 ^ suc k → decimal_of (suc (suc k)) n ≡ decimal_of (suc k) n
decimal_spare zero n h = let g : n < 10 = h in decimal_small 1 n g ∙ sym (decimal_small 0 n g)
decimal_spare (suc k) n h =
    by_test (ltb n 10)
    (λ b. let g : n < 10 = ltb-true n 10 b in decimal_small (suc (suc k)) n g ∙ sym (decimal_small (suc k) n g))
    (λ b. let g : 10 ≤ n = ltb-false n 10 b in
    decimal_large (suc (suc k)) n g
    ∙ ap (λ l. l ++ ((n % 10 + 48) ∷ [])) (decimal_spare k (n / 10) (tenth (suc k) n h))
    ∙ sym (decimal_large (suc k) n g))

-- the first digit is not 0
pub record Head (l : List ℕ) : Type 0 where
  pub byte : ℕ
  pub rest : List ℕ
  pub is : l ≡ byte ∷ rest
  pub low : 49 ≤ byte
  pub high : byte ≤ 57

pub head : (k n : ℕ) → 1 ≤ n → n < 10 ^ k → Head (decimal_of k n)
head zero n g h = absurd (let e : n < 1 = h in omega arith)
head (suc k) n g h =
    by_test (ltb n 10)
    (λ b. let l : n < 10 = ltb-true n 10 b in record { byte = n + 48; rest = []; is = decimal_small k n l; low = omega arith; high = omega arith })
    (λ b.
    let l : 10 ≤ n = ltb-false n 10 b in
    let d = head k (n / 10) (omega arith) (tenth k n h) in
    record {
      byte = d.byte;
      rest = d.rest ++ ((n % 10 + 48) ∷ []);
      is = decimal_large k n l ∙ ap (λ x. x ++ ((n % 10 + 48) ∷ [])) d.is;
      low = d.low;
      high = d.high;
    })

pub plain_head : (c : ℕ) (f : List ℕ) → 49 ≤ c → are_digits (c ∷ f) ≡ true → is_plain (c ∷ f) ≡ true
unfolding is_plain
plain_head c [] h d = (digits_cons c [] d).0
plain_head c (x ∷ f) h d = sym (pick_no _ _ _ refl (ne_eqb c 48 (λ e. omega arith)) (sym d))

plain_one : (c : ℕ) → is_digit c ≡ true → is_plain (c ∷ []) ≡ true
unfolding is_plain
plain_one c d = d

-- the digits of a number are plain
pub plain_decimal : (n : ℕ) → n < 10 ^ 20 → is_plain (decimal n) ≡ true
unfolding decimal
plain_decimal n h =
    by_test (ltb n 10)
    (λ b. let g : n < 10 = ltb-true n 10 b in
    ap is_plain (decimal_small 19 n g) ∙ plain_one (n + 48) (is_digit_lem (n + 48) (omega arith) (omega arith)))
    (λ b. let g : 10 ≤ n = ltb-false n 10 b in
    let w = head 20 n (omega arith) h in
    ap is_plain w.is ∙ plain_head w.byte w.rest w.low (ap are_digits (sym w.is) ∙ digits_decimal 20 n))

-- ---- their value

value_cons : (n c : ℕ) (f : List ℕ) → value_from n (c ∷ f) ≡ value_from (n * 10 + (c - 48)) f
unfolding value_from
value_cons n c f = refl

value_none : (n : ℕ) → value_from n [] ≡ n
unfolding value_from
value_none n = refl

value_append : (n : ℕ) (f : List ℕ) (c : ℕ) → value_from n (f ++ (c ∷ [])) ≡ value_from n f * 10 + (c - 48)
value_append n [] c = value_cons n c [] ∙ value_none _ ∙ ap (λ x. x * 10 + (c - 48)) (sym (value_none n))
value_append n (x ∷ f) c = value_cons n x (f ++ (c ∷ [])) ∙ value_append (n * 10 + (x - 48)) f c ∙ ap (λ y. y * 10 + (c - 48)) (sym (value_cons n x f))

value_least : (n : ℕ) (f : List ℕ) → n ≤ value_from n f
value_least n [] = let e = value_none n in omega arith
value_least n (c ∷ f) = let e = value_cons n c f in let h = value_least (n * 10 + (c - 48)) f in omega arith

value_of_lem : (k n : ℕ) → n < 10 ^ k → value_from 0 (decimal_of k n) ≡ n
value_of_lem zero n h = ap (value_from 0) (decimal_none n) ∙ value_none 0 ∙ (let g : n < 1 = h in let e : 0 ≡ n = omega arith in e)
value_of_lem (suc k) n h =
    by_test (ltb n 10)
    (λ b. let g : n < 10 = ltb-true n 10 b in
    let e : 0 * 10 + (n + 48 - 48) ≡ n = omega arith in
    ap (value_from 0) (decimal_small k n g) ∙ value_cons 0 (n + 48) [] ∙ value_none _ ∙ e)
    (λ b. let g : 10 ≤ n = ltb-false n 10 b in
    let e : n / 10 * 10 + (n % 10 + 48 - 48) ≡ n = omega arith in
    ap (value_from 0) (decimal_large k n g) ∙ value_append 0 (decimal_of k (n / 10)) (n % 10 + 48)
    ∙ ap (λ x. x * 10 + (n % 10 + 48 - 48)) (value_of_lem k (n / 10) (tenth k n h)) ∙ e)

-- the digits of a number make that number
pub value_decimal : (n : ℕ) → n < 10 ^ 20 → value_of (decimal n) ≡ n
unfolding value_of decimal
value_decimal n h = value_of_lem 20 n h

-- ---- plain digits are those of their value

-- a digit after a number's digits
decimal_next : (n c : ℕ) → 1 ≤ n → Digit c → n * 10 + (c - 48) < 10 ^ 20 → decimal (n * 10 + (c - 48)) ≡ decimal n ++ (c ∷ [])
unfolding decimal
decimal_next n c g d h =
    let low = d.low in
    let high = d.high in
    let m = n * 10 + (c - 48) in
    let l : 10 ≤ m = omega arith in
    let p : m / 10 ≡ n = omega arith in
    let q : m % 10 + 48 ≡ c = omega arith in
    let r : n < 10 ^ 19 = omega arith in
    decimal_large 19 m l
    ∙ ap₂ (λ x y. decimal_of 19 x ++ (y ∷ [])) p q
    ∙ ap (λ l. l ++ (c ∷ [])) (sym (decimal_spare 18 n r))

pub decimal_from : (n : ℕ) (f : List ℕ) → 1 ≤ n → are_digits f ≡ true → value_from n f < 10 ^ 20 → decimal (value_from n f) ≡ decimal n ++ f
decimal_from n [] g d h = ap decimal (value_none n) ∙ sym (append-nil (decimal n))
decimal_from n (c ∷ f) g d h =
    let p = digits_cons c f d in
    let m = n * 10 + (c - 48) in
    let e = value_cons n c f in
    let k : value_from m f < 10 ^ 20 = omega arith in
    let l = value_least m f in
    let least : m < 10 ^ 20 = omega arith in
    ap decimal e
    ∙ decimal_from m f (omega arith) p.1 k
    ∙ ap (λ x. x ++ f) (decimal_next n c g (digit_is c p.0) least)
    ∙ append_assoc (decimal n) (c ∷ []) f

decimal_digit : (c : ℕ) → Digit c → decimal (0 * 10 + (c - 48)) ≡ c ∷ []
unfolding decimal
decimal_digit c d =
    let low = d.low in
    let high = d.high in
    let e : 0 * 10 + (c - 48) + 48 ≡ c = omega arith in
    decimal_small 19 (0 * 10 + (c - 48)) (omega arith) ∙ ap (λ x. x ∷ []) e

pub decimal_plain : (f : List ℕ) → is_plain f ≡ true → value_of f < 10 ^ 20 → f ≡ decimal (value_of f)
unfolding is_plain value_of
decimal_plain [] p h = absurd (false_true p)
decimal_plain (c ∷ []) p h = sym (ap decimal (value_cons 0 c [] ∙ value_none _) ∙ decimal_digit c (digit_is c p))
decimal_plain (c ∷ x ∷ f) p h =
    let q = pick_not _ _ _ _ false_true p in
    let d = digits_cons c (x ∷ f) q.1 in
    let D = digit_is c d.0 in
    let low = D.low in
    let n : c ≡ 48 → ⊥ = eqb-false c 48 q.0 in
    let m = 0 * 10 + (c - 48) in
    let g : 1 ≤ m = positive c low n in
    let e = value_cons 0 c (x ∷ f) in
    let k : value_from m (x ∷ f) < 10 ^ 20 = omega arith in
    sym (ap decimal e ∙ decimal_from m (x ∷ f) g d.1 k ∙ ap (λ l. l ++ (x ∷ f)) (decimal_digit c D))
  where
    positive : (c : ℕ) → 48 ≤ c → (c ≡ 48 → ⊥) → 1 ≤ 0 * 10 + (c - 48)
    positive c l n = by_test (ltb 48 c) (λ t. let h = ltb-true 48 c t in omega arith) (λ t. let h = ltb-false 48 c t in absurd (n (omega arith)))

pub digits_all : (n : ℕ) → are_digits (decimal n) ≡ true
unfolding decimal
digits_all n = digits_decimal 20 n
