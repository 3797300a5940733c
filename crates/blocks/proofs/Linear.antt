-- The polynomial through points is linear in their values, so it is the sum of the basis polynomials, each times its point's value. Assumes nothing.
use mathlib.Core.Path.{◌≡◌, refl, sym, ap, ap₂, ◌∙◌}
use mathlib.Core.List.{List, [], ◌∷◌}
use Prim.Native.Nat.{ℕ, zero, suc, ◌+◌, ◌-◌, ◌*◌, ◌<◌, ◌≤◌}
use native.Mathlib.Omega.{arith}
use native.Mathlib.Decide.{dec_le}
use lib.ListN.{length, get_or, take, drop, set, replicate, length-set, length-replicate}
use lib.Seq.{sets}
use Rattle.area.specs.Area.{part}
use Rattle.area.proofs.Fills.{mixed, mixed_start, mixed_end, mixed_rest, length_mixed, up}
use Rattle.area.proofs.Sets.{room, part_sets_same, part_sets_before}
use Rattle.field.specs.Field.{◌⊕◌, ◌⊗◌, power_of}
use Rattle.field.proofs.Sum as X
use Rattle.field.proofs.Ring as R
use Rattle.blocks.specs.Poly.{eval, plus, scale, vanishing, newton_step, through, unit, basis, Basis}
use Rattle.blocks.specs.Code.{row}
use Rattle.blocks.proofs.Polynomials.{eval_plus, eval_scale, through_length, scale_length}
use Rattle.blocks.proofs.Values.{zeros, row_length, row_at_lem}

-- ---- sums and multiples

plus_nil : (p : List ℕ) → plus p [] ≡ p
unfolding plus
plus_nil [] = refl
plus_nil (a ∷ p) = refl

plus_comm : (p q : List ℕ) → plus p q ≡ plus q p
unfolding plus
plus_comm [] q = sym (plus_nil q)
plus_comm (a ∷ p) [] = refl
plus_comm (a ∷ p) (b ∷ q) = ap₂ ◌∷◌ (X.comm a b) (plus_comm p q)

plus_assoc : (p q r : List ℕ) → plus (plus p q) r ≡ plus p (plus q r)
unfolding plus
plus_assoc [] q r = refl
plus_assoc (a ∷ p) [] r = refl
plus_assoc (a ∷ p) (b ∷ q) [] = refl
plus_assoc (a ∷ p) (b ∷ q) (c ∷ r) = ap₂ ◌∷◌ (X.assoc a b c) (plus_assoc p q r)

plus_four : (p q s t : List ℕ) → plus (plus p q) (plus s t) ≡ plus (plus p s) (plus q t)
plus_four p q s t =
    plus_assoc p q (plus s t)
    ∙ ap (plus p) (sym (plus_assoc q s t) ∙ ap (λ (u : List ℕ). plus u t) (plus_comm q s) ∙ plus_assoc s q t)
    ∙ sym (plus_assoc p s (plus q t))

scale_sum : (a b : ℕ) (m : List ℕ) → scale (a ⊕ b) m ≡ plus (scale a m) (scale b m)
unfolding scale plus
scale_sum a b [] = refl
scale_sum a b (c ∷ m) = ap₂ ◌∷◌ (R.over_left a b c) (scale_sum a b m)

scale_plus : (c : ℕ) (p q : List ℕ) → scale c (plus p q) ≡ plus (scale c p) (scale c q)
unfolding scale plus
scale_plus c [] q = refl
scale_plus c (a ∷ p) [] = refl
scale_plus c (a ∷ p) (b ∷ q) = ap₂ ◌∷◌ (R.over_right c a b) (scale_plus c p q)

scale_scale : (a b : ℕ) (m : List ℕ) → scale (a ⊗ b) m ≡ scale a (scale b m)
unfolding scale
scale_scale a b [] = refl
scale_scale a b (c ∷ m) = ap₂ ◌∷◌ (R.assoc a b c) (scale_scale a b m)

scale_zeros : (c n : ℕ) → scale c (replicate n 0) ≡ replicate n 0
unfolding scale
scale_zeros c zero = refl
scale_zeros c (suc n) = ap₂ ◌∷◌ (R.zero_right c) (scale_zeros c n)

scale_by_zero : (p : List ℕ) → scale 0 p ≡ replicate (length p) 0
unfolding scale
scale_by_zero [] = refl
scale_by_zero (a ∷ p) = ap₂ ◌∷◌ (R.zero_left a) (scale_by_zero p)

-- ---- the polynomial through points

newton_step_plus : (p q m : List ℕ) (x y z : ℕ) → newton_step (plus p q) m x (y ⊕ z) ≡ plus (newton_step p m x y) (newton_step q m x z)
unfolding newton_step
newton_step_plus p q m x y z =
    let d : ℕ = power_of (eval m x) 254 in
    ap (λ (u : ℕ). plus (plus p q) (scale (u ⊗ d) m)) (ap (λ (u : ℕ). y ⊕ z ⊕ u) (eval_plus p q x) ∙ X.four y z (eval p x) (eval q x))
    ∙ ap (λ (u : ℕ). plus (plus p q) (scale u m)) (R.over_left (y ⊕ eval p x) (z ⊕ eval q x) d)
    ∙ ap (plus (plus p q)) (scale_sum ((y ⊕ eval p x) ⊗ d) ((z ⊕ eval q x) ⊗ d) m)
    ∙ plus_four p q (scale ((y ⊕ eval p x) ⊗ d) m) (scale ((z ⊕ eval q x) ⊗ d) m)

newton_step_scale : (c : ℕ) (p m : List ℕ) (x y : ℕ) → newton_step (scale c p) m x (c ⊗ y) ≡ scale c (newton_step p m x y)
unfolding newton_step
newton_step_scale c p m x y =
    let d : ℕ = power_of (eval m x) 254 in
    ap (λ (u : ℕ). plus (scale c p) (scale (u ⊗ d) m)) (ap (λ (u : ℕ). c ⊗ y ⊕ u) (eval_scale c p x) ∙ sym (R.over_right c y (eval p x)))
    ∙ ap (λ (u : ℕ). plus (scale c p) (scale u m)) (R.assoc c (y ⊕ eval p x) d)
    ∙ ap (plus (scale c p)) (scale_scale c ((y ⊕ eval p x) ⊗ d) m)
    ∙ sym (scale_plus c p (scale ((y ⊕ eval p x) ⊗ d) m))

through_plus : (xs ys zs : List ℕ) → length ys ≡ length zs → through xs (plus ys zs) ≡ plus (through xs ys) (through xs zs)
unfolding through plus
through_plus [] ys zs h = refl
through_plus (x ∷ xs) [] [] h = refl
through_plus (x ∷ xs) [] (z ∷ zs) h = absurd (omega arith)
through_plus (x ∷ xs) (y ∷ ys) [] h = absurd (omega arith)
through_plus (x ∷ xs) (y ∷ ys) (z ∷ zs) h =
    ap (λ (u : List ℕ). newton_step u (vanishing xs) x (y ⊕ z)) (through_plus xs ys zs (omega arith))
    ∙ newton_step_plus (through xs ys) (through xs zs) (vanishing xs) x y z

through_scale : (c : ℕ) (xs ys : List ℕ) → through xs (scale c ys) ≡ scale c (through xs ys)
unfolding through scale
through_scale c [] ys = refl
through_scale c (x ∷ xs) [] = refl
through_scale c (x ∷ xs) (y ∷ ys) =
    ap (λ (u : List ℕ). newton_step u (vanishing xs) x (c ⊗ y)) (through_scale c xs ys)
    ∙ newton_step_scale c (through xs ys) (vanishing xs) x y

-- ---- the sum over the first i points, in turn

-- the values of the first i points, and 0 at the others
abbrev pub first_values : List ℕ → ℕ → List ℕ
first_values ys i = mixed ys (replicate (length ys) 0) i

plus_zeros : (c : ℕ) (l : List ℕ) → plus l (scale c (replicate (length l) 0)) ≡ l
unfolding plus scale
plus_zeros c [] = refl
plus_zeros c (a ∷ l) = ap₂ ◌∷◌ (ap (λ (u : ℕ). a ⊕ u) (R.zero_right c) ∙ X.zero_r a) (plus_zeros c l)

-- storing a value in place of a 0 adds a multiple of a unit vector
set_plus : (l : List ℕ) (i y : ℕ) → y < 256 → i < length l → get_or l i 0 ≡ 0 → set l i y ≡ plus l (scale y (unit (length l) i))
unfolding plus scale unit
set_plus [] i y h k e = absurd (omega arith)
set_plus (a ∷ l) zero y h k e =
    ap₂ ◌∷◌ (sym (ap₂ ◌⊕◌ e (R.one_right y h) ∙ X.zero_l y)) (sym (plus_zeros y l))
set_plus (a ∷ l) (suc i) y h k e =
    ap₂ ◌∷◌ (sym (ap (λ (u : ℕ). a ⊕ u) (R.zero_right y) ∙ X.zero_r a)) (set_plus l i y h (omega arith) e)

get_d_zeros : (n i : ℕ) → get_or (zeros n) i 0 ≡ 0
get_d_zeros zero i = refl
get_d_zeros (suc n) zero = refl
get_d_zeros (suc n) (suc i) = get_d_zeros n i

pub unit_length : (k i : ℕ) → length (unit k i) ≡ k
unfolding unit
unit_length k i = length-set (replicate k 0) i 1 ∙ length-replicate k 0

first_turn : (ys : List ℕ) (i : ℕ) → i < length ys → get_or ys i 0 < 256
    → first_values ys (i + 1) ≡ plus (first_values ys i) (scale (get_or ys i 0) (unit (length ys) i))
first_turn ys i h b =
    let z : List ℕ = replicate (length ys) 0 in
    let n : length ys ≡ length z = sym (length-replicate (length ys) 0) in
    let m : length (first_values ys i) ≡ length ys = length_mixed ys z i n ∙ sym n in
    sym (up ys z (first_values ys i) i (get_or ys i 0) n (omega arith) refl refl)
    ∙ set_plus (first_values ys i) i (get_or ys i 0) b (omega arith) (mixed_rest ys z i i n (omega arith) ∙ get_d_zeros (length ys) i)
    ∙ ap (λ (k : ℕ). plus (first_values ys i) (scale (get_or ys i 0) (unit k i))) m

-- a turn of the loop over the points
pub basis_turn : (xs ys : List ℕ) (i : ℕ) → length ys ≡ length xs → i < length xs → get_or ys i 0 < 256
    → plus (through xs (first_values ys i)) (scale (get_or ys i 0) (basis xs i)) ≡ through xs (first_values ys (i + 1))
unfolding basis
basis_turn xs ys i e h b =
    let y : ℕ = get_or ys i 0 in
    let z : List ℕ = replicate (length ys) 0 in
    let n : length ys ≡ length z = sym (length-replicate (length ys) 0) in
    let m : length (first_values ys i) ≡ length (scale y (unit (length ys) i))
    = length_mixed ys z i n ∙ sym n ∙ sym (scale_length y (unit (length ys) i) ∙ unit_length (length ys) i) in
    sym (ap (through xs) (first_turn ys i (omega arith) b)
    ∙ through_plus xs (first_values ys i) (scale y (unit (length ys) i)) m
    ∙ ap (plus (through xs (first_values ys i))) (through_scale y xs (unit (length ys) i) ∙ ap (λ (k : ℕ). scale y (through xs (unit k i))) e))

-- before the first turn the sum is zero, after the last it is the polynomial
pub basis_start : (xs ys : List ℕ) → length ys ≡ length xs → replicate (length xs) 0 ≡ through xs (first_values ys 0)
basis_start xs ys e =
    let z : List ℕ = replicate (length ys) 0 in
    let n : length xs ≡ length z = sym (length-replicate (length ys) 0 ∙ e) in
    sym (ap (through xs) (mixed_start ys z ∙ sym (scale_zeros 0 (length ys))) ∙ through_scale 0 xs z ∙ scale_by_zero (through xs z)
    ∙ ap (λ (k : ℕ). replicate k 0) (through_length xs z n))

pub basis_end : (xs ys : List ℕ) (i : ℕ) → length ys ≤ i → through xs (first_values ys i) ≡ through xs ys
basis_end xs ys i h =
    let z : List ℕ = replicate (length ys) 0 in
    let n : length z ≡ length ys = length-replicate (length ys) 0 in
    ap (through xs) (mixed_end ys z i (sym n) (omega arith))

-- ---- the table

pub zeros_front : (k n : ℕ) → k ≤ n → take k (zeros n) ≡ zeros k
zeros_front zero n h = refl
zeros_front (suc k) zero h = absurd (omega arith)
zeros_front (suc k) (suc n) h = ap (λ (l : List ℕ). 0 ∷ l) (zeros_front k n (omega arith))

-- a unit vector in the front of a longer array
pub unit_front : (k n i : ℕ) → k ≤ n → take k (set (zeros n) i 1) ≡ unit k i
unfolding unit
unit_front zero n i h = refl
unit_front (suc k) zero i h = absurd (omega arith)
unit_front (suc k) (suc n) zero h = ap (λ (l : List ℕ). 1 ∷ l) (zeros_front k n (omega arith))
unit_front (suc k) (suc n) (suc i) h = ap (λ (l : List ℕ). 0 ∷ l) (unit_front k n i (omega arith))

-- the rows before row i are stored
abbrev pub Rows : List ℕ → List ℕ → ℕ → Type 0
Rows xs t i = (j : ℕ) → j < i → part t (j * length xs) (length xs) ≡ basis xs j

basis_length : (xs : List ℕ) (i : ℕ) → length (basis xs i) ≡ length xs
unfolding basis
basis_length xs i = through_length xs (unit (length xs) i) (sym (unit_length (length xs) i))

pub row_room : (i k n : ℕ) → i < k → k * k ≤ n → i * k + k ≤ n
row_room i k n h e = omega (arith, room i k k h)

pub rows_start : (xs t : List ℕ) → Rows xs t 0
rows_start xs t j h = absurd (omega arith)

-- one more row is stored
pub rows_turn : (xs d t : List ℕ) (i : ℕ) → i * length xs + length xs ≤ length d → Rows xs d i → t ≡ sets d (i * length xs) (basis xs i) → Rows xs t (i + 1)
rows_turn xs d t i h s e j l = go (dec_le (suc j) i)
  where
    n : length (basis xs i) ≡ length xs
    n = basis_length xs i

    go : Dec (suc j ≤ i) → part t (j * length xs) (length xs) ≡ basis xs j
    go (yes q) =
        ap (λ (u : List ℕ). part u (j * length xs) (length xs)) e
        ∙ part_sets_before d (i * length xs) (basis xs i) (j * length xs) (length xs) (room j i (length xs) q) ∙ s j q
    go (no q) =
        let f : j ≡ i = omega (arith, q) in
        ap (λ (m : ℕ). part t (m * length xs) (length xs)) f
        ∙ ap (λ (u : List ℕ). part u (i * length xs) (length xs)) e
        ∙ ap (part (sets d (i * length xs) (basis xs i)) (i * length xs)) (sym n)
        ∙ part_sets_same d (i * length xs) (basis xs i) (omega (arith, n))
        ∙ ap (basis xs) (sym f)

-- row i, as the code takes it from the table
pub row_is : (xs t : List ℕ) (i : ℕ) → Basis xs t → i < length xs → take (i * length xs + length xs - i * length xs) (drop (i * length xs) t) ≡ basis xs i
row_is xs t i s h =
    let n : i * length xs + length xs - i * length xs ≡ length xs = omega arith in
    ap (λ (m : ℕ). take m (drop (i * length xs) t)) n ∙ s.rows i h

pub row_is_long : (xs t : List ℕ) (i : ℕ) → Basis xs t → i < length xs
    → length (take (i * length xs + length xs - i * length xs) (drop (i * length xs) t)) ≡ length xs
row_is_long xs t i s h = ap length (row_is xs t i s h) ∙ basis_length xs i

-- a turn of the loop over the table's rows, for stripe r of blocks of b bytes
pub combine_turn : (xs t w p q : List ℕ) (b r i : ℕ) → Basis xs t → i < length xs → get_or w (i * b + r) 0 < 256
    → p ≡ through xs (first_values (row (length xs) b w r) i)
    → q ≡ plus p (scale (get_or w (i * b + r) 0) (take (i * length xs + length xs - i * length xs) (drop (i * length xs) t)))
    → q ≡ through xs (first_values (row (length xs) b w r) (i + 1))
combine_turn xs t w p q b r i s h y e f =
    let ys : List ℕ = row (length xs) b w r in
    let n : length ys ≡ length xs = row_length (length xs) b w r in
    let v : get_or ys i 0 ≡ get_or w (i * b + r) 0 = row_at_lem (length xs) b w r i h in
    f ∙ ap₂ (λ (u m : List ℕ). plus u (scale (get_or w (i * b + r) 0) m)) e (row_is xs t i s h)
    ∙ ap (λ (c : ℕ). plus (through xs (first_values ys i)) (scale c (basis xs i))) (sym v)
    ∙ basis_turn xs ys i n h (omega arith)
