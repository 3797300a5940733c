-- The polynomial through points takes their values, and is the only one with as many coefficients as points: a polynomial with no more coefficients than
-- roots is zero. Assumes nothing.
use mathlib.Core.Path.{◌≡◌, refl, sym, ap, ap₂, ◌∙◌}
use mathlib.Core.List.{List, [], ◌∷◌, map}
use Prim.Native.Nat.{ℕ, suc, ◌<◌, ◌≤◌}
use native.Mathlib.Nat.{not-suc-le-zero, pos_of_ne-zero}
use native.Mathlib.Omega.{arith}
use lib.ListN.{length, length-map}
use Rattle.area.specs.Area.{Bytes}
use Rattle.field.specs.Field.{◌⊕◌, ◌⊗◌, power_of}
use Rattle.field.proofs.Sum as X
use Rattle.field.proofs.Ring as R
use Rattle.field.proofs.Power.{inverse_right}
use Rattle.blocks.specs.Poly.{eval, plus, scale, vanishing, newton_step, through, All, Distinct}
use Rattle.blocks.proofs.Polynomials.{eval_byte, eval_plus, eval_scale, eval_root, plus_bytes}
use Rattle.blocks.proofs.Polynomials.{vanishing_bytes, through_bytes, plus_length, through_length}

all_map : {P Q : ℕ → Type 0} → ((z : ℕ) → P z → Q z) → (xs : List ℕ) → All P xs → All Q xs
all_map f [] h = tt
all_map f (x ∷ xs) h = (f x h.0, all_map f xs h.1)

all_map₃ : {P Q R S : ℕ → Type 0} → ((z : ℕ) → P z → Q z → R z → S z) → (xs : List ℕ) → All P xs → All Q xs → All R xs → All S xs
all_map₃ f [] h k l = tt
all_map₃ f (x ∷ xs) h k l = (f x h.0 k.0 l.0, all_map₃ f xs h.1 k.1 l.1)

-- each element of a list of bytes is a byte
all_bytes : (xs : List ℕ) → Bytes xs → All (λ x. x < 256) xs
all_bytes [] h = tt
all_bytes (x ∷ xs) h = (h.0, all_bytes xs h.1)

map_all : {P : ℕ → Type 0} {f g : ℕ → ℕ} → ((z : ℕ) → P z → f z ≡ g z) → (xs : List ℕ) → All P xs → map f xs ≡ map g xs
map_all e [] h = refl
map_all e (x ∷ xs) h = ap₂ ◌∷◌ (e x h.0) (map_all e xs h.1)

-- no divisors of zero
pub no_divisor : (a b : ℕ) → (a ≡ 0 → ⊥) → a < 256 → b < 256 → a ⊗ b ≡ 0 → b ≡ 0
no_divisor a b n ha hb e =
    sym (R.one_left b hb)
    ∙ ap (λ (v : ℕ). v ⊗ b) (sym (inverse_right a (pos_of_ne-zero n) ha) ∙ R.comm a (power_of a 254))
    ∙ R.assoc (power_of a 254) a b ∙ ap (◌⊗◌ (power_of a 254)) e ∙ R.zero_right (power_of a 254)

pub apart : (a b : ℕ) → (a ≡ b → ⊥) → a ⊕ b ≡ 0 → ⊥
apart a b n e = n (X.equal a b e)

-- ---- the polynomial through points takes their values

vanish_here : (x : ℕ) (xs : List ℕ) → eval (vanishing (x ∷ xs)) x ≡ 0
unfolding vanishing
vanish_here x xs =
    eval_root x (vanishing xs) x ∙ ap (λ (v : ℕ). v ⊗ eval (vanishing xs) x) (X.self x) ∙ R.zero_left (eval (vanishing xs) x)

vanish_there : (x : ℕ) (xs : List ℕ) (z : ℕ) → eval (vanishing xs) z ≡ 0 → eval (vanishing (x ∷ xs)) z ≡ 0
unfolding vanishing
vanish_there x xs z e = eval_root x (vanishing xs) z ∙ ap (◌⊗◌ (x ⊕ z)) e ∙ R.zero_right (x ⊕ z)

pub vanishes : (xs : List ℕ) → All (λ z. eval (vanishing xs) z ≡ 0) xs
vanishes [] = tt
vanishes (x ∷ xs) = (vanish_here x xs, all_map (vanish_there x xs) xs (vanishes xs))

one_not_zero : (z : ℕ) → eval (1 ∷ []) z ≡ 0 → ⊥
unfolding eval
one_not_zero z e =
    let f : ◌≡◌ {A = ℕ} 1 0 = sym (X.zero_r 1) ∙ ap (λ (u : ℕ). 1 ⊕ u) (sym (R.zero_right z)) ∙ e in
    omega arith

pub vanishes_only : (xs : List ℕ) (z : ℕ) → z < 256 → Bytes xs → All (λ x. x ≡ z → ⊥) xs → eval (vanishing xs) z ≡ 0 → ⊥
unfolding vanishing
vanishes_only [] z hz hx n e = one_not_zero z e
vanishes_only (x ∷ xs) z hz hx n e =
    vanishes_only xs z hz hx.1 n.1
    (no_divisor (x ⊕ z) (eval (vanishing xs) z) (apart x z n.0) (X.byte x z hx.0 hz) (eval_byte (vanishing xs) z (vanishing_bytes xs))
    (sym (eval_root x (vanishing xs) z) ∙ e))

-- Newton's step: the value at x is y, and where m vanishes the value stays
newton_step_here : (p m : List ℕ) (x y : ℕ) → y < 256 → Bytes p → Bytes m → (eval m x ≡ 0 → ⊥) → eval (newton_step p m x y) x ≡ y
unfolding newton_step
newton_step_here p m x y hy hp hm n =
    let d : ℕ = y ⊕ eval p x in
    let v : ℕ = eval m x in
    eval_plus p (scale (d ⊗ power_of v 254) m) x
    ∙ ap (λ (u : ℕ). eval p x ⊕ u)
    (eval_scale (d ⊗ power_of v 254) m x ∙ R.assoc d (power_of v 254) v
    ∙ ap (◌⊗◌ d) (R.comm (power_of v 254) v ∙ inverse_right v (pos_of_ne-zero n) (eval_byte m x hm))
    ∙ R.comm d 1 ∙ R.one_left d (X.byte y (eval p x) hy (eval_byte p x hp)) ∙ X.comm y (eval p x))
    ∙ X.cancel (eval p x) y

newton_step_there : (p m : List ℕ) (x y z : ℕ) → eval m z ≡ 0 → eval (newton_step p m x y) z ≡ eval p z
unfolding newton_step
newton_step_there p m x y z e =
    let c : ℕ = (y ⊕ eval p x) ⊗ power_of (eval m x) 254 in
    eval_plus p (scale c m) z ∙ ap (λ (u : ℕ). eval p z ⊕ u) (eval_scale c m z ∙ ap (◌⊗◌ c) e ∙ R.zero_right c) ∙ X.zero_r (eval p z)

pub takes : (xs ys : List ℕ) → Bytes xs → Bytes ys → Distinct xs → length xs ≡ length ys → map (eval (through xs ys)) xs ≡ ys
unfolding through
takes [] [] hx hy d e = refl
takes [] (y ∷ ys) hx hy d e = absurd (omega arith)
takes (x ∷ xs) [] hx hy d e = absurd (omega arith)
takes (x ∷ xs) (y ∷ ys) hx hy d e =
    ap₂ ◌∷◌
    (newton_step_here (through xs ys) (vanishing xs) x y hy.0 (through_bytes xs ys) (vanishing_bytes xs)
    (vanishes_only xs x hx.0 hx.1 d.0))
    (map_all (newton_step_there (through xs ys) (vanishing xs) x y) xs (vanishes xs) ∙ takes xs ys hx.1 hy.1 d.1 (omega arith))

-- ---- no more coefficients than roots

-- the quotient by X - x
quot : ℕ → List ℕ → List ℕ
quot x [] = []
quot x (c ∷ []) = []
quot x (c ∷ d ∷ ds) = eval (d ∷ ds) x ∷ quot x (d ∷ ds)

quot_length : (x c : ℕ) (cs : List ℕ) → length (quot x (c ∷ cs)) ≡ length cs
unfolding quot
quot_length x c [] = refl
quot_length x c (d ∷ ds) = ap suc (quot_length x d ds)

quot_bytes : (x : ℕ) (p : List ℕ) → Bytes p → Bytes (quot x p)
unfolding quot
quot_bytes x [] h = tt
quot_bytes x (c ∷ []) h = tt
quot_bytes x (c ∷ d ∷ ds) h = (eval_byte (d ∷ ds) x h.1, quot_bytes x (d ∷ ds) h.1)

cancel_out : (c a b d : ℕ) → c ⊕ a ⊕ (a ⊕ b ⊕ d) ≡ c ⊕ (b ⊕ d)
cancel_out c a b d = simp (X.assoc, X.cancel)

quot_step : (c x z v q w : ℕ) → w ≡ v ⊕ (x ⊕ z) ⊗ q → c ⊕ z ⊗ w ≡ c ⊕ x ⊗ v ⊕ (x ⊕ z) ⊗ (v ⊕ z ⊗ q)
quot_step c x z v q w e =
    ap (λ (u : ℕ). c ⊕ u) (ap (◌⊗◌ z) e ∙ R.over_right z v ((x ⊕ z) ⊗ q))
    ∙ sym (cancel_out c (x ⊗ v) (z ⊗ v) (z ⊗ ((x ⊕ z) ⊗ q)))
    ∙ ap (λ (u : ℕ). c ⊕ x ⊗ v ⊕ u)
    (ap₂ ◌⊕◌ (sym (R.over_left x z v)) (R.left_comm z (x ⊕ z) q) ∙ sym (R.over_right (x ⊕ z) v (z ⊗ q)))

quot_eval : (x : ℕ) (p : List ℕ) (z : ℕ) → eval p z ≡ eval p x ⊕ (x ⊕ z) ⊗ eval (quot x p) z
unfolding quot eval
quot_eval x [] z = sym (X.zero_l ((x ⊕ z) ⊗ 0) ∙ R.zero_right (x ⊕ z))
quot_eval x (c ∷ []) z =
    ap (λ (u : ℕ). c ⊕ u) (R.zero_right z) ∙ ap (λ (u : ℕ). c ⊕ u) (sym (R.zero_right x))
    ∙ sym (X.zero_r (c ⊕ x ⊗ 0)) ∙ ap (λ (u : ℕ). c ⊕ x ⊗ 0 ⊕ u) (sym (R.zero_right (x ⊕ z)))
quot_eval x (c ∷ d ∷ ds) z =
    quot_step c x z (eval (d ∷ ds) x) (eval (quot x (d ∷ ds)) z) (eval (d ∷ ds) z) (quot_eval x (d ∷ ds) z)

-- all coefficients are zero
abbrev pub Zeros : List ℕ → Type 0
Zeros = All (λ a. a ≡ 0)

eval_zeros : (p : List ℕ) (x : ℕ) → Zeros p → eval p x ≡ 0
unfolding eval
eval_zeros [] x h = refl
eval_zeros (c ∷ cs) x h = ap₂ (λ (u v : ℕ). u ⊕ x ⊗ v) h.0 (eval_zeros cs x h.1) ∙ X.zero_l (x ⊗ 0) ∙ R.zero_right x

unquot : (x : ℕ) (p : List ℕ) → Zeros (quot x p) → eval p x ≡ 0 → Zeros p
unfolding quot eval
unquot x [] h e = tt
unquot x (c ∷ []) h e = (sym (X.zero_r c) ∙ ap (λ (u : ℕ). c ⊕ u) (sym (R.zero_right x)) ∙ e, tt)
unquot x (c ∷ d ∷ ds) h e =
    (sym (X.zero_r c) ∙ ap (λ (u : ℕ). c ⊕ u) (sym (ap (◌⊗◌ x) h.0 ∙ R.zero_right x)) ∙ e, unquot x (d ∷ ds) h.1 h.0)

root_left : (x z : ℕ) (p : List ℕ) → x < 256 → z < 256 → Bytes p → (z ≡ x → ⊥) → eval p x ≡ 0 → eval p z ≡ 0 → eval (quot x p) z ≡ 0
root_left x z p hx hz hp n ex ez =
    no_divisor (x ⊕ z) (eval (quot x p) z) (apart x z (λ e. n (sym e))) (X.byte x z hx hz) (eval_byte (quot x p) z (quot_bytes x p hp))
    (sym (X.zero_l ((x ⊕ z) ⊗ eval (quot x p) z)) ∙ ap (λ (u : ℕ). u ⊕ (x ⊕ z) ⊗ eval (quot x p) z) (sym ex) ∙ sym (quot_eval x p z) ∙ ez)

pub only_zero : (xs p : List ℕ) → Bytes xs → Bytes p → Distinct xs → length p ≤ length xs → All (λ x. eval p x ≡ 0) xs → Zeros p
only_zero [] [] hx hp d l v = tt
only_zero (x ∷ xs) [] hx hp d l v = tt
only_zero [] (c ∷ cs) hx hp d l v = absurd (not-suc-le-zero l)
only_zero (x ∷ xs) (c ∷ cs) hx hp d l v =
    unquot x (c ∷ cs)
    (only_zero xs (quot x (c ∷ cs)) hx.1 (quot_bytes x (c ∷ cs) hp) d.1 (omega (arith, quot_length x c cs))
    (all_map₃ (λ z hz n e. root_left x z (c ∷ cs) hx.0 hz hp n v.0 e) xs (all_bytes xs hx.1) d.0 v.1))
    v.0

-- two polynomials of the same length whose sum is zero are equal
pub same_of_sum : (p q : List ℕ) → length p ≡ length q → Zeros (plus p q) → p ≡ q
unfolding plus
same_of_sum [] [] e h = refl
same_of_sum [] (b ∷ q) e h = absurd (omega arith)
same_of_sum (a ∷ p) [] e h = absurd (omega arith)
same_of_sum (a ∷ p) (b ∷ q) e h = ap₂ ◌∷◌ (X.equal a b h.0) (same_of_sum p q (omega arith) h.1)

sum_vanishes : (p q xs : List ℕ) → map (eval p) xs ≡ map (eval q) xs → All (λ x. eval (plus p q) x ≡ 0) xs
sum_vanishes p q [] e = tt
sum_vanishes p q (x ∷ xs) e =
    let h : eval p x ≡ eval q x = cc in
    let t : map (eval p) xs ≡ map (eval q) xs = cc in
    (eval_plus p q x ∙ ap (λ (u : ℕ). u ⊕ eval q x) h ∙ X.self (eval q x), sum_vanishes p q xs t)

-- two polynomials with as many coefficients as points, and the same values there, are equal
pub unique : (xs p q : List ℕ) → Bytes xs → Bytes p → Bytes q → Distinct xs → length p ≡ length xs → length q ≡ length xs
    → map (eval p) xs ≡ map (eval q) xs → p ≡ q
unique xs p q hx hp hq d lp lq e =
    same_of_sum p q (lp ∙ sym lq)
    (only_zero xs (plus p q) hx (plus_bytes p q hp hq) d (omega (arith, plus_length p q)) (sum_vanishes p q xs e))

values_bytes : (p xs : List ℕ) → Bytes p → Bytes (map (eval p) xs)
values_bytes p [] h = tt
values_bytes p (x ∷ xs) h = (eval_byte p x h, values_bytes p xs h)

-- decoding undoes encoding, from any points that differ
pub recovers : (xs p : List ℕ) → Bytes xs → Bytes p → Distinct xs → length p ≡ length xs → through xs (map (eval p) xs) ≡ p
recovers xs p hx hp d l =
    let ys : List ℕ = map (eval p) xs in
    let ly : length xs ≡ length ys = sym (length-map xs (eval p)) in
    unique xs (through xs ys) p hx (through_bytes xs ys) hp d (through_length xs ys ly) l
    (takes xs ys hx (values_bytes p xs hp) d ly)
