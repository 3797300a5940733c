-- Laws of polynomials over the byte field: values, bytes, lengths and coefficients of sums, of multiples and of products with X - x. Assumes nothing.
use mathlib.Core.Path.{◌≡◌, refl, sym, ap, ap₂, ◌∙◌}
use mathlib.Core.List.{List, [], ◌∷◌}
use Prim.Native.Nat.{ℕ, zero, suc, ◌<◌, max}
use native.Mathlib.Omega.{arith}
use lib.Dec.{lit<}
use lib.ListN.{length, get_or}
use Rattle.area.specs.Area.{Bytes}
use Rattle.field.specs.Field.{◌⊕◌, ◌⊗◌, power_of}
use Rattle.field.proofs.Sum as X
use Rattle.field.proofs.Ring as R
use Rattle.blocks.specs.Poly.{eval, plus, scale, with_root, vanishing, newton_step, through}

pub eval_byte : (p : List ℕ) (x : ℕ) → Bytes p → eval p x < 256
unfolding eval
eval_byte [] x h = lit< tt
eval_byte (c ∷ cs) x h = X.byte c (x ⊗ eval cs x) h.0 (R.product_byte x (eval cs x))

pub eval_plus : (p q : List ℕ) (x : ℕ) → eval (plus p q) x ≡ eval p x ⊕ eval q x
unfolding eval plus
eval_plus [] q x = sym (X.zero_l (eval q x))
eval_plus (a ∷ p) [] x = sym (X.zero_r (a ⊕ x ⊗ eval p x))
eval_plus (a ∷ p) (b ∷ q) x =
    ap (λ (v : ℕ). a ⊕ b ⊕ v) (ap (◌⊗◌ x) (eval_plus p q x) ∙ R.over_right x (eval p x) (eval q x))
    ∙ X.four a b (x ⊗ eval p x) (x ⊗ eval q x)

pub eval_scale : (c : ℕ) (p : List ℕ) (x : ℕ) → eval (scale c p) x ≡ c ⊗ eval p x
unfolding eval scale
eval_scale c [] x = sym (R.zero_right c)
eval_scale c (a ∷ p) x =
    ap (λ (v : ℕ). c ⊗ a ⊕ v) (ap (◌⊗◌ x) (eval_scale c p x) ∙ R.left_comm x c (eval p x))
    ∙ sym (R.over_right c a (x ⊗ eval p x))

pub eval_root : (x : ℕ) (p : List ℕ) (z : ℕ) → eval (with_root x p) z ≡ (x ⊕ z) ⊗ eval p z
unfolding with_root eval
eval_root x p z =
    eval_plus (scale x p) (0 ∷ p) z ∙ ap₂ ◌⊕◌ (eval_scale x p z) (X.zero_l (z ⊗ eval p z))
    ∙ sym (R.over_left x z (eval p z))

-- ---- bytes and lengths

pub plus_bytes : (p q : List ℕ) → Bytes p → Bytes q → Bytes (plus p q)
unfolding plus
plus_bytes [] q h k = k
plus_bytes (a ∷ p) [] h k = h
plus_bytes (a ∷ p) (b ∷ q) h k = (X.byte a b h.0 k.0, plus_bytes p q h.1 k.1)

pub scale_bytes : (c : ℕ) (p : List ℕ) → Bytes (scale c p)
unfolding scale
scale_bytes c [] = tt
scale_bytes c (a ∷ p) = (R.product_byte c a, scale_bytes c p)

pub vanishing_bytes : (xs : List ℕ) → Bytes (vanishing xs)
unfolding vanishing with_root
vanishing_bytes [] = (lit< tt, tt)
vanishing_bytes (x ∷ xs) = plus_bytes (scale x (vanishing xs)) (0 ∷ vanishing xs) (scale_bytes x (vanishing xs)) (lit< tt, vanishing_bytes xs)

pub through_bytes : (xs ys : List ℕ) → Bytes (through xs ys)
unfolding through newton_step
through_bytes [] ys = tt
through_bytes (x ∷ xs) [] = tt
through_bytes (x ∷ xs) (y ∷ ys) = plus_bytes (through xs ys) (scale _ (vanishing xs)) (through_bytes xs ys) (scale_bytes _ (vanishing xs))

-- adding 0 times a polynomial changes nothing
plus_nothing : (p m : List ℕ) → length p ≡ length m → plus p (scale 0 m) ≡ p
unfolding plus scale
plus_nothing [] [] e = refl
plus_nothing [] (b ∷ m) e = absurd (omega (arith, e))
plus_nothing (a ∷ p) [] e = refl
plus_nothing (a ∷ p) (b ∷ m) e =
    ap (λ z. (a ⊕ z) ∷ plus p (scale 0 m)) (R.zero_left b)
    ∙ ap (λ z. z ∷ plus p (scale 0 m)) (X.zero_r a)
    ∙ ap (λ l. a ∷ l) (plus_nothing p m (omega (arith, e)))

pub no_step : (p m : List ℕ) (x y : ℕ) → length p ≡ length m → y ⊕ eval p x ≡ 0 → newton_step p m x y ≡ p
unfolding newton_step
no_step p m x y l e = ap (λ z. plus p (scale (z ⊗ power_of (eval m x) 254) m)) e
    ∙ ap (λ z. plus p (scale z m)) (R.zero_left (power_of (eval m x) 254))
    ∙ plus_nothing p m l

pub plus_length : (p q : List ℕ) → length (plus p q) ≡ max (length p) (length q)
unfolding plus
plus_length [] q = omega arith
plus_length (a ∷ p) [] = omega arith
plus_length (a ∷ p) (b ∷ q) = omega (arith, plus_length p q)

pub scale_length : (c : ℕ) (p : List ℕ) → length (scale c p) ≡ length p
unfolding scale
scale_length c [] = refl
scale_length c (a ∷ p) = ap suc (scale_length c p)

pub vanishing_length : (xs : List ℕ) → length (vanishing xs) ≡ suc (length xs)
unfolding vanishing with_root
vanishing_length [] = refl
vanishing_length (x ∷ xs) =
    plus_length (scale x (vanishing xs)) (0 ∷ vanishing xs) ∙ omega (arith, scale_length x (vanishing xs), vanishing_length xs)

pub through_length : (xs ys : List ℕ) → length xs ≡ length ys → length (through xs ys) ≡ length xs
unfolding through newton_step
through_length [] ys e = refl
through_length (x ∷ xs) [] e = sym e
through_length (x ∷ xs) (y ∷ ys) e =
    plus_length (through xs ys) (scale ((y ⊕ eval (through xs ys) x) ⊗ power_of (eval (vanishing xs) x) 254) (vanishing xs))
    ∙ omega (
      arith,
      through_length xs ys (omega arith),
      scale_length ((y ⊕ eval (through xs ys) x) ⊗ power_of (eval (vanishing xs) x) 254) (vanishing xs),
      vanishing_length xs,
    )

-- ---- entries

pub get_d_plus : (p q : List ℕ) (i : ℕ) → get_or (plus p q) i 0 ≡ get_or p i 0 ⊕ get_or q i 0
unfolding plus
get_d_plus [] q i = sym (X.zero_l (get_or q i 0))
get_d_plus (a ∷ p) [] i = sym (X.zero_r (get_or (a ∷ p) i 0))
get_d_plus (a ∷ p) (b ∷ q) zero = refl
get_d_plus (a ∷ p) (b ∷ q) (suc i) = get_d_plus p q i

pub get_d_scale : (c : ℕ) (p : List ℕ) (i : ℕ) → get_or (scale c p) i 0 ≡ c ⊗ get_or p i 0
unfolding scale
get_d_scale c [] i = sym (R.zero_right c)
get_d_scale c (a ∷ p) zero = refl
get_d_scale c (a ∷ p) (suc i) = get_d_scale c p i
