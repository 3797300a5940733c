-- A zero coefficient after the last one changes nothing: the steps of interpolation on lists that have room for one more coefficient.
-- Assumes nothing.
use mathlib.Core.Path.{◌≡◌, refl, sym, ap, ap₂, ◌∙◌}
use mathlib.Core.List.{List, [], ◌∷◌, ◌++◌}
use Prim.Native.Nat.{ℕ, suc, ◌+◌, ◌-◌, ◌<◌}
use native.Mathlib.Omega.{arith}
use lib.ListN.{length, get_or, take, drop, set, length-take, length-append, length-drop, drop_of_length-le}
use lib.Seq.{set_split, take_at, take_all}
use Rattle.field.specs.Field.{◌⊕◌, ◌⊗◌, power_of}
use Rattle.field.proofs.Sum as X
use Rattle.field.proofs.Ring as R
use Rattle.blocks.specs.Poly.{eval, plus, scale, with_root, vanishing, newton_step, through}
use Rattle.blocks.proofs.Polynomials.{scale_length, plus_length, vanishing_length, through_length}

eval_pad : (q : List ℕ) (x : ℕ) → eval (q ++ 0 ∷ []) x ≡ eval q x
unfolding eval
eval_pad [] x = X.zero_l (x ⊗ 0) ∙ R.zero_right x
eval_pad (a ∷ q) x = ap (λ (u : ℕ). a ⊕ x ⊗ u) (eval_pad q x)

plus_pad : (q s : List ℕ) → length s ≡ suc (length q) → plus (q ++ 0 ∷ []) s ≡ plus q s
unfolding plus
plus_pad [] [] e = absurd (omega arith)
plus_pad [] (b ∷ []) e = ap (λ (u : ℕ). u ∷ []) (X.zero_l b)
plus_pad [] (b ∷ c ∷ s) e = absurd (omega arith)
plus_pad (a ∷ q) [] e = absurd (omega arith)
plus_pad (a ∷ q) (b ∷ s) e = ap (λ (l : List ℕ). (a ⊕ b) ∷ l) (plus_pad q s (omega arith))

newton_step_pad : (q m : List ℕ) (x y : ℕ) → length m ≡ suc (length q) → newton_step (q ++ 0 ∷ []) m x y ≡ newton_step q m x y
unfolding newton_step
newton_step_pad q m x y e =
    ap (λ (u : ℕ). plus (q ++ 0 ∷ []) (scale ((y ⊕ u) ⊗ power_of (eval m x) 254) m)) (eval_pad q x)
    ∙ plus_pad q (scale ((y ⊕ eval q x) ⊗ power_of (eval m x) 254) m) (scale_length _ m ∙ e)

last_zero : (l : List ℕ) (n : ℕ) → length l ≡ suc n → set l n 0 ≡ take n l ++ 0 ∷ []
last_zero l n e =
    set_split l n 0 (omega arith) ∙ ap (λ (r : List ℕ). take n l ++ 0 ∷ r) (drop_of_length-le l {i = suc n} (omega arith))

pub step_front : (p m : List ℕ) (x y : ℕ) → 0 < length p → length m ≡ length p
    → newton_step (set p (length p - 1) 0) m x y ≡ newton_step (take (length p - 1) p) m x y
step_front p m x y h e =
    ap (λ (l : List ℕ). newton_step l m x y) (last_zero p (length p - 1) (omega arith))
    ∙ newton_step_pad (take (length p - 1) p) m x y (omega (arith, length-take (length p - 1) p))

root_pad : (x b : ℕ) (q : List ℕ) → plus (scale x (q ++ 0 ∷ [])) (b ∷ (q ++ 0 ∷ [])) ≡ plus (scale x q) (b ∷ q) ++ 0 ∷ []
unfolding plus scale
root_pad x b [] = ap (λ (u : ℕ). u ∷ 0 ∷ []) (ap (λ (u : ℕ). u ⊕ b) (R.zero_right x) ∙ X.zero_l b)
root_pad x b (a ∷ q) = ap (λ (l : List ℕ). (x ⊗ a ⊕ b) ∷ l) (root_pad x a q)

root_take : (x : ℕ) (q : List ℕ) → take (length (q ++ 0 ∷ [])) (with_root x (q ++ 0 ∷ [])) ≡ with_root x q
unfolding with_root
root_take x q =
    ap (take (length (q ++ 0 ∷ []))) (root_pad x 0 q)
    ∙ take_at (plus (scale x q) (0 ∷ q)) (0 ∷ []) (length (q ++ 0 ∷ []))
    (omega (arith, plus_length (scale x q) (0 ∷ q), scale_length x q, length-append q (0 ∷ [])))

pub root_front : (m : List ℕ) (x k : ℕ) → length m ≡ k + 1
    → take (length (set m k 0)) (with_root x (set m k 0)) ≡ with_root x (take k m)
root_front m x k e =
    ap (λ (l : List ℕ). take (length l) (with_root x l)) (last_zero m k (omega arith)) ∙ root_take x (take k m)

-- one level of interpolation: from what the call with one point fewer leaves, p₁ and m₁, followed by the rest of the two lists
unfoldable pub Level : (xs ys P M : List ℕ) → Type 0
Level xs ys P M =
    (newton_step (take (length P - 1) P) (take (length P) M) (get_or xs 0 0) (get_or ys 0 0) ≡ through xs ys)
    × (with_root (get_or xs 0 0) (take (length P) M) ≡ vanishing xs)

join : (p₁ p' m₁ m' xs ys : List ℕ) (x y : ℕ) → p₁ ≡ through xs ys → m₁ ≡ vanishing xs → length ys ≡ length xs → length p' ≡ 1
    → Level (x ∷ xs) (y ∷ ys) (p₁ ++ p') (m₁ ++ m')
unfolding Level through vanishing
join p₁ p' m₁ m' xs ys x y ep em ly lp =
    let l₁ : length p₁ ≡ length xs = ap length ep ∙ through_length xs ys (sym ly) in
    let l₂ : length m₁ ≡ suc (length xs) = ap length em ∙ vanishing_length xs in
    let l : length (p₁ ++ p') ≡ suc (length xs) = simp length-append (omega arith) in
    let fp : take (length (p₁ ++ p') - 1) (p₁ ++ p') ≡ through xs ys = take_at p₁ p' (length (p₁ ++ p') - 1) (omega arith) ∙ ep in
    let fm : take (length (p₁ ++ p')) (m₁ ++ m') ≡ vanishing xs = take_at m₁ m' (length (p₁ ++ p')) (omega arith) ∙ em in
    (ap₂ (λ (u v : List ℕ). newton_step u v x y) fp fm, ap (with_root x) fm)

tail_part : (x : ℕ) (xs : List ℕ) → take (length (x ∷ xs) - 1) (drop 1 (x ∷ xs)) ≡ xs
tail_part x xs = take_all (length (x ∷ xs) - 1) xs (omega arith)

pub level : (xs ys p m p₁ m₁ : List ℕ) → 0 < length xs → length ys ≡ length xs → length p ≡ length xs
    → p₁ ≡ through (take (length xs - 1) (drop 1 xs)) (take (length ys - 1) (drop 1 ys)) → m₁ ≡ vanishing (take (length xs - 1) (drop 1 xs))
    → Level xs ys (p₁ ++ drop (length xs - 1) p) (m₁ ++ drop (length xs) m)
level [] ys p m p₁ m₁ h ly lp ep em = absurd (omega arith)
level (x ∷ xs) [] p m p₁ m₁ h ly lp ep em = absurd (omega arith)
level (x ∷ xs) (y ∷ ys) p m p₁ m₁ h ly lp ep em =
    join p₁ (drop (length (x ∷ xs) - 1) p) m₁ (drop (length (x ∷ xs)) m) xs ys x y
    (ep ∙ ap₂ through (tail_part x xs) (tail_part y ys)) (em ∙ ap vanishing (tail_part x xs)) (omega arith)
    (simp length-drop (omega arith))

pub no_points : (xs ys p m : List ℕ) → length xs ≡ 0 → length p ≡ 0 → length m ≡ 1 → (p ≡ through xs ys) × (set m 0 1 ≡ vanishing xs)
unfolding through vanishing
no_points [] ys [] (a ∷ []) e f g = (refl, refl)
no_points [] ys [] [] e f g = absurd (omega arith)
no_points [] ys [] (a ∷ b ∷ m) e f g = absurd (omega arith)
no_points [] ys (c ∷ p) m e f g = absurd (omega arith)
no_points (x ∷ xs) ys p m e f g = absurd (omega arith)
