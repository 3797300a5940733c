-- The turns of the loops over coefficients: Horner's rule, the sum with a multiple, and the product with X - x in place. Assumes nothing.
use mathlib.Core.Path.{◌≡◌, refl, sym, ap, ap₂, ◌∙◌}
use mathlib.Core.List.{List, [], ◌∷◌, reverse}
use Rattle.std.specs.List.{fold}
use Rattle.std.proofs.lemmas.List.{reverse-append}
use Rattle.std.proofs.lemmas.List.Sums.{fold_push}
use Prim.Native.Nat.{ℕ, zero, suc, ◌+◌, ◌<◌, ◌-◌}
use native.Mathlib.Nat.{not-suc-le-zero}
use native.Mathlib.Omega.{arith}
use lib.ListN.{length, get_or, take, set, length-take}
use lib.Seq.{get_or-take}
use lib.Bits.{bit_xor}
use Rattle.area.proofs.Fills.{mixed, mixed_start, mixed_rest, mixed_front, up, down}
use Rattle.field.specs.Field.{◌⊕◌, ◌⊗◌}
use Rattle.field.proofs.Sum as X
use Rattle.blocks.specs.Poly.{eval, plus, scale, with_root}
use Rattle.blocks.proofs.Polynomials.{plus_length, scale_length, get_d_plus, get_d_scale}

-- Horner's rule: a fold from the last coefficient to the first
pub horner : (x : ℕ) (p : List ℕ) → fold (λ acc c. bit_xor c (x ⊗ acc)) 0 (reverse p) ≡ eval p x
unfolding eval ◌⊕◌
horner x [] = refl
horner x (c ∷ p) =
    ap (fold (λ acc c. bit_xor c (x ⊗ acc)) 0) (reverse-append (c ∷ []) p)
    ∙ fold_push (λ acc c. bit_xor c (x ⊗ acc)) 0 (reverse p) c
    ∙ ap (λ u. bit_xor c (x ⊗ u)) (horner x p)

pub sum_length : (p m : List ℕ) (c : ℕ) → length p ≡ length m → length (plus p (scale c m)) ≡ length p
sum_length p m c e = plus_length p (scale c m) ∙ omega (arith, scale_length c m)

-- a turn of the loop that adds c times m
pub sum_turn : (p₀ m p : List ℕ) (c i r : ℕ) → length p₀ ≡ length m → i < length p₀ → p ≡ mixed (plus p₀ (scale c m)) p₀ i
    → r ≡ c ⊗ get_or m i 0 → set p i (bit_xor (get_or p i 0) r) ≡ mixed (plus p₀ (scale c m)) p₀ (i + 1)
unfolding ◌⊕◌
sum_turn p₀ m p c i r e h k f =
    up (plus p₀ (scale c m)) p₀ p i (bit_xor (get_or p i 0) r) (sum_length p₀ m c e) h k
    (ap₂ bit_xor
    (ap (λ (l : List ℕ). get_or l i 0) k ∙ mixed_rest (plus p₀ (scale c m)) p₀ i i (sum_length p₀ m c e) (omega arith))
    (f ∙ sym (get_d_scale c m i))
    ∙ sym (get_d_plus p₀ (scale c m) i))

-- ---- the product with X - x, in place: the result without its last coefficient, which is 0 where the last one of m is

unfoldable pub rooted : ℕ → List ℕ → List ℕ
rooted x m = take (length m) (with_root x m)

pub rooted_length : (x : ℕ) (m : List ℕ) → length (rooted x m) ≡ length m
unfolding rooted with_root
rooted_length x m =
    length-take (length m) (plus (scale x m) (0 ∷ m)) ∙ omega (arith, plus_length (scale x m) (0 ∷ m), scale_length x m)

rooted_entry : (x : ℕ) (m : List ℕ) (i : ℕ) → i < length m → get_or (rooted x m) i 0 ≡ x ⊗ get_or m i 0 ⊕ get_or (0 ∷ m) i 0
unfolding rooted with_root
rooted_entry x m i h =
    get_or-take (length m) (plus (scale x m) (0 ∷ m)) i 0 h ∙ get_d_plus (scale x m) (0 ∷ m) i
    ∙ ap (λ (u : ℕ). u ⊕ get_or (0 ∷ m) i 0) (get_d_scale x m i)

pub root_turn : (m₀ m : List ℕ) (x n i r : ℕ) → n ≡ suc i → 0 < i → i < length m₀ → m ≡ mixed m₀ (rooted x m₀) n → r ≡ x ⊗ get_or m i 0
    → set m i (bit_xor r (get_or m (i - 1) 0)) ≡ mixed m₀ (rooted x m₀) i
unfolding ◌⊕◌
root_turn m₀ m x n zero r u p h k f = absurd (not-suc-le-zero p)
root_turn m₀ m x n (suc i) r u p h k f =
    let e : length m₀ ≡ length (rooted x m₀) = sym (rooted_length x m₀) in
    let b : suc i - 1 ≡ i = omega arith in
    let k' : m ≡ mixed m₀ (rooted x m₀) (suc (suc i)) = k ∙ ap (mixed m₀ (rooted x m₀)) u in
    down m₀ (rooted x m₀) m (suc i) (bit_xor r (get_or m (suc i - 1) 0)) e (omega arith) k'
    (ap₂ bit_xor
    (f ∙ ap (◌⊗◌ x) (ap (λ (l : List ℕ). get_or l (suc i) 0) k' ∙ mixed_front m₀ (rooted x m₀) (suc (suc i)) (suc i) e (omega arith)))
    (ap₂ (λ (l : List ℕ) (j : ℕ). get_or l j 0) k' b ∙ mixed_front m₀ (rooted x m₀) (suc (suc i)) i e (omega arith))
    ∙ sym (rooted_entry x m₀ (suc i) h))

pub root_last : (m₀ m : List ℕ) (x r : ℕ) → 0 < length m₀ → m ≡ mixed m₀ (rooted x m₀) 1 → r ≡ x ⊗ get_or m 0 0 → set m 0 r ≡ rooted x m₀
root_last m₀ m x r h k f =
    let e : length m₀ ≡ length (rooted x m₀) = sym (rooted_length x m₀) in
    down m₀ (rooted x m₀) m 0 r e (omega arith) k
    (f ∙ ap (◌⊗◌ x) (ap (λ (l : List ℕ). get_or l 0 0) k ∙ mixed_front m₀ (rooted x m₀) 1 0 e (omega arith))
    ∙ sym (X.zero_r (x ⊗ get_or m₀ 0 0)) ∙ sym (rooted_entry x m₀ 0 h))
    ∙ mixed_start m₀ (rooted x m₀)
