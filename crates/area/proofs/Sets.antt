-- Stores: `sets l i vs` is the list l with vs stored from index i on, `part l i w` the w elements from index i on. A store of two lists one after the other,
-- a store that grows by one element, and what is read after a store. Assumes nothing.
use mathlib.Core.Path.{◌≡◌, refl, sym, ap, ◌∙◌}
use mathlib.Core.List.{List, [], ◌∷◌, ◌++◌, append_assoc, append-nil}
use Prim.Native.Nat.{ℕ, zero, suc, ◌+◌, ◌-◌, ◌*◌, ◌≤◌, ◌<◌}
use native.Mathlib.Nat.{add-zero, add-suc, suc-add, suc-mul, mul-le-mul_right}
use native.Mathlib.Numerals.{add-one}
use native.Mathlib.Omega.{arith}
use lib.ListN.{length, take, drop, get_or, set, replicate, length-take, length-drop, drop_of_length-le}
use lib.Seq.{sets, sets-eq, take-suc, take_at, drop_at, length-take-le, drop-set-add, drop-set-lt, take-set-le, get_or-set_other, drop-drop}
use borrow.Rule.Slice.PartMut.{put_mid}
use Rattle.area.specs.Area.{part}

-- ---- what is stored

-- a store of two lists, the one after the other
pub sets_append : {A : Type 0} (d : List A) (i : ℕ) (a b : List A) → sets d i (a ++ b) ≡ sets (sets d i a) (i + length a) b
sets_append d i [] b = rw add-zero
sets_append d i (x ∷ a) b = sets_append (set d i x) (suc i) a b ∙ rw (add-suc, suc-add)

-- the same from the other side: a store after one of w elements
pub sets_next : {A : Type 0} (d : List A) (i : ℕ) (a b : List A) (w : ℕ) → length a ≡ w → sets (sets d i a) (i + w) b ≡ sets d i (a ++ b)
sets_next d i a b w e = rw (← e) (sym (sets_append d i a b))

-- one more element after those that are stored
pub sets_snoc : {A : Type 0} (d : List A) (i : ℕ) (a : List A) (x : A) → sets d i (a ++ (x ∷ [])) ≡ set (sets d i a) (i + length a) x
sets_snoc d i a x = sets_append d i a (x ∷ [])

-- one more element of s stored
pub sets_more : (d : List ℕ) (i : ℕ) (s : List ℕ) (j : ℕ) → j < length s → set (sets d i (take j s)) (i + j) (get_or s j 0) ≡ sets d i (take (j + 1) s)
sets_more d i s j h =
    let h₁ : j ≤ length s = omega arith in
    rw (add-one, take-suc s j 0, sets_append)
    (rw (length-take-le j s) refl)

-- a list that fills the whole
pub sets_whole : {A : Type 0} (l vs : List A) → length vs ≡ length l → sets l 0 vs ≡ vs
sets_whole l vs e =
    let h : 0 + length vs ≤ length l = omega arith in
    let k : length l ≤ 0 + length vs = omega arith in
    sets-eq vs l 0 h ∙ ap (λ t. vs ++ t) (drop_of_length-le l k) ∙ append-nil vs

-- ---- an element

-- one after those that were stored
pub get_d_after : {A : Type 0} (l : List A) (i : ℕ) (vs : List A) (k : ℕ) (d : A) → i + length vs ≤ k → get_or (sets l i vs) k d ≡ get_or l k d
get_d_after l i [] k d h = refl
get_d_after l i (x ∷ vs) k d h = get_d_after (set l i x) (suc i) vs k d (omega arith) ∙ get_or-set_other l i k x d (λ e. omega arith)

-- what f says of x, and of the element past the end, it says of each of n copies of x
pub of_copies : {A B : Type 0} (f : A → B) (x d : A) (y : B) → f x ≡ y → f d ≡ y → (n j : ℕ) → f (get_or (replicate n x) j d) ≡ y
of_copies f x d y p q zero j = q
of_copies f x d y p q (suc n) zero = p
of_copies f x d y p q (suc n) (suc j) = of_copies f x d y p q n j

-- ---- a part of an area

pub length_part : (l : List ℕ) (i w : ℕ) → i + w ≤ length l → length (part l i w) ≡ w
length_part l i w h = simp (length-take, length-drop) (omega arith)

-- n parts of width w have room for part j
pub room : (j n w : ℕ) → j < n → j * w + w ≤ n * w
room j n w h = rw suc-mul at (mul-le-mul_right w h)

-- the part that was stored
pub part_sets_same : (l : List ℕ) (i : ℕ) (vs : List ℕ) → i + length vs ≤ length l → part (sets l i vs) i (length vs) ≡ vs
part_sets_same l i vs h =
    let hi : i ≤ length l = omega arith in
    rw (sets-eq vs l i, append_assoc, drop_at (take i l) _ i (length-take-le i l hi), take_at vs _ (length vs) refl)

-- the front that was stored
pub take_front : (l vs : List ℕ) (k : ℕ) → length vs ≡ k → k ≤ length l → take k (sets l 0 vs) ≡ vs
take_front l vs k e h =
    let z : 0 + length vs ≤ length l = omega arith in
    rw (← e) (part_sets_same l 0 vs z)

-- a part that ends before what was stored
pub part_sets_before : (l : List ℕ) (i : ℕ) (vs : List ℕ) (j w : ℕ) → j + w ≤ i → part (sets l i vs) j w ≡ part l j w
part_sets_before l i [] j w h = refl
part_sets_before l i (v ∷ vs) j w h =
    let e : i ≡ j + (i - j) = omega arith in
    let k : w ≤ i - j = omega arith in
    part_sets_before (set l i v) (suc i) vs j w (omega arith)
    ∙ rw (e, drop-set-add, take-set-le w (drop j l) (i - j) v k)

-- a part that starts after it
pub part_sets_after : (l : List ℕ) (i : ℕ) (vs : List ℕ) (j w : ℕ) → i + length vs ≤ j → part (sets l i vs) j w ≡ part l j w
part_sets_after l i [] j w h = refl
part_sets_after l i (v ∷ vs) j w h =
    let h₁ : i < j = omega arith in
    part_sets_after (set l i v) (suc i) vs j w (omega arith) ∙ rw (drop-set-lt j l i v h₁)

-- what is left of an area after a write to a slice of it, from index a on
pub sets_put : {A : Type 0} (a k : ℕ) (l vs ws : List A) → ws ≡ vs → k ≡ length vs → a + length vs ≤ length l → put_mid a k l ws ≡ sets l a vs
sets_put a k l vs ws e w h = rw (e, w, sets-eq vs l a h, append_assoc, drop-drop)
