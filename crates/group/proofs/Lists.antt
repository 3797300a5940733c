-- Lists: stores at the front, and equality of lists piece by piece. Assumes nothing.
use mathlib.Core.Path.{◌≡◌, refl, sym, ap, ap₂, ◌∙◌}
use mathlib.Core.Bool.{Bool, true, false, ◌&&◌}
use mathlib.Core.List.{List, [], ◌∷◌, ◌++◌}
use Prim.Native.Nat.{ℕ, zero, suc, ◌+◌, ◌≤◌, ◌<◌}
use native.Mathlib.Nat.{zero-add}
use native.Mathlib.Omega.{arith}
use native.Mathlib.Decide.{dec_le}
use lib.ListN.{length, get_or, take, drop, set, length-append}
use lib.Seq.{sets, take_all, take-append-le, length-take-le}
use lib.Dec.{eqb, ltb}
use borrow.Author.Tests.{eqb-true, eqb-false, eq-eqb, ne_eqb, lt-ltb, le-ltb}
use Rattle.area.specs.Area.{pick, same, table}
use Rattle.area.proofs.Sets.{sets_whole}
use Rattle.area.proofs.Fills.{length_table, sets_table}

-- ---- stores at the front

-- a turn of a loop that stores a table from the front on, and its end
pub table_turn : {A : Type 0} (f : ℕ → A) (d r : List A) (j : ℕ) (x : A) → r ≡ sets d 0 (table j f) → x ≡ f j → set r j x ≡ sets d 0 (table (j + 1) f)
table_turn f d r j x e q =
    ap₂ (λ l y. set l j y) e q ∙ ap (λ i. set (sets d 0 (table j f)) i (f j)) (sym (zero-add j)) ∙ sets_table d 0 j f

pub table_end : {A : Type 0} (f : ℕ → A) (d r : List A) (j n : ℕ) → length d ≡ n → n ≤ j → j ≤ n → r ≡ sets d 0 (table j f) → r ≡ table n f
table_end f d r j n l a b e =
    let q : j ≡ n = omega arith in
    e ∙ ap (λ i. sets d 0 (table i f)) q ∙ sets_whole d (table n f) (length_table n f ∙ sym l)

-- a list under another description
pub stored_as : (a b d r : List ℕ) (i : ℕ) → a ≡ b → r ≡ sets d i a → r ≡ sets d i b
stored_as a b d r i e q = q ∙ ap (sets d i) e

pub compared_with : (a b l : List ℕ) (r : Bool) → a ≡ b → r ≡ same a l → r ≡ same b l
compared_with a b l r e q = q ∙ ap (λ t. same t l) e

-- every element of a front is below what all elements are below
pub below_take : (k : ℕ) (l : List ℕ) (b : ℕ) → 0 < b → ((i : ℕ) → get_or l i 0 < b) → (i : ℕ) → get_or (take k l) i 0 < b
below_take zero l b z h i = z
below_take (suc k) [] b z h i = z
below_take (suc k) (x ∷ l) b z h zero = h 0
below_take (suc k) (x ∷ l) b z h (suc i) = below_take k l b z (λ m. h (suc m)) i

-- the first k of a list with one more element
pub take_snoc : (k : ℕ) (l : List ℕ) (x : ℕ)
    → take k (l ++ (x ∷ [])) ≡ pick (ltb (length (take k l)) k) (take k l ++ (x ∷ [])) (take k l)
unfolding pick
take_snoc k l x = go (dec_le (suc (length l)) k)
  where
    go : Dec (suc (length l) ≤ k) → take k (l ++ (x ∷ [])) ≡ pick (ltb (length (take k l)) k) (take k l ++ (x ∷ [])) (take k l)
    go (yes h) =
        let n = length-append l (x ∷ []) in
        let ha : length (l ++ (x ∷ [])) ≤ k = omega arith in
        let hb : length l ≤ k = omega arith in
        let a : take k (l ++ (x ∷ [])) ≡ l ++ (x ∷ []) = take_all k (l ++ (x ∷ [])) ha in
        let b : take k l ≡ l = take_all k l hb in
        rw (a, b, lt-ltb (length l) k h)
    go (no h) =
        let m : k ≤ length l = omega (arith, h) in
        let e : length (take k l) ≡ k = length-take-le k l m in
        let n : k ≤ length (take k l) = omega arith in
        let f : ltb (length (take k l)) k ≡ false = le-ltb (length (take k l)) k n in
        rw (take-append-le k l (x ∷ []) m, f)

-- ---- same

eqb_comm : (x y : ℕ) → eqb x y ≡ eqb y x
eqb_comm x y = go (eqb x y) refl
  where
    go : (b : Bool) → eqb x y ≡ b → eqb x y ≡ eqb y x
    go true e = e ∙ sym (eq-eqb y x (sym (eqb-true x y e)))
    go false e = e ∙ sym (ne_eqb y x (λ q. eqb-false x y e (sym q)))

pub same_comm : (a b : List ℕ) → same a b ≡ same b a
unfolding same
same_comm [] [] = refl
same_comm [] (y ∷ b) = refl
same_comm (x ∷ a) [] = refl
same_comm (x ∷ a) (y ∷ b) = ap₂ (λ u v. u && v) (eqb_comm x y) (same_comm a b)

and_assoc : (p q r : Bool) → p && (q && r) ≡ (p && q) && r
and_assoc true q r = refl
and_assoc false q r = refl

-- a list of two parts against a list
pub same_split : (x y l : List ℕ) → length x ≤ length l → same (x ++ y) l ≡ same x (take (length x) l) && same y (drop (length x) l)
unfolding same
same_split [] y l h = refl
same_split (a ∷ x) y [] h = absurd (omega arith)
same_split (a ∷ x) y (b ∷ l) h =
    ap (λ t. eqb a b && t) (same_split x y l (omega arith)) ∙ and_assoc (eqb a b) (same x (take (length x) l)) (same y (drop (length x) l))
