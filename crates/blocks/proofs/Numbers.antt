-- The numbers of the blocks to decode: the turns of the loops that test them, and what holds where a test is passed. Assumes nothing.
use Prim.Native.Nat.{ℕ, suc, ◌+◌, ◌-◌, ◌<◌, ◌≤◌}
use mathlib.Core.Path.{◌≡◌, refl, sym, ap, ap₂, ◌∙◌}
use mathlib.Core.Bool.{Bool, true, false, ◌&&◌, ◌||◌, not}
use mathlib.Core.List.{List, [], ◌∷◌}
use native.Mathlib.Numerals.{add-one}
use native.Mathlib.Omega.{arith}
use lib.Dec.{leb, eqb}
use lib.ListN.{length, drop, take, get_or, drop_of_length-le, length-drop}
use lib.Seq.{drop-cons, take_all}
use Rattle.std.specs.List.{list_any}
use borrow.Author.Tests.{leb-true, eqb-false, not-true, not-false}
use Rattle.area.specs.Area.{Bytes}
use Rattle.area.proofs.Tests.{and_left, and_right}
use Rattle.blocks.specs.Poly.{All, Distinct}
use Rattle.blocks.specs.Calls.{number_fits, absent, numbers_fit}

-- ---- a number

pub number_facts : (n j : ℕ) → number_fits n j ≡ true → (1 ≤ j) × (j ≤ n)
unfolding number_fits
number_facts n j e = (leb-true 1 j (and_left (leb 1 j) (leb j n) e), leb-true j n (and_right (leb 1 j) (leb j n) e))

-- ---- a number that is not among the others

any_absent : (j : ℕ) (js : List ℕ) → list_any (λ y. eqb y j) js ≡ not (absent j js)
unfolding absent
any_absent j [] = refl
any_absent j (i ∷ js) = ap (λ b. eqb i j || b) (any_absent j js) ∙ joined (eqb i j) (absent j js)
  where
    joined : (b c : Bool) → (b || not c) ≡ not (not b && c)
    joined true c = refl
    joined false c = refl

-- what `contains` says of the numbers after the m-th
pub others : (j : ℕ) (js : List ℕ) (m : ℕ) (s : Bool) → s ≡ list_any (λ y. eqb y j) (take (length js - (m + 1)) (drop (m + 1) js))
    → not s ≡ absent j (drop (m + 1) js)
others j js m s e =
    ap not (e ∙ ap (list_any (λ y. eqb y j)) (take_all _ (drop (m + 1) js) (simp length-drop (omega arith))) ∙ any_absent j (drop (m + 1) js))
    ∙ twice (absent j (drop (m + 1) js))
  where
    twice : (b : Bool) → not (not b) ≡ b
    twice true = refl
    twice false = refl

-- ---- all numbers

-- a number that fits and is not repeated, by the tests r and s of the code
pub numbers_turn : (n j : ℕ) (js : List ℕ) (m : ℕ) (r s : Bool) → m < length js → j ≡ get_or js m 0 → r ≡ number_fits n j → not r ≡ false
    → s ≡ absent j (drop (m + 1) js) → not s ≡ false → numbers_fit n (drop m js) ≡ numbers_fit n (drop (m + 1) js)
unfolding numbers_fit
numbers_turn n j js m r s h e p a q b =
    let x : number_fits n (get_or js m 0) ≡ true = ap (number_fits n) (sym e) ∙ sym p ∙ not-false r a in
    let y : absent (get_or js m 0) (drop (suc m) js) ≡ true = ap₂ (λ u v. absent u (drop v js)) (sym e) (sym (add-one m)) ∙ sym q ∙ not-false s b in
    rw (add-one, drop-cons js m 0) (simp (x, y))

pub numbers_out : (n j : ℕ) (js : List ℕ) (m : ℕ) (r : Bool) → m < length js → j ≡ get_or js m 0 → r ≡ number_fits n j → not r ≡ true
    → numbers_fit n (drop m js) ≡ false
unfolding numbers_fit
numbers_out n j js m r h e p a =
    let x : number_fits n (get_or js m 0) ≡ false = ap (number_fits n) (sym e) ∙ sym p ∙ not-true r a in
    rw (drop-cons js m 0) (simp x)

pub numbers_twice : (n j : ℕ) (js : List ℕ) (m : ℕ) (r s : Bool) → m < length js → j ≡ get_or js m 0 → r ≡ number_fits n j → not r ≡ false
    → s ≡ absent j (drop (m + 1) js) → not s ≡ true → numbers_fit n (drop m js) ≡ false
unfolding numbers_fit
numbers_twice n j js m r s h e p a q b =
    let x : number_fits n (get_or js m 0) ≡ true = ap (number_fits n) (sym e) ∙ sym p ∙ not-false r a in
    let y : absent (get_or js m 0) (drop (suc m) js) ≡ false = ap₂ (λ u v. absent u (drop v js)) (sym e) (sym (add-one m)) ∙ sym q ∙ not-true s b in
    rw (drop-cons js m 0) (simp (x, y))

pub numbers_end : (n : ℕ) (js : List ℕ) (m : ℕ) → length js ≤ m → numbers_fit n (drop m js) ≡ true
unfolding numbers_fit
numbers_end n js m h = rw (drop_of_length-le js)

-- ---- what holds where the test is passed

absent_facts : (j : ℕ) (js : List ℕ) → absent j js ≡ true → All (λ z. z ≡ j → ⊥) js
unfolding absent
absent_facts j [] e = tt
absent_facts j (i ∷ js) e =
    (eqb-false i j (not-true (eqb i j) (and_left (not (eqb i j)) (absent j js) e)), absent_facts j js (and_right (not (eqb i j)) (absent j js) e))

-- numbers that pass are bytes, and distinct
pub numbers_facts : (n : ℕ) (js : List ℕ) → n < 256 → numbers_fit n js ≡ true → Bytes js × Distinct js
unfolding numbers_fit
numbers_facts n [] h e = (tt, tt)
numbers_facts n (j ∷ js) h e =
    let ab = and_left (number_fits n j && absent j js) (numbers_fit n js) e in
    let f = number_facts n j (and_left (number_fits n j) (absent j js) ab) in
    let a = absent_facts j js (and_right (number_fits n j) (absent j js) ab) in
    let r = numbers_facts n js h (and_right (number_fits n j && absent j js) (numbers_fit n js) e) in
    ((omega arith, r.0), (a, r.1))

-- each of them is 1 to n
pub numbers_within : (n : ℕ) (js : List ℕ) → numbers_fit n js ≡ true → All (λ j. (1 ≤ j) × (j ≤ n)) js
unfolding numbers_fit
numbers_within n [] e = tt
numbers_within n (j ∷ js) e =
    let ab = and_left (number_fits n j && absent j js) (numbers_fit n js) e in
    (number_facts n j (and_left (number_fits n j) (absent j js) ab), numbers_within n js (and_right (number_fits n j && absent j js) (numbers_fit n js) e))
