-- What a count or a search says of the elements of a list. Assumes nothing.
use mathlib.Core.Path.{◌≡◌, refl, ap, ◌∙◌}
use mathlib.Core.Bool.{Bool, true, false}
use mathlib.Core.List.{List, [], ◌∷◌}
use Prim.Native.Nat.{ℕ, zero, suc, ◌+◌, ◌<◌, ◌≤◌}
use native.Mathlib.Nat.{not-suc-le-zero, zero-add}
use native.Mathlib.Omega.{arith}
use lib.ListN.{length, get_or}
use borrow.Author.Tests.{ltb-false}
use Rattle.area.specs.Area.{pick, count}
pub use Rattle.area.proofs.Tests.{by_test, not_true}
use Rattle.order.specs.Histories.{place, any}

-- ---- searching

place_cons : {A : Type 0} (f : A → Bool) (x : A) (l : List A) → place f (x ∷ l) ≡ pick (f x) 0 (suc (place f l))
unfolding place
place_cons f x l = refl

pub place_hit : {A : Type 0} (f : A → Bool) (x : A) (l : List A) → f x ≡ true → place f (x ∷ l) ≡ 0
unfolding pick
place_hit f x l e = place_cons f x l ∙ rw e

pub place_miss : {A : Type 0} (f : A → Bool) (x : A) (l : List A) → f x ≡ false → place f (x ∷ l) ≡ suc (place f l)
unfolding pick
place_miss f x l e = place_cons f x l ∙ rw e

pub place_le : {A : Type 0} (f : A → Bool) (l : List A) → place f l ≤ length l
unfolding place
place_le f [] = omega arith
place_le f (x ∷ l) =
    by_test (f x)
    (λ t. let e = place_hit f x l t in omega arith)
    (λ t. let e = place_miss f x l t in let r = place_le f l in omega arith)

-- an element that passes is no earlier than the first that does
pub place_first : {A : Type 0} (f : A → Bool) (l : List A) (i : ℕ) (d : A) → i < length l → f (get_or l i d) ≡ true → place f l ≤ i
place_first f [] i d h p = absurd (not-suc-le-zero h)
place_first f (x ∷ l) zero d h p = let e = place_hit f x l p in omega arith
place_first f (x ∷ l) (suc i) d h p =
    by_test (f x)
    (λ t. let e = place_hit f x l t in omega arith)
    (λ t. let e = place_miss f x l t in let r = place_first f l i d (omega arith) p in omega arith)

-- the first that passes does pass
pub place_passes : {A : Type 0} (f : A → Bool) (l : List A) (d : A) → place f l < length l → f (get_or l (place f l) d) ≡ true
unfolding place
place_passes f [] d h = absurd (not-suc-le-zero h)
place_passes f (x ∷ l) d h =
    by_test (f x)
    (λ t. ap (λ k. f (get_or (x ∷ l) k d)) (place_hit f x l t) ∙ t)
    (λ t. ap (λ k. f (get_or (x ∷ l) k d)) (place_miss f x l t)
    ∙ place_passes f l d (let e = place_miss f x l t in omega arith))

-- if `any` is false, no element passes
pub none_passes : {A : Type 0} (f : A → Bool) (l : List A) (i : ℕ) (d : A) → any f l ≡ false → i < length l → f (get_or l i d) ≡ false
unfolding any
none_passes f l i d e h =
    not_true (f (get_or l i d)) (λ t. let a = ltb-false (place f l) (length l) e in let b = place_first f l i d h t in omega arith)

-- ---- counting

pub count_hit : {A : Type 0} (f : A → Bool) (x : A) (l : List A) → f x ≡ true → count f (x ∷ l) ≡ 1 + count f l
unfolding count pick
count_hit f x l e = rw e

pub count_miss : {A : Type 0} (f : A → Bool) (x : A) (l : List A) → f x ≡ false → count f (x ∷ l) ≡ 0 + count f l
unfolding count pick
count_miss f x l e = rw e

-- where the count is not 0, one passes
pub count_some : {A : Type 0} (f : A → Bool) (l : List A) → (count f l ≡ 0 → ⊥) → place f l < length l
unfolding count
count_some f [] h = absurd (h refl)
count_some f (x ∷ l) h =
    by_test (f x)
    (λ t. let e = place_hit f x l t in omega arith)
    (λ t. let e = place_miss f x l t in let r = count_some f l (λ z. h (count_miss f x l t ∙ zero-add (count f l) ∙ z)) in omega arith)

count_one : {A : Type 0} (f : A → Bool) (l : List A) (i : ℕ) (d : A) → i < length l → f (get_or l i d) ≡ true → 1 ≤ count f l
count_one f [] i d h p = absurd (not-suc-le-zero h)
count_one f (x ∷ l) zero d h p = let e = count_hit f x l p in omega arith
count_one f (x ∷ l) (suc i) d h p =
    let r = count_one f l i d (omega arith) p in
    by_test (f x) (λ t. let e = count_hit f x l t in omega arith) (λ t. let e = count_miss f x l t in omega arith)

-- where two pass, the count is at least 2
pub count_two : {A : Type 0} (f : A → Bool) (l : List A) (i j : ℕ) (d : A) → i < j → j < length l
    → f (get_or l i d) ≡ true → f (get_or l j d) ≡ true → 2 ≤ count f l
count_two f [] i j d g h p q = absurd (not-suc-le-zero h)
count_two f (x ∷ l) i zero d g h p q = absurd (not-suc-le-zero g)
count_two f (x ∷ l) zero (suc j) d g h p q =
    let r = count_one f l j d (omega arith) q in let e = count_hit f x l p in omega arith
count_two f (x ∷ l) (suc i) (suc j) d g h p q =
    let r = count_two f l i j d (omega arith) (omega arith) p q in
    by_test (f x) (λ t. let e = count_hit f x l t in omega arith) (λ t. let e = count_miss f x l t in omega arith)
