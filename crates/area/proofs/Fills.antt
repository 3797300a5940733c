-- Lists made by a rule, and the loops that store them. A loop that stores f 0, f 1, .. one a turn has, after j turns, `sets d i (table j f)`; one that
-- stores the lists f i, f (i + 1), .. end to end has `sets d 0 (joined f i j)`.
-- A loop that replaces every entry of a list in place goes by `mixed`. Assumes nothing.
use mathlib.Core.Path.{◌≡◌, refl, sym, ap, ap₂, ◌∙◌}
use mathlib.Core.List.{List, [], ◌∷◌, ◌++◌, append_assoc, append-nil}
use Prim.Native.Nat.{ℕ, zero, suc, ◌+◌, ◌*◌, ◌<◌, ◌≤◌}
use native.Mathlib.Nat.{not-suc-le-zero, add-zero, zero-add, add-suc, suc-add, suc-mul}
use native.Mathlib.Numerals.{add-one}
use native.Mathlib.Omega.{arith}
use lib.ListN.{length, get_or, take, drop, set, length-append, length-take, length-drop, drop_of_length-le}
use lib.Seq.{sets, take_all}
use Rattle.area.specs.Area.{table_from, table, joined}
use Rattle.area.proofs.Sets.{sets_snoc}

-- ---- tables

pub length_table_from : {A : Type 0} (f : ℕ → A) (i n : ℕ) → length (table_from f i n) ≡ n
unfolding table_from
length_table_from f i zero = refl
length_table_from f i (suc n) = ap suc (length_table_from f (suc i) n)

pub length_table : {A : Type 0} (n : ℕ) (f : ℕ → A) → length (table n f) ≡ n
unfolding table
length_table n f = length_table_from f 0 n

get_d_table_from : {A : Type 0} (f : ℕ → A) (i n j : ℕ) (d : A) → j < n → get_or (table_from f i n) j d ≡ f (i + j)
unfolding table_from
get_d_table_from f i zero j d h = absurd (not-suc-le-zero h)
get_d_table_from f i (suc n) zero d h = rw add-zero
get_d_table_from f i (suc n) (suc j) d h = get_d_table_from f (suc i) n j d (omega arith) ∙ rw (add-suc, suc-add)

-- entry j of a table
pub get_d_table : {A : Type 0} (n : ℕ) (f : ℕ → A) (j : ℕ) (d : A) → j < n → get_or (table n f) j d ≡ f j
unfolding table
get_d_table n f j d h = get_d_table_from f 0 n j d h ∙ rw zero-add

table_from_snoc : {A : Type 0} (f : ℕ → A) (i n : ℕ) → table_from f i (suc n) ≡ table_from f i n ++ (f (i + n) ∷ [])
unfolding table_from
table_from_snoc f i zero = rw add-zero
table_from_snoc f i (suc n) = ap (λ l. f i ∷ l) (table_from_snoc f (suc i) n ∙ rw (add-suc, suc-add))

-- one more entry
pub table_snoc : {A : Type 0} (n : ℕ) (f : ℕ → A) → table (n + 1) f ≡ table n f ++ (f n ∷ [])
unfolding table
table_snoc n f = rw add-one (table_from_snoc f 0 n ∙ rw zero-add)

-- a loop that stores a table: the turn n
pub sets_table : {A : Type 0} (d : List A) (i n : ℕ) (f : ℕ → A) → set (sets d i (table n f)) (i + n) (f n) ≡ sets d i (table (n + 1) f)
sets_table d i n f =
    let e : i + length (table n f) ≡ i + n = ap (λ m. i + m) (length_table n f) in
    sym (rw table_snoc (sets_snoc d i (table n f) (f n) ∙ rw e))

-- two tables by rules that agree below n
table_from_agree : {A : Type 0} (f g : ℕ → A) (i n : ℕ) → ((j : ℕ) → i ≤ j → j < i + n → f j ≡ g j) → table_from f i n ≡ table_from g i n
unfolding table_from
table_from_agree f g i zero e = refl
table_from_agree f g i (suc n) e =
    ap₂ (λ x l. x ∷ l) (e i (omega arith) (omega arith)) (table_from_agree f g (suc i) n (λ j a b. e j (omega arith) (omega arith)))

pub table_agree : {A : Type 0} (n : ℕ) (f g : ℕ → A) → ((j : ℕ) → j < n → f j ≡ g j) → table n f ≡ table n g
unfolding table
table_agree n f g e = table_from_agree f g 0 n (λ j a b. e j (omega arith))

-- ---- lists end to end

-- one more list
pub joined_snoc : {A : Type 0} (f : ℕ → List A) (i n : ℕ) → joined f i (n + 1) ≡ joined f i n ++ f (i + n)
unfolding joined
joined_snoc f i zero = rw add-zero (append-nil (f i))
joined_snoc f i (suc n) = rw add-one (go (rw add-one at (joined_snoc f (suc i) n)))
  where
    go : joined f (suc i) (suc n) ≡ joined f (suc i) n ++ f (suc i + n) → f i ++ joined f (suc i) (suc n) ≡ (f i ++ joined f (suc i) n) ++ f (i + suc n)
    go e = ap (λ l. f i ++ l) e ∙ sym (append_assoc (f i) (joined f (suc i) n) (f (suc i + n))) ∙ rw (add-suc, suc-add)

-- two runs of lists
pub joined_split : {A : Type 0} (f : ℕ → List A) (i n m : ℕ) → joined f i (n + m) ≡ joined f i n ++ joined f (i + n) m
unfolding joined
joined_split f i zero m = ap₂ (joined f) (sym (add-zero i)) (zero-add m)
joined_split f i (suc n) m =
    let d : suc i + n ≡ i + suc n = omega arith in
    rw (suc-add n m) (ap (λ l. f i ++ l) (joined_split f (suc i) n m ∙ ap (λ k. joined f (suc i) n ++ joined f k m) d) ∙ sym (append_assoc (f i) _ _))

-- those that are joined have one length; or all have
pub length_lines : {A : Type 0} (f : ℕ → List A) (w i n : ℕ) → ((j : ℕ) → i ≤ j → j < i + n → length (f j) ≡ w) → length (joined f i n) ≡ n * w
unfolding joined
length_lines f w i zero e = sym (omega arith)
length_lines f w i (suc n) e =
    length-append (f i) (joined f (suc i) n)
    ∙ ap₂ (λ x y. x + y) (e i (omega arith) (omega arith)) (length_lines f w (suc i) n (λ j a b. e j (omega arith) (omega arith)))
    ∙ (let z : w + n * w ≡ suc n * w = rw suc-mul (omega arith) in z)

pub length_joined : {A : Type 0} (f : ℕ → List A) (w i n : ℕ) → ((j : ℕ) → length (f j) ≡ w) → length (joined f i n) ≡ n * w
length_joined f w i n e = length_lines f w i n (λ j a b. e j)

-- ---- a loop that replaces the entries of a list in place

-- the first i entries of f and the others of d: d at 0, and f at the end. A loop that counts up goes from `mixed f d 0` to `mixed f d (length d)`, one that
-- counts down from `mixed d f (length d)` to `mixed d f 0`
unfoldable pub mixed : List ℕ → List ℕ → ℕ → List ℕ
mixed f d i = take i f ++ drop i d

pub mixed_start : (f d : List ℕ) → mixed f d 0 ≡ d
unfolding mixed
mixed_start f d = refl

pub mixed_end : (f d : List ℕ) (i : ℕ) → length f ≡ length d → length d ≤ i → mixed f d i ≡ f
unfolding mixed
mixed_end f d i e h =
    let h₁ : length f ≤ i = omega arith in
    rw (take_all i f h₁, drop_of_length-le d) (append-nil f)

pub length_mixed : (f d : List ℕ) (i : ℕ) → length f ≡ length d → length (mixed f d i) ≡ length d
unfolding mixed
length_mixed f d i e = simp (length-append, length-take, length-drop) (omega arith)

-- an entry that is not reached yet, and one before
pub mixed_rest : (f d : List ℕ) (i j : ℕ) → length f ≡ length d → i ≤ j → get_or (mixed f d i) j 0 ≡ get_or d j 0
unfolding mixed
mixed_rest f d zero j e h = refl
mixed_rest [] [] (suc i) j e h = refl
mixed_rest [] (b ∷ d) (suc i) j e h = absurd (omega arith)
mixed_rest (a ∷ f) [] (suc i) j e h = absurd (omega arith)
mixed_rest (a ∷ f) (b ∷ d) (suc i) zero e h = absurd (omega arith)
mixed_rest (a ∷ f) (b ∷ d) (suc i) (suc j) e h = mixed_rest f d i j (omega arith) (omega arith)

pub mixed_front : (f d : List ℕ) (i j : ℕ) → length f ≡ length d → j < i → get_or (mixed f d i) j 0 ≡ get_or f j 0
unfolding mixed
mixed_front f d zero j e h = absurd (not-suc-le-zero h)
mixed_front [] [] (suc i) j e h = refl
mixed_front [] (b ∷ d) (suc i) j e h = absurd (omega arith)
mixed_front (a ∷ f) [] (suc i) j e h = absurd (omega arith)
mixed_front (a ∷ f) (b ∷ d) (suc i) zero e h = refl
mixed_front (a ∷ f) (b ∷ d) (suc i) (suc j) e h = mixed_front f d i j (omega arith) (omega arith)

-- the stores of one turn, counting up and counting down
mixed_up : (f d : List ℕ) (i : ℕ) → length f ≡ length d → i < length d → set (mixed f d i) i (get_or f i 0) ≡ mixed f d (suc i)
unfolding mixed
mixed_up [] [] i e h = absurd (not-suc-le-zero h)
mixed_up [] (b ∷ d) i e h = absurd (omega arith)
mixed_up (a ∷ f) [] i e h = absurd (omega arith)
mixed_up (a ∷ f) (b ∷ d) zero e h = refl
mixed_up (a ∷ f) (b ∷ d) (suc i) e h = ap (λ l. a ∷ l) (mixed_up f d i (omega arith) (omega arith))

mixed_down : (d f : List ℕ) (i : ℕ) → length d ≡ length f → i < length f → set (mixed d f (suc i)) i (get_or f i 0) ≡ mixed d f i
unfolding mixed
mixed_down [] [] i e h = absurd (not-suc-le-zero h)
mixed_down [] (b ∷ f) i e h = absurd (omega arith)
mixed_down (a ∷ d) [] i e h = absurd (omega arith)
mixed_down (a ∷ d) (b ∷ f) zero e h = refl
mixed_down (a ∷ d) (b ∷ f) (suc i) e h = ap (λ l. a ∷ l) (mixed_down d f i (omega arith) (omega arith))

-- a turn, for the list l so far and the value v that is stored
pub up : (f d l : List ℕ) (i v : ℕ) → length f ≡ length d → i < length d → l ≡ mixed f d i → v ≡ get_or f i 0 → set l i v ≡ mixed f d (i + 1)
up f d l i v e h p q = ap₂ (λ m u. set m i u) p q ∙ mixed_up f d i e h ∙ ap (mixed f d) (sym (add-one i))

pub down : (d f l : List ℕ) (i v : ℕ) → length d ≡ length f → i < length f → l ≡ mixed d f (suc i) → v ≡ get_or f i 0 → set l i v ≡ mixed d f i
down d f l i v e h p q = ap₂ (λ m u. set m i u) p q ∙ mixed_down d f i e h
