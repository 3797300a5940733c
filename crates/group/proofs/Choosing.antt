-- The k lowest numbers that pass a test, as a loop over the numbers finds them. Assumes nothing.
use mathlib.Core.Path.{◌≡◌, refl, sym, ap, ap₂, ◌∙◌}
use mathlib.Core.Bool.{Bool, true, false, ◌&&◌}
use mathlib.Core.List.{List, [], ◌∷◌, ◌++◌, append-nil}
use Prim.Native.Nat.{ℕ, zero, suc, ◌+◌, ◌≤◌, ◌<◌}
use native.Mathlib.Nat.{add-zero, zero-add}
use native.Mathlib.Numerals.{add-one}
use native.Mathlib.Omega.{arith}
use lib.ListN.{length, get_or, take, set, length-append, length-take}
use lib.Seq.{sets, length-take-le}
use lib.Dec.{ltb}
use Rattle.area.specs.Area.{pick}
use Rattle.area.proofs.Sets.{sets_snoc}
use Rattle.quorum.specs.Quorum.{bit, count}
use Rattle.group.specs.Choice.{chosen, lowest}
use Rattle.group.proofs.Lists.{below_take, take_snoc}

-- ---- all that pass

pick_snoc : (b : Bool) (j : ℕ) (x y z : List ℕ) → x ≡ y ++ z → pick b (j ∷ x) x ≡ pick b (j ∷ y) y ++ z
unfolding pick
pick_snoc true j x y z e = ap (λ l. j ∷ l) e
pick_snoc false j x y z e = e

-- one number more
chosen_snoc : (p : ℕ → Bool) (j m : ℕ) → chosen p j (suc m) ≡ chosen p j m ++ pick (p (j + m)) ((j + m) ∷ []) []
unfolding chosen
chosen_snoc p j zero = rw add-zero
chosen_snoc p j (suc m) =
    let e : suc j + m ≡ j + suc m = omega arith in
    pick_snoc (p j) j (chosen p (suc j) (suc m)) (chosen p (suc j) m) (pick (p (j + suc m)) ((j + suc m) ∷ []) [])
    (chosen_snoc p (suc j) m ∙ ap (λ t. chosen p (suc j) m ++ pick (p t) (t ∷ []) []) e)

length_pick : (b : Bool) (x : ℕ) → length (pick b (x ∷ []) []) ≡ bit b
unfolding pick
length_pick true x = refl
length_pick false x = refl

-- as many as are counted
pub length_chosen : (p : ℕ → Bool) (n : ℕ) → length (chosen p 1 n) ≡ count p n
unfolding chosen count
length_chosen p zero = refl
length_chosen p (suc n) =
    let e : 1 + n ≡ suc n = omega arith in
    ap length (chosen_snoc p 1 n)
    ∙ length-append (chosen p 1 n) (pick (p (1 + n)) ((1 + n) ∷ []) [])
    ∙ ap₂ (λ a b. a + b) (length_chosen p n) (length_pick (p (1 + n)) (1 + n) ∙ ap (λ t. bit (p t)) e)
    ∙ swap (count p n) (bit (p (suc n)))
  where
    swap : (a b : ℕ) → a + b ≡ b + a
    swap a b = omega arith

-- by tests that agree
pub chosen_agree : (p q : ℕ → Bool) (j m : ℕ) → ((i : ℕ) → j ≤ i → i < j + m → p i ≡ q i) → chosen p j m ≡ chosen q j m
unfolding chosen
chosen_agree p q j zero h = refl
chosen_agree p q j (suc m) h =
    ap₂ (λ b l. pick b (j ∷ l) l) (h j (omega arith) (omega arith)) (chosen_agree p q (suc j) m (λ i a b. h i (omega arith) (omega arith)))

below_pick : (b : Bool) (j w : ℕ) (l : List ℕ) → j < w → ((i : ℕ) → get_or l i 0 < w) → (i : ℕ) → get_or (pick b (j ∷ l) l) i 0 < w
unfolding pick
below_pick true j w l h k zero = h
below_pick true j w l h k (suc i) = k i
below_pick false j w l h k i = k i

chosen_below : (p : ℕ → Bool) (j m : ℕ) → 1 ≤ j → (i : ℕ) → get_or (chosen p j m) i 0 < j + m
unfolding chosen
chosen_below p j zero h i = omega arith
chosen_below p j (suc m) h i =
    below_pick (p j) j (j + suc m) (chosen p (suc j) m) (omega arith)
    (λ l. let z = chosen_below p (suc j) m (omega arith) l in omega arith)
    i

-- ---- the k lowest

take_pick : (k : ℕ) (l : List ℕ) (b : Bool) (x : ℕ)
    → take k (l ++ pick b (x ∷ []) []) ≡ pick (b && ltb (length (take k l)) k) (take k l ++ (x ∷ [])) (take k l)
unfolding pick
take_pick k l true x = take_snoc k l x
take_pick k l false x = ap (take k) (append-nil l)

lowest_snoc : (p : ℕ → Bool) (k j : ℕ)
    → lowest p k (j + 1) ≡ pick (p (j + 1) && ltb (length (lowest p k j)) k) (lowest p k j ++ ((j + 1) ∷ [])) (lowest p k j)
unfolding lowest
lowest_snoc p k j =
    let e : 1 + j ≡ j + 1 = omega arith in
    ap (λ m. take k (chosen p 1 m)) (add-one j)
    ∙ ap (take k) (chosen_snoc p 1 j ∙ ap (λ t. chosen p 1 j ++ pick (p t) (t ∷ []) []) e)
    ∙ take_pick k (chosen p 1 j) (p (j + 1)) (j + 1)

pub lowest_none : (p : ℕ → Bool) (k : ℕ) → lowest p k 0 ≡ []
unfolding lowest chosen
lowest_none p zero = refl
lowest_none p (suc k) = refl

pub length_lowest : (p : ℕ → Bool) (k n : ℕ) → k ≤ count p n → length (lowest p k n) ≡ k
unfolding lowest
length_lowest p k n h =
    let z : k ≤ length (chosen p 1 n) = rw (length_chosen p n) h in
    length-take-le k (chosen p 1 n) z

pub few_lowest : (p : ℕ → Bool) (k n : ℕ) → length (lowest p k n) ≤ k
unfolding lowest
few_lowest p k n = simp length-take (omega arith)

pub lowest_below : (p : ℕ → Bool) (k n i : ℕ) → get_or (lowest p k n) i 0 ≤ n
unfolding lowest
lowest_below p k n i =
    let z = below_take k (chosen p 1 n) (1 + n) (omega arith) (chosen_below p 1 n (omega arith)) i in
    omega arith

-- ---- a turn of the loop that stores them

stored : (b : Bool) (d l : List ℕ) (x : ℕ) → pick b (set (sets d 0 l) (length l) x) (sets d 0 l) ≡ sets d 0 (pick b (l ++ (x ∷ [])) l)
unfolding pick
stored true d l x = sym (sets_snoc d 0 l x ∙ ap (λ t. set (sets d 0 l) t x) (zero-add (length l)))
stored false d l x = refl

counted : (b : Bool) (l : List ℕ) (x : ℕ) → pick b (length l + 1) (length l) ≡ length (pick b (l ++ (x ∷ [])) l)
unfolding pick
counted true l x = sym (length-append l (x ∷ []))
counted false l x = refl

-- server j + 1 was looked at: c numbers were stored before, r are now
pub number_turn : (p : ℕ → Bool) (k j c r : ℕ) (b : Bool) (d l m : List ℕ)
    → l ≡ sets d 0 (lowest p k j)
    → c ≡ length (lowest p k j)
    → b ≡ p (j + 1)
    → r ≡ pick (b && ltb c k) (c + 1) c
    → m ≡ pick (b && ltb c k) (set l c (j + 1)) l
    → (m ≡ sets d 0 (lowest p k (j + 1))) × (r ≡ length (lowest p k (j + 1))) × (r ≤ k)
number_turn p k j c r b d l m e f g h i =
    let y : m ≡ sets d 0 (lowest p k (j + 1)) =
    i ∙ rw (e, f, g) (stored (p (j + 1) && ltb (length (lowest p k j)) k) d (lowest p k j) (j + 1) ∙ ap (sets d 0) (sym (lowest_snoc p k j))) in
    let z : r ≡ length (lowest p k (j + 1)) =
    h ∙ rw (f, g) (counted (p (j + 1) && ltb (length (lowest p k j)) k) (lowest p k j) (j + 1) ∙ ap length (sym (lowest_snoc p k j))) in
    let few = few_lowest p k (j + 1) in
    (y, z, omega arith)

pub number_end : (p : ℕ → Bool) (k j n : ℕ) (d l : List ℕ) → n ≤ j → j ≤ n → l ≡ sets d 0 (lowest p k j) → l ≡ sets d 0 (lowest p k n)
number_end p k j n d l a b e = let q : j ≡ n = omega arith in e ∙ ap (λ i. sets d 0 (lowest p k i)) q
