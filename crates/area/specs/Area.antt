-- Lists of bytes as lent areas hold them: a part, equality, and lists made by a rule; answers by number. Assumes nothing: these are definitions.
use Rattle.std.specs.Prelude.{ℕ, zero, suc, ◌+◌, ◌<◌, Bool, true, false, ◌&&◌, List, [], ◌∷◌, ◌++◌, take, drop, eqb}
use Rattle.std.proofs.Math.Option.{Option, none, some}

-- if-then-else
unfoldable pub pick : {A : Type 0} → Bool → A → A → A
pick true a b = a
pick false a b = b

-- a value that counts only if its flag is set
abbrev pub kept : {P : Type 0} → Bool → P → Option P
kept true p = some p
kept false p = none

-- the w elements from index i on
abbrev pub part : List ℕ → ℕ → ℕ → List ℕ
part l i w = take w (drop i l)

-- whether two lists are the same
unfoldable pub same : List ℕ → List ℕ → Bool
same [] [] = true
same [] (y ∷ ys) = false
same (x ∷ xs) [] = false
same (x ∷ xs) (y ∷ ys) = eqb x y && same xs ys

-- the first of a list that has the number n, by the numbers that f gives; a where none has it. It computes at numerals, so that a definition can name an
-- answer by its number in the papers
abbrev pub numbered : {A : Type 0} → (A → ℕ) → A → List A → ℕ → A
numbered f a [] n = a
numbered f a (x ∷ xs) n = elim (eqb (f x) n) [ true ↦ x | false ↦ numbered f a xs n ]

-- how many elements pass a test
unfoldable pub count : {A : Type 0} → (A → Bool) → List A → ℕ
count f [] = 0
count f (x ∷ l) = pick (f x) 1 0 + count f l

-- every element is a byte
abbrev pub Bytes : List ℕ → Type 0
Bytes [] = Unit {0}
Bytes (x ∷ xs) = (x < 256) × Bytes xs

-- f i, f (i + 1), ..: n of them
unfoldable pub table_from : {A : Type 0} → (ℕ → A) → ℕ → ℕ → List A
table_from f i zero = []
table_from f i (suc n) = f i ∷ table_from f (suc i) n

-- f 0, .., f (n - 1)
unfoldable pub table : {A : Type 0} → ℕ → (ℕ → A) → List A
table n f = table_from f 0 n

-- the lists f i, f (i + 1), .., n of them, end to end
unfoldable pub joined : {A : Type 0} → (ℕ → List A) → ℕ → ℕ → List A
joined f i zero = []
joined f i (suc n) = f i ++ joined f (suc i) n
