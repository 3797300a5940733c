-- Polynomials over the byte field as lists of coefficients, constant first. In this field a sum is also a difference.
-- Assumes nothing: these are definitions.
use Rattle.std.specs.Prelude.{ℕ, ◌*◌, ◌<◌, ◌≤◌, ◌≡◌, List, [], ◌∷◌, length, set, replicate}
use Rattle.area.specs.Area.{part}
use Rattle.field.specs.Field.{◌⊕◌, ◌⊗◌, power_of}

-- the value at x, by Horner's rule
unfoldable pub eval : List ℕ → ℕ → ℕ
eval [] x = 0
eval (c ∷ cs) x = c ⊕ x ⊗ eval cs x

-- the sum of two polynomials
unfoldable pub plus : List ℕ → List ℕ → List ℕ
plus [] q = q
plus (a ∷ p) [] = a ∷ p
plus (a ∷ p) (b ∷ q) = (a ⊕ b) ∷ plus p q

-- c times a polynomial
unfoldable pub scale : ℕ → List ℕ → List ℕ
scale c [] = []
scale c (a ∷ p) = (c ⊗ a) ∷ scale c p

-- X - x times a polynomial
unfoldable pub with_root : ℕ → List ℕ → List ℕ
with_root x p = plus (scale x p) (0 ∷ p)

-- the product of X - x over the points x
unfoldable pub vanishing : List ℕ → List ℕ
vanishing [] = 1 ∷ []
vanishing (x ∷ xs) = with_root x (vanishing xs)

-- Newton's step: p with as much of m as makes it y at x. Document 01: "An inverse is the 254th power"
unfoldable pub newton_step : List ℕ → List ℕ → ℕ → ℕ → List ℕ
newton_step p m x y = plus p (scale ((y ⊕ eval p x) ⊗ power_of (eval m x) 254) m)

-- document 01: "The polynomial through k points is built from the one through k - 1"
unfoldable pub through : List ℕ → List ℕ → List ℕ
through [] ys = []
through (x ∷ xs) [] = []
through (x ∷ xs) (y ∷ ys) = newton_step (through xs ys) (vanishing xs) x y

-- 1 at index i of k, and 0 elsewhere
unfoldable pub unit : ℕ → ℕ → List ℕ
unit k i = set (replicate k 0) i 1

-- the polynomial that is 1 at the i-th of the points xs and 0 at the others
unfoldable pub basis : List ℕ → ℕ → List ℕ
basis xs i = through xs (unit (length xs) i)

-- a table whose rows are these polynomials
pub record Basis (xs t : List ℕ) : Type 0 where
  pub room : length xs * length xs ≤ length t
  pub rows : (i : ℕ) → i < length xs → part t (i * length xs) (length xs) ≡ basis xs i

-- P of each entry
abbrev pub All : (ℕ → Type 0) → List ℕ → Type 0
All P [] = Unit {0}
All P (x ∷ xs) = P x × All P xs

-- no two entries are equal
abbrev pub Distinct : List ℕ → Type 0
Distinct [] = Unit {0}
Distinct (x ∷ xs) = All (λ z. z ≡ x → ⊥) xs × Distinct xs
