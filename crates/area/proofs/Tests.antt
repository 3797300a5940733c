-- Tests and their outcomes: the rules that close the returns of a chain of tests, what a chain tells where its outcome is known, truth values, and
-- impossible equations. Assumes nothing.
use Prim.Native.Nat.{ℕ}
use native.Mathlib.Omega.{arith}
use mathlib.Core.Path.{◌≡◌, refl, sym, ◌∙◌}
use mathlib.Core.Bool.{Bool, true, false, ◌&&◌, ◌||◌}
use mathlib.Core.Logic.{◌⊎◌, inl, inr}
use mathlib.Core.Option.{some, none}
use mathlib.Core.List.{[], ◌∷◌, Memᴰ}
use borrow.Author.Tests.{eq-eqb, ne_eqb, lt-ltb, le-ltb, le-leb, lt-leb}
use Rattle.area.specs.Area.{pick, kept}

-- `impossible (cc h)` closes a case whose equations h identify two constructors
pub impossible {ℓ} : {A : Type ℓ} → ◌≡◌ {A = ℕ} 0 1 → A
impossible z = absurd (omega arith)

-- ---- outcomes

-- a test's value from what a branch tells, for `search`
pub ruleset tests = (lt-ltb, le-ltb, le-leb, lt-leb, eq-eqb, ne_eqb)

-- the outcome is not the first, so the test is false
pub pick_not : {A : Type 0} (b : Bool) (e x y : A) → (e ≡ y → ⊥) → pick b e x ≡ y → (b ≡ false) × (x ≡ y)
unfolding pick
pick_not true e x y ne q = absurd (ne q)
pick_not false e x y ne q = (refl, q)

-- the outcome is not the second, so the test is true
pub pick_is : {A : Type 0} (b : Bool) (x e y : A) → (e ≡ y → ⊥) → pick b x e ≡ y → (b ≡ true) × (x ≡ y)
unfolding pick
pick_is true x e y ne q = (refl, q)
pick_is false x e y ne q = absurd (ne q)

-- both outcomes, each with its test
pub pick_case : {A : Type 0} (b : Bool) (x e y : A) → pick b x e ≡ y → ((b ≡ true) × (x ≡ y)) ⊎ ((b ≡ false) × (e ≡ y))
unfolding pick
pick_case true x e y q = inl (refl, q)
pick_case false x e y q = inr (refl, q)

-- a value that is there only where the test holds, three ways
pub pick_some : {A : Type 0} (b : Bool) (x y : A) → pick b (some x) none ≡ some y → (b ≡ true) × (x ≡ y)
unfolding pick
pick_some true x y e = (refl, cc e)
pick_some false x y e = impossible (cc e)

pub kept_some : {A : Type 0} (b : Bool) (x y : A) → kept b x ≡ some y → (b ≡ true) × (x ≡ y)
kept_some true x y e = (refl, cc e)
kept_some false x y e = impossible (cc e)

pub in_pick : {A : Type 0} (b : Bool) (x : A) → b ≡ true → Memᴰ x (pick b (x ∷ []) [])
unfolding pick
in_pick true x e = Memᴰ.head refl
in_pick false x e = impossible (cc e)

-- a function of an outcome
pub pick_ap : {A B : Type 0} (f : A → B) (b : Bool) (x y : A) → f (pick b x y) ≡ pick b (f x) (f y)
unfolding pick
pick_ap f true x y = refl
pick_ap f false x y = refl

-- a test r, which is b, holds: the value is the first outcome; it fails: the second
pub pick_yes : {A : Type 0} (b : Bool) (x y : A) {r : Bool} {z : A} → r ≡ b → r ≡ true → z ≡ x → z ≡ pick b x y
unfolding pick
pick_yes b x y e t f = let h : b ≡ true = sym e ∙ t in rw h f

pub pick_no : {A : Type 0} (b : Bool) (x y : A) {r : Bool} {z : A} → r ≡ b → r ≡ false → z ≡ y → z ≡ pick b x y
unfolding pick
pick_no b x y e t f = let h : b ≡ false = sym e ∙ t in rw h f

-- what holds of both outcomes of a test
pub by_pick {ℓ} : {A : Type 0} (P : A → Type ℓ) (b : Bool) (x y : A) → (b ≡ true → P x) → (b ≡ false → P y) → P (pick b x y)
unfolding pick
by_pick P true x y f g = f refl
by_pick P false x y f g = g refl

-- ---- truth values

-- the two values of a test
pub by_test : {X : Type 0} (b : Bool) → (b ≡ true → X) → (b ≡ false → X) → X
by_test true f g = f refl
by_test false f g = g refl

pub not_true : (b : Bool) → (b ≡ true → ⊥) → b ≡ false
not_true b f = by_test b (λ t. absurd (f t)) (λ e. e)

-- both parts of a conjunction that holds
pub and_left : (a b : Bool) → a && b ≡ true → a ≡ true
and_left true b e = refl
and_left false b e = e

pub and_right : (a b : Bool) → a && b ≡ true → b ≡ true
and_right true b e = e
and_right false true e = refl
and_right false false e = e

pub and_true : (a b : Bool) → a ≡ true → b ≡ true → (a && b) ≡ true
and_true true b e f = f
and_true false b e f = e

pub and_false : (a b : Bool) → b ≡ false → (a && b) ≡ false
and_false true b e = e
and_false false b e = refl

pub or_split : (a b : Bool) → (a || b) ≡ true → (a ≡ true) ⊎ (b ≡ true)
or_split true b e = inl refl
or_split false b e = inr e

pub or_left : (a b : Bool) → a ≡ true → (a || b) ≡ true
or_left a b e = rw e

pub or_right : (a b : Bool) → b ≡ true → (a || b) ≡ true
or_right true b e = refl
or_right false b e = e

pub or_false : (a b : Bool) → (a || b) ≡ false → (a ≡ false) × (b ≡ false)
or_false true b e = impossible (cc e)
or_false false b e = (refl, e)
