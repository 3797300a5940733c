-- Stamps are ordered by time, writer and sequence, strictly and totally. Assumes nothing.
use Prim.Native.Nat.{ℕ, ◌≤◌, ◌<◌}
use native.Mathlib.Omega.{arith}
use native.Mathlib.Decide.{dec_le}
use mathlib.Core.Bool.{Bool, true, false}
use mathlib.Core.Path.{◌≡◌, refl, ap, sym, ◌∙◌}
use mathlib.Core.Logic.{◌⊎◌, inl, inr, ⊎_elim}
use lib.Dec.{ltb, eqb}
use borrow.Author.Tests.{ltb-true, eqb-true, lt-ltb, eq-eqb}
use Rattle.area.proofs.Tests.{impossible, and_left, and_right, and_true, or_split, or_left, or_right}
use Rattle.frame.specs.declared.Stamp.{Stamp}
use Rattle.frame.specs.Stamps.{older, same_stamp, zero_stamp}

-- a comes before b; a is at most b
abbrev pub Less : Stamp → Stamp → Type 0
Less a b = (a.time < b.time) ⊎ ((a.time ≡ b.time) × ((a.writer < b.writer) ⊎ ((a.writer ≡ b.writer) × (a.sequence < b.sequence))))

abbrev pub AtMost : Stamp → Stamp → Type 0
AtMost a b = (a ≡ b) ⊎ Less a b

-- ---- the test tells the order

pub less_of : (a b : Stamp) → older a b ≡ true → Less a b
unfolding older
less_of a b e = ⊎_elim (λ u. inl (ltb-true _ _ u)) (λ u. inr (
  eqb-true _ _ (and_left (eqb a.time b.time) _ u),
  ⊎_elim
      (λ z. inl (ltb-true _ _ z))
      (λ z. inr (eqb-true _ _ (and_left (eqb a.writer b.writer) _ z), ltb-true _ _ (and_right (eqb a.writer b.writer) _ z)))
      (or_split (ltb a.writer b.writer) _ (and_right (eqb a.time b.time) _ u)),
))
    (or_split (ltb a.time b.time) _ e)

pub older_of : (a b : Stamp) → Less a b → older a b ≡ true
unfolding older
older_of a b (inl h) = or_left (ltb a.time b.time) _ (lt-ltb _ _ h)
older_of a b (inr (e, inl h)) =
    or_right (ltb a.time b.time) _
    (and_true (eqb a.time b.time) _ (eq-eqb _ _ e) (or_left (ltb a.writer b.writer) _ (lt-ltb _ _ h)))
older_of a b (inr (e, inr (f, h))) =
    or_right (ltb a.time b.time) _
    (and_true (eqb a.time b.time) _ (eq-eqb _ _ e)
    (or_right (ltb a.writer b.writer) _ (and_true (eqb a.writer b.writer) _ (eq-eqb _ _ f) (lt-ltb _ _ h))))

pub stamp_of_lem : (a b : Stamp) → same_stamp a b ≡ true → a ≡ b
unfolding same_stamp
stamp_of_lem a b e =
    let s = and_right (eqb a.time b.time) _ e in
    let t = eqb-true _ _ (and_left (eqb a.time b.time) _ e) in
    let w = eqb-true _ _ (and_left (eqb a.writer b.writer) _ s) in
    let q = eqb-true _ _ (and_right (eqb a.writer b.writer) _ s) in
    λ i. record { time = t i; writer = w i; sequence = q i }

pub same_of : (a b : Stamp) → a ≡ b → same_stamp a b ≡ true
unfolding same_stamp
same_of a b e =
    and_true (eqb a.time b.time) _ (eq-eqb _ _ (ap (λ x. x.time) e))
    (and_true (eqb a.writer b.writer) _ (eq-eqb _ _ (ap (λ x. x.writer) e)) (eq-eqb _ _ (ap (λ x. x.sequence) e)))

-- ---- strict and total

pub less_trans : (a b c : Stamp) → Less a b → Less b c → Less a c
less_trans a b c (inl h) (inl k) = inl (omega arith)
less_trans a b c (inl h) (inr (e, k)) = inl (omega (arith, h, e))
less_trans a b c (inr (e, h)) (inl k) = inl (omega (arith, k, e))
less_trans a b c (inr (e, inl h)) (inr (f, inl k)) = inr (e ∙ f, inl (omega arith))
less_trans a b c (inr (e, inl h)) (inr (f, inr (g, k))) = inr (e ∙ f, inl (omega arith))
less_trans a b c (inr (e, inr (g, h))) (inr (f, inl k)) = inr (e ∙ f, inl (omega arith))
less_trans a b c (inr (e, inr (g, h))) (inr (f, inr (l, k))) = inr (e ∙ f, inr (g ∙ l, omega arith))

pub less_not : (a b : Stamp) → a ≡ b → Less a b → ⊥
less_not a b e (inl h) = omega (arith, h, ap (λ z. z.time) e)
less_not a b e (inr (f, inl h)) = omega (arith, h, ap (λ z. z.writer) e)
less_not a b e (inr (f, inr (g, h))) = omega (arith, h, ap (λ z. z.sequence) e)

pub less_back : (a b : Stamp) → Less a b → Less b a → ⊥
less_back a b h k = less_not a a refl (less_trans a b a h k)

-- of two numbers one is smaller, or they are equal
pub three : (a b : ℕ) → (a < b) ⊎ ((a ≡ b) ⊎ (b < a))
three a b = go (dec_le a b) (dec_le b a)
  where
    go : Dec (a ≤ b) → Dec (b ≤ a) → (a < b) ⊎ ((a ≡ b) ⊎ (b < a))
    go (yes h) (yes k) = inr (inl (omega arith))
    go (yes h) (no k) = inl (omega arith)
    go (no h) k = inr (inr (omega arith))

-- of two stamps one is older, or they are equal
pub total : (a b : Stamp) → Less a b ⊎ ((a ≡ b) ⊎ Less b a)
total a b = go (three a.time b.time) (three a.writer b.writer) (three a.sequence b.sequence)
  where
    go : (a.time < b.time) ⊎ ((a.time ≡ b.time) ⊎ (b.time < a.time)) → (a.writer < b.writer) ⊎ ((a.writer ≡ b.writer) ⊎ (b.writer < a.writer))
        → (a.sequence < b.sequence) ⊎ ((a.sequence ≡ b.sequence) ⊎ (b.sequence < a.sequence)) → Less a b ⊎ ((a ≡ b) ⊎ Less b a)
    go (inl h) v w = inl (inl h)
    go (inr (inr h)) v w = inr (inr (inl h))
    go (inr (inl e)) (inl h) w = inl (inr (e, inl h))
    go (inr (inl e)) (inr (inr h)) w = inr (inr (inr (sym e, inl h)))
    go (inr (inl e)) (inr (inl f)) (inl h) = inl (inr (e, inr (f, h)))
    go (inr (inl e)) (inr (inl f)) (inr (inr h)) = inr (inr (inr (sym e, inr (sym f, h))))
    go (inr (inl e)) (inr (inl f)) (inr (inl g)) = inr (inl (λ d. record { time = e d; writer = f d; sequence = g d }))

-- a strict total order, by the test that the code makes
pub record StrictOrder (before : Stamp → Stamp → Bool) : Type 0 where
  pub irreflexive : (a : Stamp) → before a a ≡ true → ⊥
  pub transitive : (a b c : Stamp) → before a b ≡ true → before b c ≡ true → before a c ≡ true
  pub total : (a b : Stamp) → (before a b ≡ true) ⊎ ((a ≡ b) ⊎ (before b a ≡ true))

pub stamps_ordered : StrictOrder older
stamps_ordered = record {
  irreflexive = λ a e. less_not a a refl (less_of a a e);
  transitive = λ a b c p q. older_of a c (less_trans a b c (less_of a b p) (less_of b c q));
  total = λ a b. ⊎_elim (λ h. inl (older_of a b h)) (⊎_elim (λ e. inr (inl e)) (λ h. inr (inr (older_of b a h)))) (total a b);
}

-- ---- at most

-- not before b: at least b
pub at_most_of : (a b : Stamp) → older b a ≡ false → AtMost a b
at_most_of a b e = ⊎_elim (λ h. inr h) (⊎_elim (λ h. inl h) (λ h. impossible (cc (e, older_of b a h)))) (total a b)

pub at_most_trans : (a b c : Stamp) → AtMost a b → AtMost b c → AtMost a c
at_most_trans a b c (inl e) k = rw e k
at_most_trans a b c (inr h) (inl e) = inr (rw (sym e) h)
at_most_trans a b c (inr h) (inr k) = inr (less_trans a b c h k)

pub at_most_back : (a b : Stamp) → AtMost a b → Less b a → ⊥
at_most_back a b (inl e) h = less_not b a (sym e) h
at_most_back a b (inr k) h = less_back a b k h

pub at_most_both : (a b : Stamp) → AtMost a b → AtMost b a → a ≡ b
at_most_both a b (inl e) k = e
at_most_both a b (inr h) k = absurd (at_most_back b a k h)

pub zero_least : (a : Stamp) → AtMost zero_stamp a
zero_least a = ⊎_elim (λ h. inr h) (⊎_elim (λ h. inl h) (λ h. absurd (not h))) (total _ a)
  where
    not : Less a (record { time = 0; writer = 0; sequence = 0 }) → ⊥
    not (inl h) = omega arith
    not (inr (e, inl h)) = omega arith
    not (inr (e, inr (f, h))) = omega arith
