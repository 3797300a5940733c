-- The bounds of the parameters: what holds where a test is passed, and what each outcome of a chain of demands says. Assumes nothing.
use Prim.Native.Nat.{ℕ, ◌*◌, ◌-◌, ◌<◌, ◌≤◌}
use mathlib.Core.Path.{◌≡◌, refl, sym, ap, ◌∙◌}
use mathlib.Core.Bool.{Bool, true, false, ◌&&◌, not}
use native.Mathlib.Omega.{arith}
use lib.Dec.{leb, ltb, eqb}
use borrow.Author.Tests.{eq-eqb, ne_eqb, lt-leb, le-leb, lt-ltb, leb-true, ltb-true, not-true, not-false}
use Rattle.area.proofs.Tests.{impossible, and_left, and_right}
use Rattle.blocks.specs.declared.Params.{Params}
use Rattle.blocks.specs.declared.Fault.{Fault}
use Rattle.std.specs.Prelude.{Ok, Err}
use Rattle.blocks.specs.Params.{Coded, parties_fit, threshold_fits, length_fits, demand, and_then, params_test, Bounded}

-- a test that cannot hold is false
pub refuted : (b : Bool) → (b ≡ true → ⊥) → false ≡ b
refuted true h = absurd (h refl)
refuted false h = refl

pub parties_facts : (n t : ℕ) → parties_fit n t ≡ true → (4 ≤ n) × (n ≤ 10) × (1 ≤ t) × (3 * t < n)
unfolding parties_fit
parties_facts n t e =
    let abc = and_left (leb 4 n && leb n 10 && leb 1 t) (ltb (3 * t) n) e in
    let ab = and_left (leb 4 n && leb n 10) (leb 1 t) abc in (
      leb-true 4 n (and_left (leb 4 n) (leb n 10) ab),
      leb-true n 10 (and_right (leb 4 n) (leb n 10) ab),
      leb-true 1 t (and_right (leb 4 n && leb n 10) (leb 1 t) abc),
      ltb-true (3 * t) n (and_right (leb 4 n && leb n 10 && leb 1 t) (ltb (3 * t) n) e),
    )

pub parties_yes : (n t : ℕ) → 4 ≤ n → n ≤ 10 → 1 ≤ t → 3 * t < n → true ≡ parties_fit n t
unfolding parties_fit
parties_yes n t a b c d = sym (simp (le-leb 4 n a, le-leb n 10 b, le-leb 1 t c, lt-ltb (3 * t) n d))

pub threshold_facts : (n t k : ℕ) → threshold_fits n t k ≡ true → (1 ≤ k) × (k ≤ n - 2 * t)
unfolding threshold_fits
threshold_facts n t k e =
    (leb-true 1 k (and_left (leb 1 k) (leb k (n - 2 * t)) e), leb-true k (n - 2 * t) (and_right (leb 1 k) (leb k (n - 2 * t)) e))

pub threshold_yes : (n t k : ℕ) → 1 ≤ k → k ≤ n - 2 * t → true ≡ threshold_fits n t k
unfolding threshold_fits
threshold_yes n t k a b = sym (simp (le-leb 1 k a, le-leb k (n - 2 * t) b))

pub length_facts : (L : ℕ) → length_fits L ≡ true → (1 ≤ L) × (L ≤ 256)
unfolding length_fits
length_facts L e = (leb-true 1 L (and_left (leb 1 L) (leb L 256) e), leb-true L 256 (and_right (leb 1 L) (leb L 256) e))

pub length_yes : (L : ℕ) → 1 ≤ L → L ≤ 256 → true ≡ length_fits L
unfolding length_fits
length_yes L a b = sym (simp (le-leb 1 L a, le-leb L 256 b))

-- ---- demands

-- the code's test r of a demand b: `if !r { return .. }`
pub refuses : (r b : Bool) (f : Fault) (rest : Coded) → r ≡ b → not r ≡ true → demand b f rest ≡ Err f
unfolding demand
refuses r b f rest e h = ap (λ x. demand x f rest) (sym e ∙ not-true r h)

pub passes : (r b : Bool) (f : Fault) (rest : Coded) → r ≡ b → not r ≡ false → demand b f rest ≡ rest
unfolding demand
passes r b f rest e h = ap (λ x. demand x f rest) (sym e ∙ not-false r h)

-- if a chain of demands ends in Ok, all of them are met
pub demand_done : (b : Bool) (f : Fault) (rest : Coded) → demand b f rest ≡ Ok tt → (b ≡ true) × (rest ≡ Ok tt)
unfolding demand
demand_done true f rest e = (refl, e)
demand_done false f rest e = impossible (cc e)

-- parameters that pass are within the bounds
pub bounds : (g : Params) → params_test g ≡ Ok tt → Bounded g
unfolding params_test
bounds g e =
    let a = demand_done _ _ _ e in
    let b = demand_done _ _ _ a.1 in
    let c = demand_done _ _ _ b.1 in
    let p = parties_facts g.n g.t a.0 in
    let q = threshold_facts g.n g.t g.k b.0 in
    let r = length_facts g.size c.0 in
    record {
      servers_low = p.0;
      servers_high = p.1;
      faults_low = p.2;
      faults_high = omega (arith, p.3);
      blocks_low = q.0;
      blocks_high = omega arith;
      size_low = r.0;
      size_high = r.1;
    }

-- ---- chains of tests

pub then_refused : (p r rest : Coded) (f : Fault) → r ≡ p → r ≡ Err f → r ≡ and_then p rest
unfolding and_then
then_refused p r rest f e h = h ∙ ap (λ x. and_then x rest) (sym h ∙ e)

pub then_done : (p r rest : Coded) → r ≡ p → r ≡ Ok tt → and_then p rest ≡ rest
unfolding and_then
then_done p r rest e h = ap (λ x. and_then x rest) (sym e ∙ h)

-- a demand that two numbers are equal, or in order, by the outcome of the code's test
pub differs : (a b : ℕ) (f : Fault) (rest : Coded) → (a ≡ b → ⊥) → demand (eqb a b) f rest ≡ Err f
unfolding demand
differs a b f rest h = ap (λ x. demand x f rest) (ne_eqb a b h)

pub equals : (a b : ℕ) (f : Fault) (rest : Coded) → a ≡ b → demand (eqb a b) f rest ≡ rest
unfolding demand
equals a b f rest h = ap (λ x. demand x f rest) (eq-eqb a b h)

pub lacks : (a b : ℕ) (f : Fault) (rest : Coded) → b < a → demand (leb a b) f rest ≡ Err f
unfolding demand
lacks a b f rest h = ap (λ x. demand x f rest) (lt-leb a b h)

pub suffices : (a b : ℕ) (f : Fault) (rest : Coded) → a ≤ b → demand (leb a b) f rest ≡ rest
unfolding demand
suffices a b f rest h = ap (λ x. demand x f rest) (le-leb a b h)

-- a refusal that `?` hands on
pub handed_on : (r t : Coded) (f : Fault) → (x : Fault) × (t ≡ Err x) × (x ≡ f) → r ≡ Err f → t ≡ r
handed_on r t f q h = q.1 ∙ ap Err q.2 ∙ sym h
