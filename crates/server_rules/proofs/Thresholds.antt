-- What a ready and a delivery rest on: n - t echoes of one payload, or readies above t, and a comparison of all digests that was equal.
-- An edit of a threshold is refused here. Assumes nothing.
use Prim.Native.Nat.{ℕ, ◌-◌, ◌≤◌, ◌<◌}
use native.Mathlib.Omega.{arith}
use mathlib.Core.Bool.{true, not, ◌||◌}
use mathlib.Core.Path.{◌≡◌, refl, ap}
use mathlib.Core.Logic.{◌⊎◌, inl, inr, ⊎_elim}
use mathlib.Core.Option.{Option}
use mathlib.Core.List.{List}
use lib.Dec.{leb, eqb}
use borrow.Author.Tests.{leb-true, eqb-true, eq-eqb}
use Rattle.quorum.proofs.Logic.{and_split, and_true, or_split}
use Rattle.area.specs.Area.{same}
use Rattle.area.proofs.Same.{same_true, same_refl}
use Rattle.blocks.specs.declared.Params.{Params}
use Rattle.group_rules.specs.Coded.{digests_of}
use Rattle.frame.specs.Params.{quota}
use Rattle.frame.specs.Messages.{Offer}
use Rattle.server_rules.specs.Broadcast.{Rules, Part, votes, enough, due, full}
use Rattle.server_rules.specs.Rules.{regained_of, unanimous_of, block_rules}

either : (m a k b : ℕ) → (leb m a || leb k b) ≡ true → (m ≤ a) ⊎ (k ≤ b)
either m a k b e = ⊎_elim (λ h. inl (leb-true m a h)) (λ h. inr (leb-true k b h)) (or_split (leb m a) (leb k b) e)

-- ---- for any payload

module _ {P : Type 0} (R : Rules P) (n t : ℕ) (w : Part P) (x : P) where
  -- a ready follows n - t echoes, or the few readies on which one is sent
  pub due_votes : due R n t w x ≡ true → (n - t ≤ votes R n t w.echoes x) ⊎ (R.few ≤ votes R n t w.readies x)
  unfolding due enough
  due_votes e = ⊎_elim (λ h. inl (omega (arith, h))) (λ h. inr h)
      (either n _ R.few _ (and_split (enough R n t w x) _ (and_split (not w.ready) _ e).1).0)

  -- a delivery follows all the readies that it asks for, and the payload is supported
  pub full_votes : full R n t w x ≡ true → R.all ≤ votes R n t w.readies x
  unfolding full
  full_votes e = leb-true R.all (votes R n t w.readies x) (and_split _ _ e).0

  pub full_supported : full R n t w x ≡ true → R.supports w.echoes w.readies x ≡ true
  unfolding full
  full_supported e = (and_split (leb R.all (votes R n t w.readies x)) _ e).1

-- π is what counts of a payload. So many readies are not all of false servers.
pub record Sane {P D : Type 0} (R : Rules P) (t : ℕ) (π : P → D) : Type 0 where
  pub same_true : (x y : P) → R.alike x y ≡ true → π x ≡ π y
  pub own_same : (i : ℕ) (es rs : ℕ → Option P) (x : P) → π (R.own i es rs x) ≡ π x
  pub few_many : t < R.few
  pub all_many : t < R.all

-- ---- the broadcast of a write

-- q is at least k, and above t
pub quota_blocks : (g : Params) → g.k ≤ quota g
unfolding quota
quota_blocks g = omega arith

pub quota_faults : (g : Params) → g.t < quota g
unfolding quota
quota_faults g = omega arith

-- what counts of an offer: its time and its digest list
abbrev pub agreed : Offer → ℕ × List ℕ
agreed o = (o.time, o.entry.digests)

module _ (H : List ℕ → List ℕ) (g : Params) where
  pub blocks_sane : Sane (block_rules H g) g.t agreed
  blocks_sane = record {
    same_true = λ x y e.
        let w = and_split (eqb x.time y.time) (same x.entry.digests y.entry.digests) e in
        λ i. (eqb-true x.time y.time w.0 i, same_true x.entry.digests y.entry.digests w.1 i);
    own_same = λ i es rs x. refl;
    few_many = omega (arith, quota_faults g);
    all_many = omega (arith, quota_faults g);
  }

  -- offers with one time and one digest list are alike
  pub alike_of : (x y : Offer) → agreed x ≡ agreed y → (block_rules H g).alike x y ≡ true
  alike_of x y e = and_true _ _ (eq-eqb x.time y.time (ap (λ p. p.0) e))
      (rw (ap (λ p. p.1) e) (same_refl y.entry.digests))

  -- the blocks of frames that support an offer agree, and give a value with all digests of its list
  pub unanimous_of_lem : (es rs : ℕ → Option Offer) (o : Offer) → (block_rules H g).supports es rs o ≡ true → unanimous_of g es rs o ≡ true
  unanimous_of_lem es rs o e = (and_split (unanimous_of g es rs o) _ e).0

  pub compared : (es rs : ℕ → Option Offer) (o : Offer) → (block_rules H g).supports es rs o ≡ true → digests_of H g (regained_of g es rs o) ≡ o.entry.digests
  compared es rs o e = same_true (digests_of H g (regained_of g es rs o)) o.entry.digests (and_split (unanimous_of g es rs o) _ e).1
