-- Outcomes of tests: a value is the outcome that a test picks. Assumes nothing.
use mathlib.Core.Path.{◌≡◌, refl}
use mathlib.Core.Bool.{Bool, true, false}
use Rattle.std.proofs.Common.{Ok, Err}
use Rattle.area.specs.Area.{pick}
use Rattle.area.proofs.Tests.{impossible}
pub use Rattle.area.proofs.Tests.{pick_yes, pick_no}

-- both outcomes are equal
pub pick_same : {A : Type 0} (b : Bool) (x : A) → pick b x x ≡ x
unfolding pick
pick_same true x = refl
pick_same false x = refl

-- a test that is its own outcome
pub pick_self : (b : Bool) → pick b true false ≡ b
unfolding pick
pick_self true = refl
pick_self false = refl

-- an error where a test holds, and else a value
module _ {T E : Type 0} (b : Bool) (e : E) (x : T) where
  pub pick_err : {r : E} → Err r ≡ pick b (Err e) (Ok x) → (b ≡ true) × (r ≡ e)
  unfolding pick
  pick_err h = go b h
    where
      go : {r : E} (b : Bool) → Err r ≡ pick b (Err e) (Ok x) → (b ≡ true) × (r ≡ e)
      go true h = (refl, cc h)
      go false h = impossible (cc h)

  pub pick_ok : {v : T} → Ok v ≡ pick b (Err e) (Ok x) → (b ≡ false) × (v ≡ x)
  unfolding pick
  pick_ok h = go b h
    where
      go : {v : T} (b : Bool) → Ok v ≡ pick b (Err e) (Ok x) → (b ≡ false) × (v ≡ x)
      go true h = impossible (cc h)
      go false h = (refl, cc h)
