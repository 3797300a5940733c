-- What a chain of tests tells where none of them refused. Assumes nothing.
use Rattle.std.specs.Prelude.{Ok, Err}
use mathlib.Core.Path.{◌≡◌, refl}
use mathlib.Core.Bool.{Bool, true, false}
use Rattle.area.specs.Area.{pick}
use Rattle.area.proofs.Tests.{impossible, pick_not, pick_is}
use Rattle.frame.specs.declared.Header.{Header}
use Rattle.frame.specs.declared.Refusal.{Refusal}
use Rattle.frame.specs.Refusals.{and_then, Verdict, fine}
use Rattle.frame.specs.Frames.{opened_by}

pub bad_fine : (r : Refusal) → Err r ≡ fine → ⊥
bad_fine r e = impossible (cc)

-- a test that turns down where b holds
pub fine_not : (b : Bool) (r : Refusal) (v : Verdict) → pick b (Err r) v ≡ fine → (b ≡ false) × (v ≡ fine)
fine_not b r v e = pick_not b (Err r) v fine (bad_fine r) e

-- a test that turns down where b does not hold
pub fine_is : (b : Bool) (r : Refusal) (v : Verdict) → pick b v (Err r) ≡ fine → (b ≡ true) × (v ≡ fine)
fine_is b r v e = pick_is b v (Err r) fine (bad_fine r) e

pub fine_both : (a b : Verdict) → and_then a b ≡ fine → (a ≡ fine) × (b ≡ fine)
fine_both (Ok _) b e = (refl, e)
fine_both (Err r) b e = absurd (bad_fine r e)

pub fine_opened : (v : Verdict) (h h' : Header) → opened_by v h ≡ Ok h' → (v ≡ fine) × (h ≡ h')
fine_opened (Ok _) h h' e = (refl, cc)
fine_opened (Err r) h h' e = impossible (cc)
