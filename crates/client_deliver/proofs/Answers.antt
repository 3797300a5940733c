-- From a test's verdict and a step to the outcome of a frame. Assumes nothing.
use Rattle.std.specs.Prelude.{Err}
use Rattle.frame.specs.Refusals.{Verdict, fine}
use Prim.Native.Nat.{ℕ}
use mathlib.Core.Path.{◌≡◌, refl, ap, sym, ◌∙◌}
use mathlib.Core.Bool.{Bool, true, false, ◌&&◌}
use mathlib.Core.List.{List}
use lib.Dec.{ltb}
use Rattle.area.specs.Area.{pick}
use Rattle.frame.specs.declared.Refusal.{Refusal}
use Rattle.client_rules.specs.declared.Client.{Client}
use Rattle.client_rules.specs.declared.Answer.TheVariants as Y
use Rattle.client_rules.specs.Tests.{awaited}
use Rattle.client_rules.specs.Steps.{Effect}
use Rattle.client_rules.specs.Delivery.{Outcome, outcome}
use Rattle.client.specs.Stages.{stepped, answered}

module _ (v u : Verdict) (s : Client) (a : List ℕ) (x : Effect) (l out to : List ℕ) (e : v ≡ u) where
  -- turned down
  pub refused_is : (r : Refusal) → v ≡ Err r → outcome (record { answer = Y.Refused r; client = s }) a l out to ≡ answered u s a x l out to
  unfolding answered
  refused_is r f = ap (λ (z : Verdict). answered z s a x l out to) (sym f ∙ e)

  -- a step
  pub step_is : (o : Outcome) → v ≡ fine → o ≡ stepped x l out to → o ≡ answered u s a x l out to
  unfolding answered
  step_is o f h = h ∙ ap (λ (z : Verdict). answered z s a x l out to) (sym f ∙ e)

-- the verdict on a stamp or an ack, of whose phase b is the test's value
pub verdict_in : (v w : Verdict) (t b phase x : Bool) → v ≡ pick t (awaited (b && x)) w → b ≡ phase → v ≡ pick t (awaited (phase && x)) w
verdict_in v w t b phase x e p = e ∙ ap (λ z. pick t (awaited (z && x)) w) p

-- the verdict on a report of time U, which names any client
pub report_in : (v w : Verdict) (t : Bool) (m U T : ℕ) → v ≡ pick t (awaited (ltb m U)) w → U ≡ T → v ≡ pick (t && true) (awaited (ltb m T)) w
report_in v w t m U T e p = e ∙ (λ i. pick (same t i) (awaited (ltb m (p i))) w)
  where
    same : (b : Bool) → b ≡ (b && true)
    same true = refl
    same false = refl
