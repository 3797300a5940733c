-- From a test's verdict and what a stage leaves of a slot to what a frame of a write does to it. Assumes nothing.
use Rattle.std.specs.Prelude.{Ok, Err}
use Rattle.frame.specs.Refusals.{Verdict, fine}
use Prim.Native.Nat.{ℕ}
use mathlib.Core.Path.{◌≡◌, ap, sym, ◌∙◌}
use mathlib.Core.List.{List}
use Rattle.frame.specs.declared.Place.{Place}
use Rattle.frame.specs.declared.Refusal.{Refusal}
use Rattle.frame.specs.Outbox.{Outbox, outbox, first_place}
use Rattle.server_rules.specs.declared.Slot.{Slot}
use Rattle.server_rules.specs.Steps.{Counting}
use Rattle.server.specs.Stages.{left, counts, Handled, handled, handled_by}

-- turned down, and all as it was
pub refused_frame : (v u : Verdict) (r : Refusal) (x : Slot) (a out to : List ℕ) (n : Counting) → v ≡ u → v ≡ Err r
    → handled x (Err r) a out to ≡ handled_by u x a n (outbox out to first_place)
unfolding handled_by
refused_frame v u r x a out to n e f = ap (λ (z : Verdict). handled_by z x a n (outbox out to first_place)) (sym f ∙ e)

-- counted
pub counted_frame : (v u : Verdict) (x y : Slot) (a a' out to : List ℕ) (n : Counting) (p : Place) (q : Outbox) → v ≡ u → v ≡ fine
    → left y a' (outbox out to p) ≡ counts n q
    → handled x (Ok (record { slot = y; place = p })) a' out to ≡ handled_by u x a n q
unfolding handled_by counts
counted_frame v u x y a a' out to n p q e f h =
    let z : handled x (Ok (record { slot = y; place = p })) a' out to ≡ handled_by fine x a n q =
    λ i. record { verdict = fine; slot = (h i).slot; area = (h i).area; box = (h i).box } in
    z ∙ ap (λ (w : Verdict). handled_by w x a n q) (sym f ∙ e)
