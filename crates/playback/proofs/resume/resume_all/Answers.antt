-- A turn hands one entry in; the entries that are left lead to the final areas. Assumes nothing.
use Prim.Native.Nat.{◌-◌}
use mathlib.Core.Path.{refl, ◌∙◌}
use Rattle.playback.proofs.Resumes.{going_end, going_within, going_next}
use native.Mathlib.Omega.{arith}
use Rattle.playback.proofs.resume.resume_all.Goals as goal

pub loop-found-init : goal.loop-found-init
loop-found-init c = let a = c.args in (record { low = omega arith; is = refl }, refl, refl, refl, refl)

pub slice_bounds-rest-count : goal.slice_bounds-rest-count
slice_bounds-rest-count c = let t = c.loop-found.invariant.0 in omega (arith, t.low)

pub slice_bounds-rest-start : goal.slice_bounds-rest-start
slice_bounds-rest-start c = let t = c.loop-found.invariant.0 in omega (arith, t.low)

pub shape_of-area-in_default : goal.shape_of-area-in_default
shape_of-area-in_default c = c.loop-found.invariant.1

pub shape_of-state-in_default : goal.shape_of-state-in_default
shape_of-state-in_default c = c.loop-found.invariant.2

pub shape_of-out-in_default : goal.shape_of-out-in_default
shape_of-out-in_default c = c.loop-found.invariant.3

pub shape_of-to-in_default : goal.shape_of-to-in_default
shape_of-to-in_default c = c.loop-found.invariant.4

pub returns-in_default : goal.returns-in_default
returns-in_default c = going_end _ _ _ _ _ _ c.loop-found.at c.loop-found.invariant.0 _ c.read_entry.ensures _ c.in_default.is

pub slice_bounds-deliver-count : goal.slice_bounds-deliver-count
slice_bounds-deliver-count c =
    let w = going_within _ _ _ _ _ _ c.loop-found.at c.loop-found.invariant.0 _ c.read_entry.ensures _ c.in-Ok.is in
    omega (arith, w.0)

pub slice_bounds-deliver-start : goal.slice_bounds-deliver-start
slice_bounds-deliver-start c =
    let w = going_within _ _ _ _ _ _ c.loop-found.at c.loop-found.invariant.0 _ c.read_entry.ensures _ c.in-Ok.is in
    omega (arith, w.0)

pub slice_bounds-deliver-end : goal.slice_bounds-deliver-end
slice_bounds-deliver-end c = (going_within _ _ _ _ _ _ c.loop-found.at c.loop-found.invariant.0 _ c.read_entry.ensures _ c.in-Ok.is).2

pub overflow_add-at : goal.overflow_add-at
overflow_add-at c =
    let w = going_within _ _ _ _ _ _ c.loop-found.at c.loop-found.invariant.0 _ c.read_entry.ensures _ c.in-Ok.is in
    record { fits = omega (arith, w.1, c.loop-found.invariant.0.low, c.well_formed.1.1.0.0) }

pub loop-found-smaller : goal.loop-found-smaller
loop-found-smaller c =
    let w = going_within _ _ _ _ _ _ c.loop-found.at c.loop-found.invariant.0 _ c.read_entry.ensures _ c.in-Ok.is in
    omega (arith, w.0, w.1, c.loop-found.invariant.0.low)

pub loop-found-preserved : goal.loop-found-preserved
loop-found-preserved c =
    let l = c.loop-found in
    let d = c.deliver in (
      going_next _ _ _ _ _ _ l.at l.invariant.0 _ c.read_entry.ensures _ c.in-Ok.is _ _ _ _ _ d.ensures,
      d.auto.area ∙ l.invariant.1,
      d.auto.state ∙ l.invariant.2,
      d.auto.out ∙ l.invariant.3,
      d.auto.to ∙ l.invariant.4,
    )
