-- A turn plays one entry; what is played so far, and then what is left, is the whole playback. Assumes nothing.
use Prim.Native.Nat.{◌+◌, ◌-◌}
use mathlib.Core.Path.{refl, sym, ◌∙◌}
use lib.ListN.{length}
use Rattle.area.proofs.Numbers.{bytes_of}
use Rattle.sha256.specs.Hash.{digest_of}
use Rattle.layout.specs.Servers.{server_in}
use Rattle.playback.proofs.ByteSteps.{step_outcome, step_stored, fresh_outcome, fresh_stored, fresh_again, as_many}
use Rattle.playback.proofs.Turns.{turn_start, turn_end, all_played, within, entry_bytes_lem, step_room, turn_asks, turn_next, constructs}
use native.Mathlib.Omega.{arith}
use borrow.Rule.Slice.PartMut.{same_len_mid}
use Rattle.playback.proofs.player.play_all.Goals as goal

pub loop-found-init : goal.loop-found-init
loop-found-init c =
    let a = c.args in
    let P = c.requires in
    let k = c.fresh in
    let y = c.shared_slice_known-2-1 in
    let z = c.slice_known-7-1 in
    let b = bytes_of a.trace.now (λ i. let f = y.given i in omega arith) in
    let F = fresh_outcome a.g a.me a.value.now a.area.now a.initial.now a.state.now P.1 (constructs digest_of _ _ _ a.trace.now _ _ _ P.0) _ _ _ _ k.ensures in (
      turn_start digest_of a.g a.me a.value.now a.area.now a.initial.now _ _ _ _ F a.trace.now a.out.now P.0 b,
      refl,
      refl,
      refl,
      refl,
      bytes_of k.new.state (λ i. let f = z.given i in omega arith),
      fresh_again a.g a.me a.value.now a.area.now a.initial.now a.state.now P.1 (constructs digest_of _ _ _ a.trace.now _ _ _ P.0) _ _ _ _ k.ensures,
      omega (arith, P.1, k.auto.state),
    )

pub slice_bounds-rest-count : goal.slice_bounds-rest-count
slice_bounds-rest-count c = let t = c.loop-found.invariant.0 in omega (arith, t.low)

pub slice_bounds-rest-start : goal.slice_bounds-rest-start
slice_bounds-rest-start c = let t = c.loop-found.invariant.0 in omega (arith, t.low)

pub shape_of-area-in_default : goal.shape_of-area-in_default
shape_of-area-in_default c = c.loop-found.invariant.2 ∙ c.fresh.auto.area

pub shape_of-state-in_default : goal.shape_of-state-in_default
shape_of-state-in_default c = c.loop-found.invariant.3 ∙ c.fresh.auto.state

pub shape_of-out-in_default : goal.shape_of-out-in_default
shape_of-out-in_default c = c.loop-found.invariant.4

pub returns-in_default : goal.returns-in_default
returns-in_default c =
    let l = c.loop-found in
    let a = c.args in
    let P = c.requires in
    let k = c.fresh in
    let t = constructs digest_of _ _ _ a.trace.now _ _ _ P.0 in
    let E = turn_end _ _ _ _ _ _ _ _ l.area l.out l.at l.used l.invariant.0 _ c.read_entry.ensures _ c.in_default.is in
    all_played digest_of a.g a.me a.value.now a.area.now a.initial.now _ _ _ _
    (fresh_outcome a.g a.me a.value.now a.area.now a.initial.now a.state.now P.1 t _ _ _ _ k.ensures) a.trace.now
    a.state.now _ (as_many _ _)
    (fresh_stored a.g a.me a.value.now a.area.now a.initial.now a.state.now P.1 t _ _ _ _ k.ensures)
    a.out.now (server_in l.state) _ _ _ _ l.invariant.6 E.server E.area E.used_all E.out_all

pub overflow_add-from : goal.overflow_add-from
overflow_add-from c =
    let l = c.loop-found in
    let S = step_room _ _ _ _ _ _ _ _ l.area l.out l.at l.used l.invariant.0 _ c.read_entry.ensures _ c.in-Ok.is l.to l.invariant.1 in
    record { fits = omega (arith, S.1, l.invariant.4, c.well_formed.1.1.1.1.1.1.1.0.0) }

pub slice_bounds-deliver-count : goal.slice_bounds-deliver-count
slice_bounds-deliver-count c =
    let l = c.loop-found in
    let w = within _ _ _ _ _ _ _ _ l.area l.out l.at l.used l.invariant.0 _ c.read_entry.ensures _ c.in-Ok.is in
    omega (arith, w.0)

pub slice_bounds-deliver-start : goal.slice_bounds-deliver-start
slice_bounds-deliver-start c =
    let l = c.loop-found in
    let w = within _ _ _ _ _ _ _ _ l.area l.out l.at l.used l.invariant.0 _ c.read_entry.ensures _ c.in-Ok.is in
    omega (arith, w.0)

pub slice_bounds-deliver-end : goal.slice_bounds-deliver-end
slice_bounds-deliver-end c =
    let l = c.loop-found in
    let w = within _ _ _ _ _ _ _ _ l.area l.out l.at l.used l.invariant.0 _ c.read_entry.ensures _ c.in-Ok.is in
    w.2

pub slice_bounds-deliver-count-in-loop-found : goal.slice_bounds-deliver-count-in-loop-found
slice_bounds-deliver-count-in-loop-found c =
    let l = c.loop-found in
    (step_room _ _ _ _ _ _ _ _ l.area l.out l.at l.used l.invariant.0 _ c.read_entry.ensures _ c.in-Ok.is l.to l.invariant.1).1

pub slice_bounds-deliver-start-in-loop-found : goal.slice_bounds-deliver-start-in-loop-found
slice_bounds-deliver-start-in-loop-found c =
    let l = c.loop-found in
    (step_room _ _ _ _ _ _ _ _ l.area l.out l.at l.used l.invariant.0 _ c.read_entry.ensures _ c.in-Ok.is l.to l.invariant.1).1

pub slice_bounds-deliver-end-in-loop-found-2 : goal.slice_bounds-deliver-end-in-loop-found-2
slice_bounds-deliver-end-in-loop-found-2 c = sym c.loop-found.invariant.1

pub put_report-used-requires : goal.put_report-used-requires
put_report-used-requires c =
    let l = c.loop-found in
    let d = c.deliver-reply in
    let S = step_room _ _ _ _ _ _ _ _ l.area l.out l.at l.used l.invariant.0 _ c.read_entry.ensures _ c.in-Ok.is l.to l.invariant.1 in
    let b = entry_bytes_lem _ _ _ _ _ _ _ _ l.area l.out l.at l.used l.invariant.0 _ c.read_entry.ensures _ c.in-Ok.is in
    let q = step_outcome _ _ _ _ _ _ l.state _ _ l.invariant.7 l.invariant.5 b _ _ _ _ _ d.ensures in
    let A = turn_asks _ _ _ _ _ _ _ _ l.area l.out l.at l.used l.invariant.0 _ c.read_entry.ensures _ c.in-Ok.is _ _ _ _ _ _ S.0 S.1 q in
    (A.head_room, A.lie, A.receivers_in, A.few, A.fits)

pub overflow_add-at : goal.overflow_add-at
overflow_add-at c =
    let l = c.loop-found in
    let w = within _ _ _ _ _ _ _ _ l.area l.out l.at l.used l.invariant.0 _ c.read_entry.ensures _ c.in-Ok.is in
    record { fits = omega (arith, w.1, l.invariant.0.low, c.well_formed.1.1.1.0.0) }

pub loop-found-smaller : goal.loop-found-smaller
loop-found-smaller c =
    let l = c.loop-found in
    let w = within _ _ _ _ _ _ _ _ l.area l.out l.at l.used l.invariant.0 _ c.read_entry.ensures _ c.in-Ok.is in
    omega (arith, w.0, w.1, l.invariant.0.low)

pub loop-found-preserved : goal.loop-found-preserved
loop-found-preserved c =
    let l = c.loop-found in
    let d = c.deliver-reply in
    let p = c.put_report-used in
    let z = c.slice_known-in-loop-found-2-1 in
    let S = step_room _ _ _ _ _ _ _ _ l.area l.out l.at l.used l.invariant.0 _ c.read_entry.ensures _ c.in-Ok.is l.to l.invariant.1 in
    let b = entry_bytes_lem _ _ _ _ _ _ _ _ l.area l.out l.at l.used l.invariant.0 _ c.read_entry.ensures _ c.in-Ok.is in
    let q = step_outcome _ _ _ _ _ _ l.state _ _ l.invariant.7 l.invariant.5 b _ _ _ _ _ d.ensures in (
      turn_next _ _ _ _ _ _ _ _ l.area l.out l.at l.used l.invariant.0 _ c.read_entry.ensures _ c.in-Ok.is _ _ _ _ _ _ S.0 S.1 q
          _ _ p.ensures.0 p.ensures.1,
      d.auto.to ∙ l.invariant.1,
      d.auto.area ∙ l.invariant.2,
      d.auto.state ∙ l.invariant.3,
      p.auto.out ∙ same_len_mid (l.used + 3) (length l.out - (l.used + 3)) l.out d.new.out d.auto.out ∙ l.invariant.4,
      bytes_of d.new.state (λ i. let f = z.given i in omega arith),
      step_stored _ _ _ _ _ _ l.state _ _ l.invariant.7 l.invariant.5 b _ _ _ _ _ d.ensures _ l.invariant.6,
      omega (arith, l.invariant.7, d.auto.state),
    )
