-- No report is left, or those behind the first are spread before it is moved up and its receiver put before it. Assumes nothing.
use Prim.Native.Nat.{◌+◌, ◌*◌, ◌-◌}
use mathlib.Core.Path.{◌≡◌, refl, ap, ap₂, ◌∙◌}
use lib.ListN.{length, drop}
use native.Mathlib.Omega.{arith}
use Rattle.area.proofs.Sets.{length_part}
use Rattle.server_accept.proofs.Replacing.{moved_within}
use Rattle.playback.specs.Stages.{sent_in}
use Rattle.playback.proofs.Moves.{lent_part, spread_asks, moved_lie, spread_end, spread_next}
use Rattle.playback.proofs.reports.+spread.Goals as goal

pub returns-then-left-eq0 : goal.returns-then-left-eq0
returns-then-left-eq0 t c =
    let a = c.args in
    spread_end a.out.now a.to.now a.from a.at a.i a.left c.if-left-eq0.true

pub read2-requires : goal.read2-requires
read2-requires t c =
    let a = c.args in
    let P = c.requires in
    let A = spread_asks a.out.now a.to.now a.from a.at a.i a.left P.0 P.1 P.2 P.3 P.4 c.if-left-eq0.false in
    A.first.starts

pub spread-end-requires : goal.spread-end-requires
spread-end-requires t c =
    let a = c.args in
    let P = c.requires in
    let A = spread_asks a.out.now a.to.now a.from a.at a.i a.left P.0 P.1 P.2 P.3 P.4 c.if-left-eq0.false in
    let x = c.read2.ensures in
    let m : a.left - 1 ≡ A.rest = omega (arith, A.rest_is) in (
      omega (arith, c.decreases, A.rest_is),
      (
        omega (arith, P.0),
        omega (arith, x, A.first.whole),
        moved_lie a.out.now a.to.now a.from a.i _ _ _ x m A.first.lie,
        omega (arith, A.receivers, m),
        omega (arith, A.room, x, ap₂ (λ y w. length (sent_in w (drop (a.from + (2 + y)) a.out.now) (drop (2 * (a.i + 1)) a.to.now))) x m),
      ),
    )

pub copy_within-requires-clause-in_bounds : goal.copy_within-requires-clause-in_bounds
copy_within-requires-clause-in_bounds t c =
    let a = c.args in
    let P = c.requires in
    let A = spread_asks a.out.now a.to.now a.from a.at a.i a.left P.0 P.1 P.2 P.3 P.4 c.if-left-eq0.false in
    omega (arith, A.first.whole, c.read2.ensures, c.spread-end.auto.out)

pub copy_within-requires-clause-dest_in_bounds : goal.copy_within-requires-clause-dest_in_bounds
copy_within-requires-clause-dest_in_bounds t c =
    let a = c.args in
    let P = c.requires in
    let A = spread_asks a.out.now a.to.now a.from a.at a.i a.left P.0 P.1 P.2 P.3 P.4 c.if-left-eq0.false in
    omega (arith, A.room, c.read2.ensures, c.spread-end.auto.out)

pub put-requires : goal.put-requires
put-requires t c =
    let a = c.args in
    let P = c.requires in
    let A = spread_asks a.out.now a.to.now a.from a.at a.i a.left P.0 P.1 P.2 P.3 P.4 c.if-left-eq0.false in
    let l = c.spread-end.auto.out in
    let k = c.copy_within.ensures.len in
    let w = ap length (lent_part a.to.now (2 * a.i) 2) ∙ length_part a.to.now (2 * a.i) 2 A.receiver in
    omega (arith, A.room, l, k, w)

pub returns : goal.returns
returns t c =
    let a = c.args in
    let P = c.requires in
    let A = spread_asks a.out.now a.to.now a.from a.at a.i a.left P.0 P.1 P.2 P.3 P.4 c.if-left-eq0.false in
    let x = c.read2.ensures in
    let l = c.spread-end.auto.out in
    spread_next a.out.now a.to.now a.from a.at a.i a.left A P.0 _ _ _ _ _ _ c.read2.ensures refl
    c.spread-end.ensures.0 c.spread-end.ensures.1 (moved_within _ _ (a.at + 2) a.from _ (2 + c.read2.result) refl (omega (arith, A.first.whole, x, l)) (omega (arith, A.room, x, l)) c.copy_within.ensures.after)
    c.put.ensures
