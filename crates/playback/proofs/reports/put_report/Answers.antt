-- The frames move to their places, and number and count are stored before them. Assumes nothing.
use Prim.Native.Nat.{ℕ, ◌+◌}
use mathlib.Core.Path.{◌∙◌}
use lib.ListN.{length-set, drop}
use Rattle.server_rules.specs.Delivery.{reply_response}
use Rattle.playback.proofs.Moves.{sent_asks, report_put}
use native.Mathlib.Omega.{arith}
use Rattle.playback.proofs.reports.put_report.Goals as goal

pub spread-end-requires : goal.spread-end-requires
spread-end-requires c =
    let a = c.args in
    let P = c.requires in
    sent_asks (reply_response a.a) a.out.now a.to.now a.at _ c.reply_count-m.ensures P.0 P.1 P.2 P.4

pub bounds-out-at : goal.bounds-out-at
bounds-out-at c = omega (arith, c.spread-end.auto.out, c.requires.0)

pub write2-requires : goal.write2-requires
write2-requires c = rw length-set (omega (arith, c.spread-end.auto.out, c.requires.0))

pub shape_of-out : goal.shape_of-out
shape_of-out c = c.write2.auto.area ∙ length-set {A = ℕ} c.spread-end.new.out _ _ ∙ c.spread-end.auto.out

pub returns : goal.returns
returns c =
    let a = c.args in
    report_put (reply_response a.a) (drop (a.at + 3) a.out.now) a.to.now a.out.now a.at _ _ _ _ _
    c.reply_number.ensures c.reply_count-m.ensures c.spread-end.ensures.0 c.spread-end.ensures.1 c.write2.ensures
