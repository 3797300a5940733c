use lib.ListN.{length}
use Prim.Native.Nat.{◌+◌, ◌≤◌}
use Rattle.server.proofs.Present.{from_initial, from_state}
use lib.Seq.{length-take-le}
use mathlib.Core.Path.{sym}
use native.Mathlib.Omega.{arith}
use Rattle.server.proofs.reads.present_block.Goals as goal

pub slice_bounds-result-end : goal.slice_bounds-result-end
slice_bounds-result-end c =
    let l : c.width-w.result ≤ length c.args.initial.now = omega (arith, c.requires.2, c.width-w.ensures.0) in
    sym (length-take-le _ _ l)

pub returns-then-x-eq0 : goal.returns-then-x-eq0
returns-then-x-eq0 c =
    let l : c.width-w.result ≤ length c.args.initial.now = omega (arith, c.requires.2, c.width-w.ensures.0) in
    from_initial c.args.g c.args.x c.args.area.now c.args.initial.now _ c.width-w.ensures.0 c.if-x-eq0.true l

pub returns : goal.returns
returns c =
    let l : 320 + c.width-w.result ≤ length c.args.area.now = omega (arith, c.requires.1, c.width-w.ensures.2) in
    from_state c.args.g c.args.x c.args.area.now c.args.initial.now _ c.width-w.ensures.0 c.if-x-eq0.false l
