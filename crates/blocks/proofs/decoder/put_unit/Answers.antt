-- The polynomial of a unit vector is built in its row. Assumes nothing.
use mathlib.Core.Path.{◌≡◌, ap, ◌∙◌}
use Prim.Native.Nat.{ℕ, ◌+◌, ◌-◌, ◌*◌}
use lib.ListN.{length}
use lib.Seq.{length-take-le}
use Rattle.area.proofs.Sets.{sets_put, length_part}
use Rattle.blocks.specs.Poly.{through, unit, basis}
use Rattle.blocks.proofs.Values.{zeros}
use Rattle.blocks.proofs.Linear.{unit_front, unit_length}
use native.Mathlib.Omega.{arith}
use Rattle.blocks.proofs.decoder.put_unit.Goals as goal

pub interpolate-requires : goal.interpolate-requires
interpolate-requires c =
    let k : ℕ = length c.args.js.now in (
      ap length (unit_front k 8 c.args.i c.requires.0) ∙ unit_length k c.args.i,
      omega (arith, length_part c.args.table.now (c.args.i * k) (c.args.i * k + k - c.args.i * k) (omega arith)),
      length-take-le (k + 1) (zeros 9) (omega arith),
    )

pub returns : goal.returns
unfolding basis
returns c =
    let g = c.interpolate in
    let k : ℕ = length c.args.js.now in
    let e : g.new.p ≡ through c.args.js.now (unit k c.args.i) = g.ensures.0 ∙ ap (through c.args.js.now) (unit_front k 8 c.args.i c.requires.0) in
    let n = length_part c.args.table.now (c.args.i * k) (c.args.i * k + k - c.args.i * k) (omega arith) in
    let m : length (through c.args.js.now (unit k c.args.i)) ≡ k = omega (arith, n, g.auto.p, ap length e) in
    sets_put _ _ _ _ _ e (omega arith) (omega arith)
