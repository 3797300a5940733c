-- The part from at on is compared as a list. Assumes nothing.
use Prim.Native.Nat.{◌+◌, ◌-◌}
use mathlib.Core.Path.{◌≡◌, ◌∙◌}
use lib.ListN.{length}
use native.Mathlib.Omega.{arith}
use Rattle.area.proofs.equal_at.Goals as goal

pub returns : goal.returns
returns c =
    let at = c.args.at in
    let w = length c.args.d.now in
    let e : at + w - at ≡ w = omega arith in
    c.equal.ensures ∙ rw e
