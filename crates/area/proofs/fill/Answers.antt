-- n copies in place of what the slice held. Assumes nothing.
use Prim.Native.Nat.{◌+◌, ◌-◌}
use mathlib.Core.Path.{◌≡◌, ◌∙◌, ap}
use lib.ListN.{length, length-replicate, replicate}
use Rattle.area.specs.Area.{part}
use Rattle.area.proofs.Sets.{sets_put, length_part}
use native.Mathlib.Omega.{arith}
use Rattle.area.proofs.fill.Goals as goal

pub returns : goal.returns
returns c =
    let w = c.args.at + c.args.n - c.args.at in
    let e : length (part c.args.area.now c.args.at w) ≡ c.args.n = omega (arith, length_part c.args.area.now c.args.at w (omega arith)) in
    sets_put _ _ _ _ _ (c.fill.ensures.after (λ y e. e) ∙ ap (λ k. replicate k c.args.b) e) (simp length-replicate (omega arith)) (simp length-replicate c.requires)
