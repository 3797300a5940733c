use Prim.Native.Nat.{◌+◌, ◌*◌}
use mathlib.Core.Path.{ap}
use Rattle.frame.specs.Params.{largest_frame}
use native.Mathlib.Omega.{arith}
use Rattle.frame.proofs.bounds.largest_frame.Goals as goal

pub returns : goal.returns
unfolding largest_frame
returns c = (ap (λ x. 22 + (32 * c.args.g.n + x)) c.width.ensures.0, omega (arith, c.width.ensures.2, c.requires.servers_high))
