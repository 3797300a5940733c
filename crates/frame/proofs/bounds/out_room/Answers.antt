use native.Mathlib.Nat.{mul-le-mul}
use Prim.Native.Nat.{◌*◌, ◌≤◌}
use mathlib.Core.Path.{ap}
use Rattle.frame.specs.Params.{out_room}
use borrow.Author.Rules.{rules}
use Rattle.frame.proofs.bounds.out_room.Goals as goal

pub largest_frame-requires : goal.largest_frame-requires
largest_frame-requires c = c.requires.0

pub overflow_mul-result : goal.overflow_mul-result
overflow_mul-result c = let z : c.args.m * c.largest_frame.result ≤ 135148 = mul-le-mul c.requires.1 c.largest_frame.ensures.1 in search rules

pub returns : goal.returns
unfolding out_room
returns c = ap (λ x. c.args.m * x) c.largest_frame.ensures.0
