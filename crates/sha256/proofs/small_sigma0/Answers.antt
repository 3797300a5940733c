-- By the definition. Assumes nothing.
use Rattle.std.proofs.Common.{bit_xor, ◌/◌}
use mathlib.Core.Path.{ap, ap₂}
use Rattle.sha256.specs.Words.{rotr, sigma0}
use Rattle.sha256.proofs.small_sigma0.Goals as goal

pub returns : goal.returns
unfolding sigma0 rotr
returns c = ap (λ y. bit_xor y (c.args.x / 8)) (ap₂ bit_xor c.rotate_right.ensures c.rotate_right-2.ensures)
