-- By the definition. Assumes nothing.
use Rattle.std.proofs.Common.{bit_xor}
use mathlib.Core.Path.{ap₂}
use Rattle.sha256.specs.Words.{rotr, big_sigma0}
use Rattle.sha256.proofs.big_sigma0.Goals as goal

pub returns : goal.returns
unfolding big_sigma0 rotr
returns c = ap₂ bit_xor (ap₂ bit_xor c.rotate_right.ensures c.rotate_right-2.ensures) c.rotate_right-3.ensures
