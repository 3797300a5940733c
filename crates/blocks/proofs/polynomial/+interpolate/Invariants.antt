use Rattle.std.proofs.Common.{length}
use Rattle.blocks.proofs.polynomial.+interpolate.Given as goal

-- proposed from what the function passes where it calls itself
abbrev pub decreases-interpolate : goal.decreases-interpolate
decreases-interpolate l = length l.xs.now
