-- After i turns s is the hash value of the first i blocks. Assumes nothing.
use Rattle.std.proofs.Common.{◌≡◌}
use Rattle.sha256.specs.Hash.{hashed}
use Rattle.sha256.proofs.hash.Given as goal

abbrev pub invariant-loop-i : goal.invariant-loop-i
invariant-loop-i l = l.s ≡ hashed l.i l.p
