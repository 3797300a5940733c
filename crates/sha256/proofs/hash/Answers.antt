-- After i turns s is the hash value of the first i blocks. Assumes nothing.
use Rattle.std.proofs.Common.{◌≡◌, ◌∙◌, add-one, arith}
use Rattle.sha256.specs.Hash.{hashed}
use Rattle.sha256.proofs.hash.Goals as goal

pub loop-i-init : goal.loop-i-init
unfolding hashed
loop-i-init c = c.initial-s.ensures

pub loop-i-preserved : goal.loop-i-preserved
unfolding hashed
loop-i-preserved c = rw add-one (cc)

pub returns : goal.returns
returns c =
    let e : c.loop-i.i ≡ c.args.n = omega arith in
    c.loop-i.invariant ∙ rw e
