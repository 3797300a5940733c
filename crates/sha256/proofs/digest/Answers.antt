-- The blocks that are hashed are the padded message. Assumes nothing.
use Rattle.std.proofs.Common.{refl, arith, rules}
use Rattle.sha256.proofs.Padding.{laid_room, laid_taken, digest_law}
use Rattle.sha256.specs.Steps.{zeros}
use Rattle.sha256.proofs.digest.Goals as goal

pub pad-requires : goal.pad-requires
unfolding zeros
pad-requires c = (search rules, refl)

pub slice_bounds-p-end : goal.slice_bounds-p-end
slice_bounds-p-end c = laid_room _ _ c.requires c.pad.ensures

pub slice_bounds-hash-end : goal.slice_bounds-hash-end
slice_bounds-hash-end c = laid_taken _ _ c.requires c.pad.ensures

pub hash-requires : goal.hash-requires
hash-requires c = omega (arith, laid_taken _ _ c.requires c.pad.ensures)

pub returns : goal.returns
returns c = digest_law _ _ _ _ c.requires c.pad.ensures c.hash.ensures c.concatenate.ensures
