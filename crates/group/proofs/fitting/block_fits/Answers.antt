use Rattle.group.proofs.DigestLaws.{fits_by}
use Rattle.sha256.specs.Hash.{digest_of}
use Rattle.group.proofs.fitting.block_fits.Goals as goal

pub returns : goal.returns
returns c = fits_by digest_of c.args.digests.now c.args.block.now c.digest-own.result c.args.j c.equal.result c.digest-own.ensures c.equal.ensures
