use Prim.Native.Nat.{◌*◌}
use Rattle.frame.specs.Chunks.{entry_at}
use mathlib.Core.Path.{refl}
use Rattle.frame.proofs.Writing.{part_at}
use Rattle.frame.proofs.entries.digests_at.Goals as goal

pub returns : goal.returns
unfolding entry_at
returns c = part_at c.args.area.now (576 * c.args.p) (32 * c.args.g.n) _ refl
