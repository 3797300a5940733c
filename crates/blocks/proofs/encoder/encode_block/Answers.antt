-- After r turns the first r bytes of the block are stored. Assumes nothing.
use mathlib.Core.Path.{◌≡◌, refl, ap, ◌∙◌}
use lib.ListN.{length}
use lib.Seq.{sets}
use Rattle.area.specs.Area.{table, table_from}
use Rattle.blocks.specs.Code.{block_length, block_byte, block_of}
use Rattle.blocks.proofs.Stripes.{table_turn}
use native.Mathlib.Omega.{arith}
use Rattle.blocks.proofs.encoder.encode_block.Goals as goal

pub loop-r-init : goal.loop-r-init
unfolding table table_from
loop-r-init c = refl

pub loop-r-preserved : goal.loop-r-preserved
loop-r-preserved c = table_turn _ _ _ _ _ _ c.loop-r.invariant c.stripe_value.ensures

pub returns : goal.returns
unfolding block_of
returns c =
    let e : c.loop-r.r ≡ block_length (length c.args.v.now) c.args.k = omega arith in
    c.loop-r.invariant ∙ ap (λ n. sets c.args.out.now c.args.at (table n (block_byte c.args.k c.args.v.now c.args.j))) e
