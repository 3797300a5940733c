-- After i turns blocks 1 to i are stored. Assumes nothing.
use mathlib.Core.Path.{◌≡◌, refl, ap, ◌∙◌}
use Prim.Native.Nat.{ℕ, ◌*◌, ◌+◌}
use lib.ListN.{length}
use lib.Seq.{sets}
use Rattle.area.specs.Area.{joined}
use Rattle.blocks.specs.Code.{block_length, block_of, encoded}
use Rattle.blocks.proofs.Stripes.{place_fits, joined_turn, length_block_of, block_small, product_small}
use native.Mathlib.Omega.{arith}
use Rattle.blocks.proofs.encoder.encode_blocks.Goals as goal

pub loop-i-init : goal.loop-i-init
unfolding joined
loop-i-init c = refl

pub overflow_mul-i : goal.overflow_mul-i
overflow_mul-i c =
    let s = block_small (length c.args.v.now) c.args.k c.requires.0 in
    record { fits = omega (arith, product_small c.loop-i.i c.block_length-b.result (omega arith) (omega arith)) }

pub encode_block-requires : goal.encode_block-requires
encode_block-requires c =
    let e = ap (λ x. c.loop-i.i * x) c.block_length-b.ensures in
    let f = place_fits _ _ _ _ _ refl c.loop-i-test.true c.requires.4 in
    (c.requires.0, c.requires.1, c.requires.3, omega (arith, e, f))

pub loop-i-preserved : goal.loop-i-preserved
loop-i-preserved c =
    let p = c.encode_block in
    let B : ℕ = block_length (length c.args.v.now) c.args.k in
    p.ensures ∙ ap (λ x. sets c.loop-i.out (c.loop-i.i * x) (block_of c.args.k c.args.v.now (c.loop-i.i + 1))) c.block_length-b.ensures
    ∙ joined_turn (block_of c.args.k c.args.v.now) B c.loop-i.i c.args.out.now c.loop-i.out (length_block_of c.args.k c.args.v.now) c.loop-i.invariant

pub returns : goal.returns
unfolding encoded
returns c =
    let e : c.loop-i.i ≡ c.args.n = omega arith in
    c.loop-i.invariant ∙ ap (λ m. sets c.args.out.now 0 (joined (block_of c.args.k c.args.v.now) 1 m)) e
