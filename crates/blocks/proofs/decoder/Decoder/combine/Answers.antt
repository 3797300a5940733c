-- After i turns the sum of the first i rows, each times its block's byte, is the polynomial with these values, and 0 at the other points. Assumes nothing.
use mathlib.Core.Path.{ap, ◌∙◌}
use Prim.Native.Nat.{ℕ, ◌+◌, ◌*◌}
use lib.ListN.{length, length-replicate}
use Rattle.blocks.proofs.Stripes.{product_small}
use Rattle.blocks.proofs.Values.{index_below, index_small, row_length}
use Rattle.blocks.proofs.Linear.{basis_start, basis_end, row_room, row_is_long, combine_turn}
use native.Mathlib.Omega.{arith}
use Rattle.blocks.proofs.decoder.Decoder.combine.Goals as goal

pub loop-i-init : goal.loop-i-init
loop-i-init c =
    c.requires.3 ∙ basis_start c.args.self.now.numbers.now _ (row_length (length c.args.self.now.numbers.now) c.args.b c.args.w.now c.args.r)

pub overflow_mul-at : goal.overflow_mul-at
overflow_mul-at c =
    record { fits = omega (arith, product_small c.loop-i.i (length c.args.self.now.numbers.now) (omega arith) (omega arith)) }

pub overflow_add-end : goal.overflow_add-end
overflow_add-end c =
    record { fits = omega (arith, product_small c.loop-i.i (length c.args.self.now.numbers.now) (omega arith) (omega arith)) }

pub slice_bounds-add_scaled-end : goal.slice_bounds-add_scaled-end
slice_bounds-add_scaled-end c =
    omega (arith, row_room c.loop-i.i (length c.args.self.now.numbers.now) _ c.loop-i-test.true c.args.self.now.basis.room)

pub overflow_mul-i : goal.overflow_mul-i
overflow_mul-i c =
    record { fits = omega (arith, product_small c.loop-i.i c.args.b (omega arith) (omega arith)) }

pub overflow_add-i : goal.overflow_add-i
overflow_add-i c =
    record { fits = omega (arith, index_small c.loop-i.i (length c.args.self.now.numbers.now) c.args.r c.args.b c.loop-i-test.true c.requires.1 c.args.self.now.few c.requires.0) }

pub bounds-w-i : goal.bounds-w-i
bounds-w-i c =
    omega (arith, index_below c.loop-i.i (length c.args.self.now.numbers.now) c.args.r c.args.b c.loop-i-test.true c.requires.1)

pub add_scaled-requires : goal.add_scaled-requires
add_scaled-requires c =
    let n = ap length c.requires.3 ∙ length-replicate (length c.args.self.now.numbers.now) 0 in
    omega (arith, n, row_is_long c.args.self.now.numbers.now c.args.self.now.rows c.loop-i.i c.args.self.now.basis c.loop-i-test.true)

pub loop-i-preserved : goal.loop-i-preserved
loop-i-preserved c =
    let i : ℕ = c.loop-i.i in
    let y = c.type_inv.w (i * c.args.b + c.args.r) in
    combine_turn c.args.self.now.numbers.now c.args.self.now.rows c.args.w.now c.loop-i.p _ c.args.b c.args.r i c.args.self.now.basis c.loop-i-test.true (omega (arith, y))
    c.loop-i.invariant c.add_scaled.ensures

pub returns : goal.returns
returns c =
    let n = row_length (length c.args.self.now.numbers.now) c.args.b c.args.w.now c.args.r in
    c.loop-i.invariant ∙ basis_end c.args.self.now.numbers.now _ c.loop-i.i (omega (arith, n))
