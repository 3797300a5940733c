-- After r turns the first r stripes are stored. Assumes nothing.
use mathlib.Core.Path.{◌≡◌, sym, ap, ap₂, ◌∙◌}
use mathlib.Core.List.{List}
use Prim.Native.Nat.{ℕ, ◌-◌, ◌*◌}
use lib.ListN.{length, take}
use lib.Seq.{sets}
use Rattle.area.specs.Area.{joined}
use Rattle.area.proofs.Sets.{sets_whole}
use Rattle.blocks.specs.Poly.{through}
use Rattle.blocks.specs.Code.{block_length, row, value_of}
use Rattle.blocks.proofs.Stripes.{starts, block_small}
use Rattle.blocks.proofs.Values.{value_start, stripe_turn, through_row_length, stripes, length_value_of}
use native.Mathlib.Omega.{arith}
use Rattle.blocks.proofs.decoder.decode_into.Goals as goal

pub loop-r-init : goal.loop-r-init
loop-r-init c =
    let L : ℕ = length c.args.value.now in
    value_start (stripes c.args.js.now L c.args.w.now) L c.args.value.now

pub put_stripe-requires : goal.put_stripe-requires
put_stripe-requires c =
    let k : ℕ = length c.args.js.now in
    let L : ℕ = length c.args.value.now in
    let e : length c.new-decoder.result.numbers.now ≡ k = ap length c.new-decoder.ensures in
    let s = starts L k c.loop-r.r c.requires.0 (omega arith) in
    let small = block_small L k c.requires.0 in
    rw e (omega arith, c.loop-r-test.true, c.requires.3 ∙ ap (λ (x : ℕ). k * x) (sym c.block_length-b.ensures), omega arith, omega arith)

pub loop-r-preserved : goal.loop-r-preserved
unfolding stripes
loop-r-preserved c =
    let p = c.put_stripe in
    let js : List ℕ = c.args.js.now in
    let w : List ℕ = c.args.w.now in
    let k : ℕ = length js in
    let L : ℕ = length c.args.value.now in
    let r : ℕ = c.loop-r.r in
    let s = starts L k r c.requires.0 (omega arith) in
    p.ensures
    ∙ ap (λ (d : List ℕ). sets c.loop-r.value (r * length d) (take (length c.loop-r.value - r * length d) (through d (row (length d) c.block_length-b.result w r)))) c.new-decoder.ensures
    ∙ ap₂ (λ (n b : ℕ). sets c.loop-r.value (r * k) (take (n - r * k) (through js (row k b w r)))) c.loop-r.auto.value c.block_length-b.ensures
    ∙ stripe_turn (stripes js L w) k L r c.args.value.now c.loop-r.value (through_row_length js w (block_length L k)) (omega arith) c.loop-r.invariant

pub returns : goal.returns
unfolding value_of stripes
returns c =
    let js : List ℕ = c.args.js.now in
    let w : List ℕ = c.args.w.now in
    let L : ℕ = length c.args.value.now in
    let e : c.loop-r.r ≡ block_length L (length js) = omega arith in
    c.loop-r.invariant ∙ ap (λ m. sets c.args.value.now 0 (take L (joined (stripes js L w) 0 m))) e
    ∙ sets_whole c.args.value.now (value_of js L w) (length_value_of js w L c.requires.0)
