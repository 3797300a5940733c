-- The stripe is decoded into a local array, from which as many bytes are stored as the value has left. Assumes nothing.
use mathlib.Core.Path.{sym, ap, ◌∙◌}
use Prim.Native.Nat.{ℕ, ◌-◌, ◌*◌}
use lib.ListN.{length, take}
use lib.Seq.{sets, length-take-le, length_front}
use Rattle.blocks.proofs.Values.{zeros, part_read, part_length}
use Rattle.blocks.proofs.Linear.{zeros_front}
use native.Mathlib.Omega.{arith}
use Rattle.blocks.proofs.decoder.Decoder.put_stripe.Goals as goal

pub slice_bounds-combine-end : goal.slice_bounds-combine-end
slice_bounds-combine-end c = sym (length-take-le (length c.args.self.now.numbers.now) (zeros 8) c.args.self.now.few)

pub combine-requires : goal.combine-requires
combine-requires c =
    (c.requires.0, c.requires.1, c.requires.2, zeros_front (length c.args.self.now.numbers.now) 8 c.args.self.now.few)

pub slice_bounds-p-end-2 : goal.slice_bounds-p-end-2
slice_bounds-p-end-2 c =
    let g = c.combine in
    omega (arith, length_front (zeros 8) g.new.p (length c.args.self.now.numbers.now) g.auto.p, c.min-n.ensures)

pub slice_bounds-put-end : goal.slice_bounds-put-end
slice_bounds-put-end c =
    let g = c.combine in
    sym (part_length (zeros 8) g.new.p (length c.args.self.now.numbers.now) _ _ c.args.self.now.few g.auto.p c.min-n.ensures)

pub put-requires : goal.put-requires
put-requires c =
    let g = c.combine in
    omega (arith, part_length (zeros 8) g.new.p (length c.args.self.now.numbers.now) _ _ c.args.self.now.few g.auto.p c.min-n.ensures, c.min-n.ensures)

pub returns : goal.returns
returns c =
    let g = c.combine in
    let k : ℕ = length c.args.self.now.numbers.now in
    let left : ℕ = length c.args.value.now - c.args.r * k in
    c.put.ensures
    ∙ ap (sets c.args.value.now (c.args.r * k))
    (part_read (zeros 8) g.new.p k left _ c.args.self.now.few g.auto.p c.min-n.ensures ∙ ap (take left) g.ensures)
