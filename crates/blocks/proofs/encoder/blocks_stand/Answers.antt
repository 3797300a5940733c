-- After each turn, what is left of the blocks gives the same answer as all of them. Assumes nothing.
use mathlib.Core.Bool.{not}
use Prim.Native.Nat.{ℕ, ◌*◌, ◌+◌}
use native.Mathlib.Nat.{zero-mul}
use mathlib.Core.Path.{◌≡◌, refl, sym, ap, ◌∙◌}
use mathlib.Core.List.{List}
use lib.ListN.{length, drop}
use native.Mathlib.Omega.{arith}
use Rattle.area.specs.Area.{part, same}
use Rattle.blocks.specs.Code.{block_length, blocks_of}
use Rattle.blocks.proofs.Stripes.{next_place, block_small, product_small}
use Rattle.blocks.proofs.Standing.{place_in, stand_turn, stand_out, stand_end}
use Rattle.blocks.proofs.encoder.blocks_stand.Goals as goal

at_place : (w d : List ℕ) (i m : ℕ) {b c : ℕ} → b ≡ c → same (part w (i * b) m) d ≡ same (part w (i * c) m) d
at_place w d i m e = ap (λ x. same (part w (i * x) m) d) e

pub loop-i-init : goal.loop-i-init
loop-i-init c = rw zero-mul

pub overflow_mul-i : goal.overflow_mul-i
overflow_mul-i c =
    let s = block_small (length c.args.v.now) c.args.k c.requires.0 in
    record { fits = omega (arith, product_small c.loop-i.i c.block_length-b.result (omega arith) (omega arith)) }

pub block_stands-requires : goal.block_stands-requires
block_stands-requires c =
    let e = ap (λ x. c.loop-i.i * x) c.block_length-b.ensures in
    let f = place_in c.args.js.now c.args.w.now c.loop-i.i _ _ c.loop-i-test.true refl c.requires.4 in
    (c.requires.0, c.requires.1, c.requires.2, omega (arith, e, f))

pub returns-then-not-block_stands : goal.returns-then-not-block_stands
returns-then-not-block_stands c =
    sym (c.loop-i.invariant
    ∙ stand_out c.args.k c.args.v.now _ _ _ _ c.loop-i-test.true refl c.requires.4 _ (c.block_stands.ensures ∙ at_place _ _ c.loop-i.i _ c.block_length-b.ensures) (ap not c.if-not-block_stands.true))

pub loop-i-preserved : goal.loop-i-preserved
loop-i-preserved c =
    let b : ℕ = block_length (length c.args.v.now) c.args.k in
    c.loop-i.invariant
    ∙ stand_turn c.args.k c.args.v.now _ _ _ _ c.loop-i-test.true refl c.requires.4 _ (c.block_stands.ensures ∙ at_place _ _ c.loop-i.i _ c.block_length-b.ensures) (ap not c.if-not-block_stands.false)
    ∙ ap (λ x. same (blocks_of c.args.k c.args.v.now (drop (c.loop-i.i + 1) c.args.js.now)) (drop x c.args.w.now)) (next_place _ c.loop-i.i b refl)

pub returns : goal.returns
returns c = sym (c.loop-i.invariant ∙ stand_end _ _ _ _ _ _ _ c.loop-i-test.false (omega arith) refl c.requires.4)
