-- The parameters' tests, and then five demands. Assumes nothing.
use mathlib.Core.Bool.{not}
use mathlib.Core.Path.{sym, ap, ◌∙◌}
use Prim.Native.Nat.{ℕ, ◌*◌}
use lib.ListN.{length}
use Rattle.blocks.specs.Calls.{decode_test}
use Rattle.blocks.proofs.Parameters.{bounds, then_refused, then_done, handed_on, refuses, passes, differs, equals, lacks, suffices}
use Rattle.blocks.proofs.Stripes.{block_small, product_small}
use Rattle.std.proofs.lemmas.Result.{err_from_is_err_and}
use native.Mathlib.Omega.{arith}
use Rattle.blocks.proofs.bounds.decode_test.Goals as goal

pub returns-in_err-params_test : goal.returns-in_err-params_test
unfolding decode_test
returns-in_err-params_test c =
    handed_on _ _ _ (err_from_is_err_and _ c.from_residual.ensures.1) c.in_err-params_test.was
    ∙ then_refused _ _ _ _ c.params_test.ensures c.in_err-params_test.was

pub returns-then-m-g : goal.returns-then-m-g
unfolding decode_test
returns-then-m-g c = sym (then_done _ _ _ c.params_test.ensures c.in_ok-params_test.was ∙ lacks _ _ _ _ c.if-m-g.true)

pub returns-then-g-m : goal.returns-then-g-m
unfolding decode_test
returns-then-g-m c =
    sym (then_done _ _ _ c.params_test.ensures c.in_ok-params_test.was ∙ suffices _ _ _ _ c.if-m-g.false ∙ lacks _ _ _ _ c.if-g-m.true)

pub block_length-requires : goal.block_length-requires
block_length-requires c =
    let g = bounds c.args.g (sym c.params_test.ensures ∙ c.in_ok-params_test.was) in
    (g.blocks_low, omega arith, g.size_high)

pub overflow_mul-m : goal.overflow_mul-m
overflow_mul-m c =
    let g = bounds c.args.g (sym c.params_test.ensures ∙ c.in_ok-params_test.was) in
    let s = block_small c.args.g.size c.args.g.k g.blocks_low in
    record { fits = omega (arith, product_small (length c.args.numbers.now) c.block_length.result (omega arith) (omega arith)) }

pub returns-then-len-m : goal.returns-then-len-m
unfolding decode_test
returns-then-len-m c =
    let m : ℕ = length c.args.numbers.now in
    let same = ap (λ (x : ℕ). m * x) c.block_length.ensures in
    sym (then_done _ _ _ c.params_test.ensures c.in_ok-params_test.was ∙ suffices _ _ _ _ c.if-m-g.false
    ∙ suffices _ _ _ _ c.if-g-m.false ∙ differs _ _ _ _ (λ e. c.if-len-m.true (e ∙ sym same)))

pub returns-then-not-numbers_fit : goal.returns-then-not-numbers_fit
unfolding decode_test
returns-then-not-numbers_fit c =
    let m : ℕ = length c.args.numbers.now in
    let same = ap (λ (x : ℕ). m * x) c.block_length.ensures in
    sym (then_done _ _ _ c.params_test.ensures c.in_ok-params_test.was ∙ suffices _ _ _ _ c.if-m-g.false
    ∙ suffices _ _ _ _ c.if-g-m.false ∙ equals _ _ _ _ (c.if-len-m.false ∙ same) ∙ refuses _ _ _ _ c.numbers_fit.ensures (ap not c.if-not-numbers_fit.true))

pub returns-then-room-g : goal.returns-then-room-g
unfolding decode_test
returns-then-room-g c =
    let m : ℕ = length c.args.numbers.now in
    let same = ap (λ (x : ℕ). m * x) c.block_length.ensures in
    sym (then_done _ _ _ c.params_test.ensures c.in_ok-params_test.was ∙ suffices _ _ _ _ c.if-m-g.false
    ∙ suffices _ _ _ _ c.if-g-m.false ∙ equals _ _ _ _ (c.if-len-m.false ∙ same) ∙ passes _ _ _ _ c.numbers_fit.ensures (ap not c.if-not-numbers_fit.false)
    ∙ lacks _ _ _ _ c.if-room-g.true)

pub returns : goal.returns
unfolding decode_test
returns c =
    let m : ℕ = length c.args.numbers.now in
    let same = ap (λ (x : ℕ). m * x) c.block_length.ensures in
    sym (then_done _ _ _ c.params_test.ensures c.in_ok-params_test.was ∙ suffices _ _ _ _ c.if-m-g.false
    ∙ suffices _ _ _ _ c.if-g-m.false ∙ equals _ _ _ _ (c.if-len-m.false ∙ same) ∙ passes _ _ _ _ c.numbers_fit.ensures (ap not c.if-not-numbers_fit.false)
    ∙ suffices _ _ _ _ c.if-room-g.false)
