-- The parameters' tests, and then two demands. Assumes nothing.
use Prim.Native.Nat.{◌*◌, ◌<◌, ◌≤◌}
use Rattle.blocks.proofs.Stripes.{block_small, product_small}
use mathlib.Core.Path.{sym, ◌∙◌}
use Rattle.blocks.specs.Code.{block_length}
use Rattle.blocks.specs.Calls.{encode_test}
use Rattle.blocks.proofs.Parameters.{bounds, then_refused, then_done, handed_on, differs, equals, lacks, suffices}
use Rattle.std.proofs.lemmas.Result.{err_from_is_err_and}
use native.Mathlib.Omega.{arith}
use Rattle.blocks.proofs.bounds.encode_test.Goals as goal

pub returns-in_err-params_test : goal.returns-in_err-params_test
unfolding encode_test
returns-in_err-params_test c =
    handed_on _ _ _ (err_from_is_err_and _ c.from_residual.ensures.1) c.in_err-params_test.was
    ∙ then_refused _ _ _ _ c.params_test.ensures c.in_err-params_test.was

pub returns-then-len-g : goal.returns-then-len-g
unfolding encode_test
returns-then-len-g c = sym (then_done _ _ _ c.params_test.ensures c.in_ok-params_test.was ∙ differs _ _ _ _ c.if-len-g.true)

pub block_length-requires : goal.block_length-requires
block_length-requires c =
    let g = bounds c.args.g (sym c.params_test.ensures ∙ c.in_ok-params_test.was) in
    (g.blocks_low, omega arith, g.size_high)

pub overflow_mul-g : goal.overflow_mul-g
overflow_mul-g c =
    let g = bounds c.args.g (sym c.params_test.ensures ∙ c.in_ok-params_test.was) in
    let s = block_small c.args.g.size c.args.g.k g.blocks_low in
    record { fits = omega (arith, product_small c.args.g.n c.block_length.result g.servers_high (omega arith)) }

pub returns-then-room-g : goal.returns-then-room-g
unfolding encode_test
returns-then-room-g c =
    let h : c.args.room < c.args.g.n * block_length c.args.g.size c.args.g.k = rw (sym c.block_length.ensures) c.if-room-g.true in
    sym (then_done _ _ _ c.params_test.ensures c.in_ok-params_test.was ∙ equals _ _ _ _ c.if-len-g.false ∙ lacks _ _ _ _ h)

pub returns : goal.returns
unfolding encode_test
returns c =
    let h : c.args.g.n * block_length c.args.g.size c.args.g.k ≤ c.args.room = rw (sym c.block_length.ensures) c.if-room-g.false in
    sym (then_done _ _ _ c.params_test.ensures c.in_ok-params_test.was ∙ equals _ _ _ _ c.if-len-g.false ∙ suffices _ _ _ _ h)
