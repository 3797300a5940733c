-- A refusal is returned; else the blocks are stored. Assumes nothing.
use mathlib.Core.Path.{sym, ap, ◌∙◌}
use Rattle.blocks.specs.Calls.{encoding}
use Rattle.blocks.proofs.CallLaws.{encodes, turned_down_lem, carried_out}
use Rattle.std.proofs.lemmas.Result.{err_from_is_err_and}
use Rattle.blocks.specs.Calls.{outcome}
use Rattle.blocks.proofs.Parameters.{handed_on}
use native.Mathlib.Omega.{arith}
use Rattle.blocks.proofs.encode.Goals as goal

pub returns-in_err-encode_test : goal.returns-in_err-encode_test
unfolding encoding
returns-in_err-encode_test c =
    ap (λ t. outcome t c.args.out.now) (handed_on _ _ _ (err_from_is_err_and _ c.from_residual.ensures.1) c.in_err-encode_test.was)
    ∙ turned_down_lem _ _ _ _ _ c.encode_test.ensures c.in_err-encode_test.was

pub encode_blocks-requires : goal.encode_blocks-requires
encode_blocks-requires c =
    let f = encodes _ _ _ (sym c.encode_test.ensures ∙ c.in_ok-encode_test.was) in
    let g = f.within in
    (g.blocks_low, omega arith, g.servers_high, omega arith, f.fits)

pub returns : goal.returns
unfolding encoding
returns c = carried_out _ _ _ _ _ c.encode_test.ensures c.in_ok-encode_test.was c.encode_blocks.ensures
