-- The tests of the owner's frame, one after the other. Assumes nothing.
use Rattle.std.specs.Prelude.{Err}
use borrow.Author.Rules.{rules}
use mathlib.Core.Path.{◌≡◌, ◌∙◌}
use Rattle.frame.specs.Messages.{entry}
use Rattle.frame.proofs.Sizes.{small}
use native.Mathlib.Omega.{arith}
use Rattle.server_blocks.proofs.BlockSteps.{send_bad, send_fine}
use Rattle.server_blocks.proofs.storing.send_test.Goals as goal

pub returns-in_err-owner_test : goal.returns-in_err-owner_test
returns-in_err-owner_test c =
    let a = c.args in
    let e : c.from_residual.result ≡ Err c.in_err-owner_test.field-0.0 = search rules in
    e ∙ send_bad a.k a.x _ (entry a.list.now a.block.now) c.owner_test.ensures _ c.in_err-owner_test.was

pub fit_test-requires : goal.fit_test-requires
fit_test-requires c =
    let P = c.requires in
    let M = small c.args.k.params P.0.bounded in
    (P.0.own_low, omega (arith, P.0.own_high, P.1.list_is), omega (arith, M.block_room, P.1.block_is_lem))

pub returns : goal.returns
returns c = let a = c.args in send_fine a.k a.x _ (entry a.list.now a.block.now) c.owner_test.ensures _ c.in_ok-owner_test.was c.fit_test.ensures
