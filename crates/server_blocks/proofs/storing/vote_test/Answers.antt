-- The tests of a server's echo or ready, one after the other. Assumes nothing.
use Rattle.std.specs.Prelude.{Err}
use borrow.Author.Rules.{rules}
use mathlib.Core.Path.{◌≡◌, ◌∙◌}
use Rattle.frame.specs.Messages.{entry}
use Rattle.frame.proofs.Sizes.{small}
use Rattle.server.proofs.Answers.{voted}
use Rattle.server_blocks.proofs.BlockSteps.{vote_bad, vote_fine}
use native.Mathlib.Omega.{arith}
use Rattle.server_blocks.proofs.storing.vote_test.Goals as goal

pub returns-in_err-server_test : goal.returns-in_err-server_test
returns-in_err-server_test c =
    let a = c.args in
    let e : c.from_residual.result ≡ Err c.in_err-server_test.field-0.0 = search rules in
    e ∙ vote_bad a.k a.x _ (entry a.list.now a.block.now) _ c.flags_of-on.ensures c.server_test.ensures _ c.in_err-server_test.was

pub fit_test-requires : goal.fit_test-requires
fit_test-requires c =
    let k = c.args.k in
    let W = voted k.params k.from c.args.x k.header.sequence _ _ c.server_test.ensures c.in_ok-server_test.was in
    let P = c.requires in
    let M = small k.params P.0 in
    (omega (arith, W.low, c.number_in-j.ensures), omega (arith, W.high, c.number_in-j.ensures, P.1.list_is), omega (arith, M.block_room, P.1.block_is_lem))

pub returns : goal.returns
returns c =
    let a = c.args in
    vote_fine a.k a.x _ (entry a.list.now a.block.now) _ c.flags_of-on.ensures c.server_test.ensures _ _ c.in_ok-server_test.was c.fit_test.ensures c.number_in-j.ensures
