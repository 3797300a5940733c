-- A server's frame: turned down as the tests say, or counted. Assumes nothing.
use Rattle.std.specs.Prelude.{Ok, Err}
use borrow.Author.Rules.{rules}
use Rattle.area.proofs.Tests.{impossible}
use mathlib.Core.Path.{◌≡◌, ap, ◌∙◌}
use Rattle.frame.specs.Messages.{entry, offer}
use Rattle.server_rules.specs.declared.Slot.{Slot}
use Rattle.server_blocks.specs.Stage.{vote_stage}
use Rattle.server_blocks.proofs.Rooms.{entry_fits, whole_after}
use Rattle.server_blocks.proofs.BlockSteps.{vote_open, vote_verdict_lem, turned_down_lem, let_in, block_voted}
use native.Mathlib.Omega.{arith}
use Rattle.server_blocks.proofs.storing.on_block_vote.Goals as goal

pub vote_test-requires : goal.vote_test-requires
vote_test-requires c = let P = c.requires in (P.0.bounded, P.1)

pub returns-in_err-vote_test : goal.returns-in_err-vote_test
returns-in_err-vote_test c =
    let a = c.args in
    let k = a.k in
    let o = offer a.time (entry a.list.now a.block.now) in
    let e : c.from_residual.result ≡ Err c.in_err-vote_test.field-0.0 = search rules in
    record {
      handles = rw e (turned_down_lem k a.x _ o (vote_stage k.header.kind) a.area.now _ _ (vote_verdict_lem k a.x _ o c.vote_test.ensures) _ c.in_err-vote_test.was);
      room = λ m f. impossible (cc (e, f));
    }

pub votes_from-first-requires : goal.votes_from-first-requires
votes_from-first-requires c = let P = c.requires.0 in (P.client_low, P.client_high)

pub put_entry-requires : goal.put_entry-requires
put_entry-requires c =
    let a = c.args in
    let P = c.requires.0 in
    let F = entry_fits _ _ _ P.bounded c.requires.1 in
    let W = vote_open a.k a.x _ (entry a.list.now a.block.now) c.vote_test.ensures c.in_ok-vote_test.was in
    (omega (arith, P.whole, P.bounded.servers_high, W.high, c.number_in-j.ensures, c.votes_from-first.ensures.1), F.0, F.1)

pub count_vote-y-requires : goal.count_vote-y-requires
count_vote-y-requires c =
    let a = c.args in
    let W = vote_open a.k a.x _ (entry a.list.now a.block.now) c.vote_test.ensures c.in_ok-vote_test.was in
    omega (arith, W.high, c.number_in-j.ensures, c.requires.0.bounded.servers_high)

pub voted_block-requires : goal.voted_block-requires
voted_block-requires c =
    let a = c.args in
    let P = c.requires.0 in
    let W = vote_open a.k a.x _ (entry a.list.now a.block.now) c.vote_test.ensures c.in_ok-vote_test.was in (
      record { bounded = P.bounded; client_low = P.client_low; client_high = P.client_high; whole = whole_after _ _ _ _ c.put_entry.ensures P.whole; room = P.room },
      ap (λ (y : Slot). y.sequence) c.count_vote-y.ensures ∙ W.at_open,
      c.requires.1.list_is,
    )

pub returns : goal.returns
returns c =
    let a = c.args in
    let k = a.k in
    let o = offer a.time (entry a.list.now a.block.now) in
    record {
      handles = let_in k a.x _ o (vote_stage k.header.kind) a.area.now _ _ (vote_verdict_lem k a.x _ o c.vote_test.ensures) _ _ _ _ c.in_ok-vote_test.was
          (block_voted k a.area.now _ a.x _ _ _ o _ _ c.number_in-j.ensures c.votes_from-first.ensures.0 c.put_entry.ensures c.count_vote-y.ensures (c.voted_block.ensures.leaves a.block.now));
      room = λ m f. let p : m.place ≡ c.voted_block.result.place = cc in rw p c.voted_block.ensures.room;
    }
