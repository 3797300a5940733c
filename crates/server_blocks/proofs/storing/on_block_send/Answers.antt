-- The owner's frame: turned down as the tests say, or counted. Assumes nothing.
use Rattle.std.specs.Prelude.{Ok, Err}
use borrow.Author.Rules.{rules}
use Rattle.area.proofs.Tests.{impossible}
use mathlib.Core.Path.{◌≡◌, ◌∙◌}
use Rattle.frame.specs.Messages.{entry, offer, send, echo}
use Rattle.server_blocks.proofs.Rooms.{offer_room, room_sent}
use Rattle.server_blocks.proofs.BlockSteps.{sent_open, send_verdict_lem, turned_down_lem, let_in, block_echoed}
use Rattle.server_blocks.proofs.storing.on_block_send.Goals as goal

pub send_test-requires : goal.send_test-requires
send_test-requires c = let P = c.requires in (P.0, P.2)

pub returns-in_err-send_test : goal.returns-in_err-send_test
returns-in_err-send_test c =
    let a = c.args in
    let o = offer a.time (entry a.list.now a.block.now) in
    let e : c.from_residual.result ≡ Err c.in_err-send_test.field-0.0 = search rules in
    λ w. record {
      handles = rw e (turned_down_lem a.k a.x _ o send w _ _ (send_verdict_lem a.k a.x _ o c.send_test.ensures) _ c.in_err-send_test.was);
      room = λ m f. impossible (cc (e, f));
    }

pub block_all-place-requires : goal.block_all-place-requires
block_all-place-requires c = let P = c.requires in (P.0.bounded, offer_room _ _ _ _ _ _ P.2 P.1)

pub returns : goal.returns
returns c =
    let P = c.requires in
    let a = c.args in
    let k = a.k in
    let o = offer a.time (entry a.list.now a.block.now) in
    λ w. record {
      handles = let_in k a.x _ o send w _ _ (send_verdict_lem k a.x _ o c.send_test.ensures) _ _ _ _ c.in_ok-send_test.was
          (block_echoed k w _ o a.x _ _ _ (sent_open k a.x _ o.entry c.send_test.ensures c.in_ok-send_test.was) c.block_sent-slot.ensures c.block_all-place.ensures);
      room = λ m f. let p : m.place ≡ c.block_all-place.result = cc in rw p (room_sent k.params _ _ P.1 k.header.client k.header.sequence echo a.time a.list.now a.block.now P.2 _ _ _ c.block_all-place.ensures);
    }
