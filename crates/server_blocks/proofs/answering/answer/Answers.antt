-- The parts of the stage one after the other. Assumes nothing.
use Rattle.server_blocks.proofs.Rooms.{entry_fits, room_behind}
use Rattle.server_blocks.proofs.Voting.{answered}
use Rattle.frame.specs.Messages.{entry, ready}
use Rattle.server_blocks.proofs.answering.answer.Goals as goal

pub ready_if-place-requires : goal.ready_if-place-requires
ready_if-place-requires c = let P = c.requires in (P.0.bounded, P.0.room, P.1)

pub complete_if-requires : goal.complete_if-requires
complete_if-requires c =
    let P = c.requires in
    let F = entry_fits _ _ _ P.0.bounded P.1 in
    (P.0.client_low, P.0.client_high, P.0.whole, F.0, F.1)

pub returns : goal.returns
returns c =
    let P = c.requires in
    let a = c.args in
    let k = a.k in record {
      leaves = answered k a.area.now _ a.x _ a.d c.both-test.result (entry a.list.now a.block.now) _ _ c.both-test.ensures c.complete_if.ensures c.block_marks-slot.ensures c.ready_if-place.ensures;
      room = room_behind k.params _ _ P.0.room k.header.client k.header.sequence ready a.d.time a.list.now a.block.now P.1 _ _ _ a.d.ready c.ready_if-place.ensures;
    }
