-- No readies, or all of them. Assumes nothing.
use Rattle.server_blocks.proofs.Rooms.{offer_room}
use Rattle.server_blocks.proofs.Voting.{not_due, is_due}
use borrow.Author.Tests.{not-true, not-false}
use Rattle.server_blocks.proofs.answering.ready_if.Goals as goal

pub returns-then-not-d : goal.returns-then-not-d
returns-then-not-d c = not_due _ _ _ (not-true _ c.if-not-d.true)

pub block_all-requires : goal.block_all-requires
block_all-requires c = let P = c.requires in (P.0, offer_room _ _ _ _ _ _ P.2 P.1)

pub returns : goal.returns
returns c = is_due _ _ _ _ (not-false _ c.if-not-d.false) c.block_all.ensures
