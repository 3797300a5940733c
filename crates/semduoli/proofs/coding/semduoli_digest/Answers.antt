-- The whole outcome, by the laws of Laws.antt. Assumes nothing.
use Rattle.area.specs.Area.{pick}
use Rattle.area.proofs.Tests.{tests}
use Rattle.semduoli.proofs.Laws.{digest_done}
use Rattle.semduoli.specs.Calls.{digest_call}
use Rattle.semduoli.proofs.coding.semduoli_digest.Goals as goal

pub returns-then-message-gt256 : goal.returns-then-message-gt256
unfolding digest_call pick
returns-then-message-gt256 c = search tests

pub returns-then-out-lt32 : goal.returns-then-out-lt32
unfolding digest_call pick
returns-then-out-lt32 c = search tests

pub returns : goal.returns
returns c = digest_done _ _ _ _ c.if-message-gt256.false c.if-out-lt32.false c.digest.ensures c.put.ensures
