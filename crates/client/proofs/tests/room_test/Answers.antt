use Rattle.client_rules.specs.Tests.{room_test}
use Rattle.area.proofs.Tests.{tests}
use Rattle.area.specs.Area.{pick}
use Rattle.client.proofs.Choices.{room_rest}
use Rattle.client.proofs.tests.room_test.Goals as goal

pub returns-then-area-lt-ROWS_BYTES : goal.returns-then-area-lt-ROWS_BYTES
unfolding room_test pick
returns-then-area-lt-ROWS_BYTES c = search tests

pub returns-then-res-g : goal.returns-then-res-g
unfolding room_test pick
returns-then-res-g c = search tests

pub returns : goal.returns
returns c = room_rest _ _ _ _ _ _ c.if-area-lt-ROWS_BYTES.false c.if-res-g.false c.send_room.ensures
