use Rattle.frame.specs.Params.{to_room}
use borrow.Author.Rules.{rules}
use Rattle.frame.proofs.bounds.to_room.Goals as goal

pub returns : goal.returns
unfolding to_room
returns c = search rules
