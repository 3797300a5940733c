-- The byte is 1 or 0. Assumes nothing.
use borrow.Author.Rules.{rules}
use Rattle.area.specs.Area.{pick}
use Rattle.layout.specs.Fields.{flag_byte}
use Rattle.layout.proofs.fields.BoolField.put.Goals as goal

pub returns-clause-puts : goal.returns-clause-puts
unfolding flag_byte pick
returns-clause-puts c = search rules
