-- Each part is read at its place. Assumes nothing.
use Rattle.layout.specs.Fields.{stamp_at}
use Rattle.layout.proofs.fields.StampField.get.Goals as goal

pub returns : goal.returns
unfolding stamp_at
returns c = cc
