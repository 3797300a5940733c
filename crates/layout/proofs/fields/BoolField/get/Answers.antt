-- A flag is set exactly if its byte is not 0. Assumes nothing.
use mathlib.Core.Path.{refl}
use Rattle.layout.specs.Fields.{flag_in, flag_at}
use Rattle.layout.proofs.fields.BoolField.get.Goals as goal

pub returns : goal.returns
unfolding flag_in flag_at
returns c = refl
