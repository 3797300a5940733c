-- By the number of std. Assumes nothing.
use mathlib.Core.Path.{◌∙◌}
use Rattle.area.proofs.Numbers.{be4_is}
use Rattle.area.proofs.read4.Goals as goal

pub returns : goal.returns
returns c = c.from_be_bytes.ensures ∙ be4_is _ _
