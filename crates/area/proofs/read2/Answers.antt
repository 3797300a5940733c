-- By the number of std. Assumes nothing.
use mathlib.Core.Path.{◌∙◌}
use Rattle.area.proofs.Numbers.{be2_is}
use Rattle.area.proofs.read2.Goals as goal

pub returns : goal.returns
returns c = c.from_be_bytes.ensures ∙ be2_is _ _
