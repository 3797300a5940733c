-- By the number of std. Assumes nothing.
use mathlib.Core.Path.{◌∙◌}
use Rattle.area.proofs.Numbers.{be8_is}
use Rattle.area.proofs.read8.Goals as goal

pub returns : goal.returns
returns c = c.from_be_bytes.ensures ∙ be8_is _ _
