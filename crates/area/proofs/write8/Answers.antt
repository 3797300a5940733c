-- By the bytes of std. Assumes nothing.
use mathlib.Core.Path.{◌∙◌, ap}
use lib.Seq.{sets}
use Rattle.area.proofs.Numbers.{bytes8_is}
use Rattle.area.proofs.write8.Goals as goal

pub returns : goal.returns
returns c = c.put.ensures ∙ ap (sets c.args.area.now c.args.at) (c.to_be_bytes.ensures ∙ bytes8_is c.args.x)
