-- By the bytes of std. Assumes nothing.
use mathlib.Core.Path.{◌∙◌, ap}
use lib.Seq.{sets}
use Rattle.area.proofs.Numbers.{bytes4_is}
use Rattle.area.proofs.write4.Goals as goal

pub returns : goal.returns
returns c = c.put.ensures ∙ ap (sets c.args.area.now c.args.at) (c.to_be_bytes.ensures ∙ bytes4_is c.args.x)
