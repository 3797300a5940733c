-- By the rule of the table. Assumes nothing.
use Rattle.field.specs.Field.{Logs}
use Rattle.field.proofs.log.Goals as goal

pub returns : goal.returns
unfolding Logs
returns c = c.logs.ensures.1 c.args.a c.requires c.ranges.a.fits
