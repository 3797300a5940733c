-- By how the trace closes. Assumes nothing.
use mathlib.Core.Path.{refl}
use Rattle.area.specs.Area.{pick}
use Rattle.playback.specs.Playback.{ending_of}
use Rattle.playback.proofs.Outcomes.{ending_case}
use Rattle.playback.proofs.ending_of.Goals as goal

pub returns-in-Whole : goal.returns-in-Whole
unfolding ending_of pick
returns-in-Whole c = ending_case _ _ _ _ c.in-Whole.is refl

pub returns-in-Malformed : goal.returns-in-Malformed
unfolding ending_of pick
returns-in-Malformed c = ending_case _ _ _ _ c.in-Malformed.is refl

pub returns-in-Cut : goal.returns-in-Cut
unfolding ending_of pick
returns-in-Cut c = ending_case _ _ _ _ c.in-Cut.is refl
