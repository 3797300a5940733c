-- Each turn has one report fewer left. Assumes nothing.
use Rattle.playback.proofs.reports.+spread.Given as goal

abbrev pub decreases-spread : goal.decreases-spread
decreases-spread l = l.left
