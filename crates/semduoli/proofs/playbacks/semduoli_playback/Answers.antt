-- The outcome of `play`, its answer as a number. Assumes nothing.
use Rattle.semduoli.proofs.ServerCalls.{playback_done}
use Rattle.semduoli.proofs.playbacks.semduoli_playback.Goals as goal

pub returns : goal.returns
returns c = playback_done _ _ _ _ _ _ _ _ _ _ _ _ _ _ c.play.ensures c.playback_answer.ensures
