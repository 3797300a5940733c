-- The outcome of `resume`, its answer as a number. Assumes nothing.
use Rattle.semduoli.proofs.ServerCalls.{resume_done}
use Rattle.semduoli.proofs.playbacks.semduoli_server_resume.Goals as goal

pub returns : goal.returns
returns c = resume_done _ _ _ _ _ _ _ _ _ _ _ _ _ _ c.resume.ensures c.playback_answer.ensures
