-- By the answer. Assumes nothing.
use Rattle.playback.proofs.AnswerCases.{played_answer, refused_answer}
use Rattle.playback.proofs.answers.playback_answer.Goals as goal

pub returns-in-Ok : goal.returns-in-Ok
returns-in-Ok c = played_answer _ _ _ c.in-Ok.is c.summary_answer.ensures

pub returns-in-Err : goal.returns-in-Err
returns-in-Err c = refused_answer _ _ _ c.in-Err.is c.number_of.ensures
