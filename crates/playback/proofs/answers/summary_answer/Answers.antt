-- By how the trace closed. Assumes nothing.
use Rattle.playback.proofs.AnswerCases.{whole_summary, malformed_summary, cut_summary}
use Rattle.playback.proofs.answers.summary_answer.Goals as goal

pub returns-in-Whole : goal.returns-in-Whole
returns-in-Whole c = whole_summary _ c.in-Whole.is

pub returns-in-Malformed : goal.returns-in-Malformed
returns-in-Malformed c = malformed_summary _ _ c.in-Malformed.is

pub returns-in-Cut : goal.returns-in-Cut
returns-in-Cut c = cut_summary _ _ c.in-Cut.is
