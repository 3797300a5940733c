-- What is read, and the answer to it. Assumes nothing.
use Rattle.history_text.proofs.Readings.{answer_text}
use Rattle.history_text.proofs.text.judge_text.Goals as goal

pub returns : goal.returns
returns c = answer_text _ _ _ c.read_text.ensures c.judge_reading.ensures
