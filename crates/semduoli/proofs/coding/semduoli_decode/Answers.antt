-- The whole outcome, by the laws of Laws.antt. Assumes nothing.
use Rattle.semduoli.proofs.Laws.{code_done}
use Rattle.semduoli.specs.Calls.{decode_call}
use Rattle.semduoli.proofs.coding.semduoli_decode.Goals as goal

pub returns : goal.returns
unfolding decode_call
returns c = code_done _ _ _ _ c.decode.ensures c.code_answer.ensures
