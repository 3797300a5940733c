-- The whole outcome, by the laws of Laws.antt. Assumes nothing.
use Rattle.semduoli.proofs.Laws.{code_done}
use Rattle.semduoli.specs.Calls.{encode_call}
use Rattle.semduoli.proofs.coding.semduoli_encode.Goals as goal

pub returns : goal.returns
unfolding encode_call
returns c = code_done _ _ _ _ c.encode.ensures c.code_answer.ensures
