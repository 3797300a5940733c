-- Four words one after the other. Assumes nothing.
use Rattle.sha256.proofs.Words.{four_stored}
use Rattle.sha256.proofs.store_four.Goals as goal

pub returns : goal.returns
returns c = four_stored _ _ _ _ _ _ c.store_word.ensures c.store_word-2.ensures c.store_word-3.ensures c.store_word-4.ensures
