-- Two stores of four words each fill the 32 bytes. Assumes nothing.
use Rattle.sha256.proofs.Bytes.{eight_words}
use Rattle.sha256.proofs.State.concatenate.Goals as goal

pub returns : goal.returns
returns c = eight_words _ _ _ c.put_words.ensures c.put_words-2.ensures
