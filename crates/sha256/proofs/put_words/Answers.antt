-- Four stores of four bytes, one after the other. Assumes nothing.
use Rattle.sha256.proofs.Bytes.{four_words_lem}
use Rattle.sha256.proofs.put_words.Goals as goal

pub returns : goal.returns
returns c =
    four_words_lem _ _ _ _ _ _ _ _ _ _
    c.write4.ensures
    c.write4-2.ensures
    c.write4-3.ensures
    c.write4-4.ensures
