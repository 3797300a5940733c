-- The outcome of decoding what is kept is that of decoding all.
use Rattle.decode.proofs.Enough.{all}
use Rattle.decode.proofs.answers.decode_kept.Goals as goal

pub returns : goal.returns
returns c = all _ _ _ _ _ c.decode.ensures
