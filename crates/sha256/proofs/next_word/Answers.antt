-- By the definition. Assumes nothing.
use Rattle.sha256.specs.Steps.{word_from}
use Rattle.sha256.proofs.next_word.Goals as goal

pub returns : goal.returns
unfolding word_from
returns c = cc
