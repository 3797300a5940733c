use borrow.Author.Rules.{rules}
use Rattle.frame.specs.Frames.{kind_of}
use Rattle.frame.proofs.send.block_kind.Goals as goal

pub returns : goal.returns
unfolding kind_of
returns c = search rules
