use borrow.Author.Rules.{rules}
use Rattle.frame.specs.Frames.{kind_of}
use Rattle.frame.proofs.send.ask_kind.Goals as goal

pub returns : goal.returns
unfolding kind_of
returns c = search rules

pub returns-2 : goal.returns-2
unfolding kind_of
returns-2 c = search rules

pub returns-3 : goal.returns-3
unfolding kind_of
returns-3 c = search rules
