-- Each return, by the tests. Assumes nothing.
use Rattle.area.specs.Area.{pick}
use Rattle.area.proofs.Tests.{tests}
use Rattle.host_facts.specs.Traces.{nobody_answer}
use Rattle.host_facts.proofs.traces.nobody_answer.Goals as goal

pub returns-then-len-gt-LONGEST : goal.returns-then-len-gt-LONGEST
unfolding nobody_answer pick
returns-then-len-gt-LONGEST c = search tests

pub returns-then-room-len : goal.returns-then-room-len
unfolding nobody_answer pick
returns-then-room-len c = search tests

pub returns : goal.returns
unfolding nobody_answer pick
returns c = search tests
