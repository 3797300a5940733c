-- By the tests of the kind. Assumes nothing.
use Rattle.area.proofs.Tests.{tests}
use Rattle.host_facts.specs.Kinds.{carries_time}
use Rattle.host_facts.proofs.frames.carries_time.Goals as goal
use Rattle.host_facts.proofs.frames.carries_time.Goals.{then-kind-eq11-via-then-kind-eq11, then-kind-eq11-via-else-kind-eq11+then-kind-eq13}

pub returns-then-kind-eq11 : goal.returns-then-kind-eq11
unfolding carries_time
returns-then-kind-eq11 c = elim c.then-kind-eq11.branch [
  | then-kind-eq11-via-then-kind-eq11 w ↦ search tests
  | then-kind-eq11-via-else-kind-eq11+then-kind-eq13 w ↦ search tests
]

pub returns-then-kind-ge2 : goal.returns-then-kind-ge2
unfolding carries_time
returns-then-kind-ge2 c = search tests

pub returns-else-kind-ge2 : goal.returns-else-kind-ge2
unfolding carries_time
returns-else-kind-ge2 c = search tests
