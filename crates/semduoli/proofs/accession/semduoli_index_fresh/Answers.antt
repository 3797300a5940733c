-- The whole outcome. Assumes nothing.
use Rattle.area.specs.Area.{pick}
use Rattle.area.proofs.Tests.{tests}
use Rattle.semduoli.specs.Accession.{index_fresh_call}
use Rattle.semduoli.proofs.accession.semduoli_index_fresh.Goals as goal

pub returns-then-index-lt577 : goal.returns-then-index-lt577
unfolding index_fresh_call pick
returns-then-index-lt577 c = search tests

pub returns : goal.returns
unfolding index_fresh_call pick
returns c = search tests
