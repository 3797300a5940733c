-- The whole outcome. Assumes nothing.
use Rattle.area.specs.Area.{pick}
use Rattle.area.proofs.Tests.{tests}
use Rattle.semduoli.specs.Accession.{index_search_call}
use Rattle.semduoli.proofs.IndexCalls.{index_searched}
use borrow.Author.Rules.{rules}
use Rattle.semduoli.proofs.accession.semduoli_index_search.Goals as goal

pub returns-then-index-lt577 : goal.returns-then-index-lt577
unfolding index_search_call pick
returns-then-index-lt577 c = search tests

pub returns : goal.returns
returns c = index_searched _ _ _ _ (search rules) c.search.ensures c.search_answer.ensures
