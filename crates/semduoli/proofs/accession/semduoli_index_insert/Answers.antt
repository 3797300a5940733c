-- The whole outcome. Assumes nothing.
use Rattle.area.specs.Area.{pick}
use Rattle.area.proofs.Tests.{tests}
use Rattle.semduoli.specs.Accession.{index_insert_call}
use Rattle.semduoli.proofs.IndexCalls.{index_inserted}
use borrow.Author.Rules.{rules}
use Rattle.semduoli.proofs.accession.semduoli_index_insert.Goals as goal

pub returns-then-index-lt577 : goal.returns-then-index-lt577
unfolding index_insert_call pick
returns-then-index-lt577 c = search tests

pub returns : goal.returns
returns c = index_inserted _ _ _ _ _ (search rules) c.insert.ensures c.insertion_answer.ensures
