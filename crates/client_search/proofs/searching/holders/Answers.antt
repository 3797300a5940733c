-- The flags under the name of the list in chunk p. Assumes nothing.
use Rattle.client_search.proofs.Searches.{holders_law}
use Rattle.client_search.proofs.searching.holders.Goals as goal

pub returns : goal.returns
returns c = holders_law _ _ _ _ _ _ c.digests_at-list.ensures c.matching-on.ensures
