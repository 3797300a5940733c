-- Too few rows have the stamp, or the count with the list decides. Assumes nothing.
use Rattle.client_search.proofs.Searches.{comparing, chunk_room, agreed_few, agreed_law}
use Rattle.client_search.proofs.searching.is_agreed.Goals as goal

pub returns-then-tally-g : goal.returns-then-tally-g
returns-then-tally-g c =
    agreed_few _ _ _ _ _ c.requires.0 _ c.hits-h.ensures _ c.tally.ensures.0 c.if-tally-g.true

pub holders-k-requires : goal.holders-k-requires
holders-k-requires c =
    let p = c.requires in
    (comparing _ _ _ _ p.0 _ c.hits-h.ensures, chunk_room _ _ p.1 p.0.whole)

pub returns : goal.returns
returns c =
    agreed_law _ _ _ _ _ c.requires.0 _ c.hits-h.ensures _ _ c.holders-k.ensures c.tally-2.ensures.0
