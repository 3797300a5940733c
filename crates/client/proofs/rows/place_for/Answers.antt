use Rattle.client.proofs.RowLaws.{place_behind, place_smallest, place_nowhere}
use Rattle.client.proofs.rows.place_for.Goals as goal

pub returns-then-r-lt4 : goal.returns-then-r-lt4
returns-then-r-lt4 c = place_behind c.args.r _ c.if-r-lt4.true

pub returns-then-is_older : goal.returns-then-is_older
returns-then-is_older c = place_smallest c.args.r _ _ _ c.if-r-lt4.false c.smallest_of-i.ensures.0 c.is_older.ensures c.if-is_older.true

pub returns : goal.returns
returns c = place_nowhere c.args.r _ _ _ c.if-r-lt4.false c.smallest_of-i.ensures.0 c.is_older.ensures c.if-is_older.false
