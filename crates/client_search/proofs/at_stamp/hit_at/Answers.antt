-- By the tests in their order. Assumes nothing.
use Rattle.client_search.proofs.Firsts.{hit_zero, hit_none, hit_some}
use Rattle.client_search.proofs.at_stamp.hit_at.Goals as goal

pub returns-then-j-lt1 : goal.returns-then-j-lt1
returns-then-j-lt1 c = hit_zero _ _ _ c.if-j-lt1.true

pub returns-then-m-i : goal.returns-then-m-i
returns-then-m-i c =
    hit_none _ _ _ c.if-j-lt1.false _ _ c.used_places-m.ensures.0 c.first_place-i.ensures.0 c.if-m-i.true

pub returns : goal.returns
returns c =
    hit_some _ _ _ c.if-j-lt1.false _ _ c.used_places-m.ensures.0 c.first_place-i.ensures.0 c.if-m-i.false
