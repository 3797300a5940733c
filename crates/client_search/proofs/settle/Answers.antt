-- Nothing is found, or the read ends. Assumes nothing.
use Rattle.client_search.proofs.Endings.{finishing, settle_none, settle_some}
use Rattle.client_search.proofs.settle.Goals as goal

pub returns-in_default : goal.returns-in_default
returns-in_default c = settle_none _ _ _ _ _ _ _ _ c.search.ensures c.in_default.is

pub finish-requires : goal.finish-requires
finish-requires c =
    finishing _ _ _ _ _ _ c.requires _ _ _ c.in-Some.is c.search.ensures

pub returns : goal.returns
returns c =
    settle_some _ _ _ _ _ _ _ _ c.search.ensures _ _ _ c.in-Some.is c.finish.ensures
