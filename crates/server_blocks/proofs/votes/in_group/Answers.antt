-- The chunks lie one after the other. Assumes nothing.
use Rattle.server_blocks.proofs.Counts.{comparing, flags_at_lem}
use Rattle.server_blocks.proofs.votes.in_group.Goals as goal

pub matching-requires : goal.matching-requires
matching-requires c = comparing _ _ _ c.args.first c.requires.0 c.places-at.ensures c.requires.2

pub returns : goal.returns
returns c =
    let a = c.args in
    flags_at_lem a.g _ _ _ a.area.now a.list.now a.first _ c.at_time-timed.ensures c.places-at.ensures c.matching.ensures
