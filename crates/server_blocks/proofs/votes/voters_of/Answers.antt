-- Client c's echoes lie in the chunks after its completed entry, its readies after those. Assumes nothing.
use Rattle.server_blocks.proofs.Counts.{voters_are}
use Rattle.server_blocks.proofs.votes.voters_of.Goals as goal

pub returns : goal.returns
returns c =
    let a = c.args in
    voters_are a.g a.area.now a.c a.b a.time a.list.now _ _ _ _ c.in_group-echoes.ensures c.in_group-readies.ensures c.tally-echoed.ensures.0 c.tally-readied.ensures.0
