-- The readies if there are q, else the echoes. Assumes nothing.
use Rattle.server_blocks.proofs.Comparison.{chose_readies, chose_echoes}
use Rattle.server_blocks.proofs.comparing.chosen_group.Goals as goal

pub returns-then-quota-v : goal.returns-then-quota-v
returns-then-quota-v c = chose_readies _ _ _ _ _ c.quota.ensures c.if-quota-v.true c.places-at.ensures

pub returns : goal.returns
returns c = chose_echoes _ _ _ _ _ c.quota.ensures c.if-quota-v.false c.places-at-2.ensures
