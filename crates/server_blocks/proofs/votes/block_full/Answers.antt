-- The tests together are the definition. Assumes nothing.
use Rattle.server_blocks.proofs.Counts.{quota_small, full_by_lem}
use native.Mathlib.Omega.{arith}
use Rattle.server_blocks.proofs.votes.block_full.Goals as goal

pub overflow_add-all : goal.overflow_add-all
overflow_add-all c = let h = quota_small _ c.requires in omega (arith, h, c.quota.ensures, c.requires.faults_high, c.requires.servers_high)

pub returns : goal.returns
returns c = let a = c.args in full_by_lem a.g a.supported a.r c.quota.result _ c.quota.ensures c.both.ensures
