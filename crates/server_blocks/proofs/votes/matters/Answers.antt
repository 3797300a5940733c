-- The tests together are the definition. Assumes nothing.
use Rattle.server_blocks.proofs.Counts.{quota_small, matters_by_lem}
use native.Mathlib.Omega.{arith}
use Rattle.server_blocks.proofs.votes.matters.Goals as goal

pub overflow_add-all : goal.overflow_add-all
overflow_add-all c = let h = quota_small _ c.requires.0 in omega (arith, h, c.quota.ensures, c.requires.0.faults_high, c.requires.0.servers_high)

pub returns : goal.returns
returns c =
    let a = c.args in
    matters_by_lem a.g a.went a.complete a.e a.r c.quota.result c.enough-some.result c.both-ready.result c.both-done.result _
    c.enough-some.ensures c.quota.ensures c.both-ready.ensures c.both-done.ensures c.either.ensures
