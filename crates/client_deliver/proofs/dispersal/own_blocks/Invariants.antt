-- After j turns servers 1 to j were sent their blocks. Assumes nothing.
use mathlib.Core.Path.{◌≡◌}
use Rattle.frame.specs.Messages.{to_from}
use Rattle.frame.specs.Outbox.{outbox, sent}
use Rattle.client_deliver.proofs.OwnBlocks.{own}
use Rattle.client_deliver.proofs.dispersal.own_blocks.Given as goal

abbrev pub invariant-loop-j : goal.invariant-loop-j
invariant-loop-j l =
    outbox l.out l.to l.r ≡ sent (outbox l.initial.out l.initial.to l.initial.r) (to_from (own l.d.params l.value l.d.write) 1 l.j)
