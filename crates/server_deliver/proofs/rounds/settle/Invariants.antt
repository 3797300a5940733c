-- What is left of the rounds gives what all of them give. Assumes nothing.
use Prim.Native.Nat.{◌-◌}
use mathlib.Core.Path.{◌≡◌}
use lib.ListN.{length}
use Rattle.area.specs.Area.{Bytes}
use Rattle.frame.specs.Outbox.{outbox}
use Rattle.server_deliver.specs.Rounds.{RoundsRoom, freed_in}
use Rattle.server_deliver.proofs.rounds.settle.Given as goal

abbrev pub invariant-loop : goal.invariant-loop
invariant-loop l =
    (freed_in l.g (l.rounds - l.counter) l.state l.area (outbox l.out l.to l.q) ≡ freed_in l.g l.rounds l.initial.state l.initial.area (outbox l.initial.out l.initial.to l.initial.q))
    × RoundsRoom (l.rounds - l.counter) l.g (length l.state) (length l.area) l.q (length l.out) (length l.to)
    × Bytes l.state
