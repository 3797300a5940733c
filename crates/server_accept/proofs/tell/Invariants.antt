use Prim.Native.Nat.{◌+◌, ◌-◌}
use mathlib.Core.Path.{◌≡◌}
use lib.ListN.{length}
use Rattle.frame.specs.Messages.{entry}
use Rattle.frame.specs.Outbox.{outbox, sent, Room}
use Rattle.server_rules.specs.Steps.{tell_from}
use Rattle.server_accept.proofs.tell.Given as goal

abbrev pub invariant-loop-c : goal.invariant-loop-c
invariant-loop-c l =
    (sent (outbox l.out l.to l.q) (tell_from l.readers l.x (entry l.digests l.block) l.c (9 - l.c)) ≡ sent (outbox l.initial.out l.initial.to l.initial.q) (tell_from l.readers l.x (entry l.digests l.block) 1 8))
    × Room l.q (9 - l.c) (22 + (length l.digests + length l.block)) (length l.out) (length l.to)
    × (length l.out ≡ length l.initial.out)
    × (length l.to ≡ length l.initial.to)
