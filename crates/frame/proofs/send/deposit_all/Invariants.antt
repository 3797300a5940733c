use Prim.Native.Nat.{◌≤◌, ◌-◌, ◌+◌, ◌*◌}
use mathlib.Core.Path.{◌≡◌}
use mathlib.Core.List.{◌++◌}
use lib.ListN.{length}
use Rattle.frame.specs.Frames.{frame_of}
use Rattle.frame.specs.Outbox.{outbox, wrote_to}
use Rattle.frame.proofs.send.deposit_all.Given as goal

abbrev pub invariant-loop-j : goal.invariant-loop-j
invariant-loop-j l =
    (l.j ≤ l.n)
    × (outbox l.out l.to l.q ≡ wrote_to l.class (outbox l.initial.out l.initial.to l.initial.q) (frame_of l.h.kind l.h.client l.h.sequence (l.b.lead.now ++ (l.b.digests.now ++ l.b.block.now))) l.j)
    × (l.q.at ≡ l.initial.q.at + l.j * (9 + (length l.b.lead.now + (length l.b.digests.now + length l.b.block.now))))
    × (l.q.count ≡ l.initial.q.count + l.j)
    × (length l.out ≡ length l.initial.out)
    × (length l.to ≡ length l.initial.to)

abbrev pub decreases-loop-j : goal.decreases-loop-j
decreases-loop-j l = l.n - l.j
