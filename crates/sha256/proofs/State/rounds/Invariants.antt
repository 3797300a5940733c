-- After j turns the first 4j rounds of x are done. Assumes nothing.
use Rattle.std.proofs.Common.{◌≡◌, ◌*◌}
use Rattle.sha256.specs.Hash.{rounds}
use Rattle.sha256.proofs.State.rounds.Given as goal

abbrev pub invariant-loop-j : goal.invariant-loop-j
invariant-loop-j l = l.x ≡ rounds (l.j * 4) l.w l.initial.x
