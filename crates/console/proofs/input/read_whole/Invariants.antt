use Rattle.std.proofs.Common.{◌≤◌, length}
use Rattle.console.proofs.input.read_whole.Given as goal

abbrev pub invariant-loop : goal.invariant-loop
invariant-loop g l = l.count ≤ length l.buf
