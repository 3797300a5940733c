use Rattle.std.specs.Io.{ReadsAtMost}
use Rattle.console.proofs.input.read_piece.Given as goal

abbrev pub invariant-loop : goal.invariant-loop
invariant-loop g l = ReadsAtMost l.outcome l.buf
