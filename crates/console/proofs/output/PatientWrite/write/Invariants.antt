use Rattle.std.specs.Io.{WritesAtMost}
use Rattle.console.proofs.output.PatientWrite.write.Given as goal

abbrev pub invariant-loop : goal.invariant-loop
invariant-loop g l = WritesAtMost l.outcome l.buf
