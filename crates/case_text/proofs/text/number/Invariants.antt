use Rattle.std.proofs.Common.{◌<◌}
use Rattle.case_text.proofs.text.number.Given as goal

abbrev pub invariant-loop-b : goal.invariant-loop-b
invariant-loop-b l = l.x < 100000
