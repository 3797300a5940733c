-- After i turns the first i rows are stored. Assumes nothing.
use Rattle.blocks.proofs.Linear.{Rows}
use Rattle.blocks.proofs.decoder.put_basis.Given as goal

abbrev pub invariant-loop-i : goal.invariant-loop-i
invariant-loop-i l = Rows l.js l.table l.i
