-- After i turns the sum of the first i rows, each times its block's byte, is the polynomial with these values, and 0 at the other points. Assumes nothing.
use mathlib.Core.Path.{◌≡◌}
use lib.ListN.{length}
use Rattle.blocks.specs.Poly.{through}
use Rattle.blocks.specs.Code.{row}
use Rattle.blocks.proofs.Linear.{first_values}
use Rattle.blocks.proofs.decoder.Decoder.combine.Given as goal

abbrev pub invariant-loop-i : goal.invariant-loop-i
invariant-loop-i l = l.p ≡ through l.self.numbers.now (first_values (row (length l.self.numbers.now) l.b l.w l.r) l.i)
