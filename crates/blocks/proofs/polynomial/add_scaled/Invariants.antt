-- After i turns the first i coefficients are those of the sum. Assumes nothing.
use mathlib.Core.Path.{◌≡◌}
use Rattle.blocks.specs.Poly.{plus, scale}
use Rattle.area.proofs.Fills.{mixed}
use Rattle.blocks.proofs.polynomial.add_scaled.Given as goal

abbrev pub invariant-loop-i : goal.invariant-loop-i
invariant-loop-i l = l.p ≡ mixed (plus l.initial.p (scale l.c l.m)) l.initial.p l.i
