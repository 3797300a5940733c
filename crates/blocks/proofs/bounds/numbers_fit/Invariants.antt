-- After each turn, what is left of the numbers gives the same answer as all of them. Assumes nothing.
use mathlib.Core.Path.{◌≡◌}
use lib.ListN.{drop}
use Rattle.blocks.specs.Calls.{numbers_fit}
use Rattle.blocks.proofs.bounds.numbers_fit.Given as goal

abbrev pub invariant-loop-i : goal.invariant-loop-i
invariant-loop-i l = numbers_fit l.n l.js ≡ numbers_fit l.n (drop l.i l.js)
