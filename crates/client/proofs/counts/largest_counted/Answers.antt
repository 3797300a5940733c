-- After j turns r is the largest of the times that count, of servers 1 to j. Assumes nothing.
use mathlib.Core.Path.{refl}
use Rattle.client_rules.specs.State.{largest}
use Rattle.client.proofs.Countings.{largest_turn, largest_end}
use native.Mathlib.Omega.{arith}
use borrow.Author.Rules.{rules}
use Rattle.client.proofs.counts.largest_counted.Goals as goal

pub loop-j-init : goal.loop-j-init
unfolding largest
loop-j-init c = refl

pub loop-j-preserved : goal.loop-j-preserved
loop-j-preserved c = largest_turn _ _ _ _ _ _ _ c.is_counted-counts.ensures _ _ c.loop-j.invariant c.time_if.ensures (search rules)

pub returns : goal.returns
returns c =
    let a = c.args in
    largest_end a.g a.s _ _ (omega arith) (omega arith) c.loop-j.invariant
