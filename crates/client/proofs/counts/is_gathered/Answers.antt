-- After j turns r counts the stamps of servers 1 to j that count. Assumes nothing.
use mathlib.Core.Path.{refl, ◌∙◌}
use Rattle.quorum.specs.Quorum.{count}
use Rattle.client.proofs.Countings.{bit_of, swap, counted_turn, gathered_end}
use native.Mathlib.Omega.{arith}
use Rattle.client.proofs.counts.is_gathered.Goals as goal

pub loop-j-init : goal.loop-j-init
unfolding count
loop-j-init c = (refl, omega arith)

pub loop-j-preserved : goal.loop-j-preserved
loop-j-preserved c =
    let i = c.loop-j.invariant in
    let b = bit_of _ _ c.from-r.ensures in
    let t = counted_turn _ _ _ _ _ _ _ c.is_counted-counts.ensures _ i.0 b.0 in
    (swap _ _ ∙ t, omega (arith, b.1, i.1))

pub returns : goal.returns
returns c =
    let i = c.loop-j.invariant in
    let a = c.args in
    gathered_end a.g a.s _ _ (omega arith) (omega arith) i.0
