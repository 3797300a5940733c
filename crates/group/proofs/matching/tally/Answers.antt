-- The chain counts the marks behind place 0. Assumes nothing.
use mathlib.Core.Path.{◌≡◌, ◌∙◌}
use mathlib.Core.Bool.{Bool, false}
use native.Mathlib.Omega.{arith}
use borrow.Author.Rules.{rules}
use lib.ListN.{take, drop}
use Rattle.std.specs.List.{count_by}
use Rattle.quorum.proofs.Counting.{count_le}
use Rattle.group.specs.Entries.{marked}
use Rattle.group.proofs.Counted.{counted_from_one}
use Rattle.group.proofs.matching.tally.Goals as goal

pub returns : goal.returns
unfolding marked
returns c =
    let e : c.count.result ≡ count_by (λ (x : Bool). x) (take c.args.n (drop 1 c.args.on)) = search rules in
    let k = counted_from_one (λ (x : Bool). x) false c.args.on c.args.n (omega (arith, c.requires)) in
    let l = count_le (marked c.args.on) c.args.n in
    (e ∙ k, rw (e ∙ k) l)
