-- The chain counts the reports behind place 0. Assumes nothing.
use mathlib.Core.Path.{◌≡◌, ◌∙◌, ap}
use Prim.Native.Nat.{◌+◌}
use native.Mathlib.Omega.{arith}
use borrow.Author.Rules.{rules}
use lib.Dec.{leb}
use lib.ListN.{take, drop}
use Rattle.std.specs.List.{count_by}
use Rattle.group_rules.specs.Vouching.{backed}
use Rattle.group.proofs.Counted.{counted_from_one}
use Rattle.group.proofs.vouching.is_backed.Goals as goal

pub returns : goal.returns
unfolding backed
returns c =
    let e : c.count.result ≡ count_by (leb c.args.time) (take c.args.g.n (drop 1 c.args.reports)) = search rules in
    let k = counted_from_one (leb c.args.time) 0 c.args.reports c.args.g.n (omega (arith, c.requires.servers_high)) in
    ap (leb (c.args.g.t + 1)) (e ∙ k)
