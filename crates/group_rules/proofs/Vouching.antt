-- What it means that a time is backed: t + 1 servers reported it or more. Assumes nothing.
use Prim.Native.Nat.{ℕ, ◌+◌, ◌≤◌}
use mathlib.Core.Bool.{true}
use mathlib.Core.Path.{◌≡◌}
use lib.Dec.{leb}
use borrow.Author.Tests.{leb-true, le-leb}
use Rattle.quorum.specs.Quorum.{count, Among}
use Rattle.quorum.proofs.Quorums.{AtLeast, at_least_count, at_least_map}
use Rattle.blocks.specs.declared.Params.{Params}
use Rattle.group_rules.specs.Vouching.{backed}

module _ (g : Params) (rs : ℕ → ℕ) (T : ℕ) where
  pub backed_servers : backed g rs T ≡ true → AtLeast g.n (g.t + 1) (λ j. T ≤ rs j)
  unfolding backed
  backed_servers e = record {
    member = λ j. leb T (rs j);
    many = leb-true (g.t + 1) (count (λ j. leb T (rs j)) g.n) e;
    each = λ j i b. leb-true T (rs j) b;
  }

  pub servers_back : AtLeast g.n (g.t + 1) (λ j. T ≤ rs j) → backed g rs T ≡ true
  unfolding backed
  servers_back s = le-leb _ _ (at_least_count (λ j. leb T (rs j)) (at_least_map (λ j i l. le-leb T (rs j) l) s))
