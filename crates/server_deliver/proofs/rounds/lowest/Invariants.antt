use Rattle.server_accept.specs.Telling.{lowest_from}
use Rattle.layout.specs.Servers.{server_in}
use Prim.Native.Nat.{◌-◌}
use mathlib.Core.Path.{◌≡◌}
use Rattle.server_deliver.proofs.rounds.lowest.Given as goal

abbrev pub invariant-loop-c : goal.invariant-loop-c
invariant-loop-c l = lowest_from l.g (server_in l.state) l.c (9 - l.c) ≡ lowest_from l.g (server_in l.state) 1 8
