-- The places before i have other stamps. Assumes nothing.
use Prim.Native.Nat.{◌-◌}
use mathlib.Core.Path.{◌≡◌}
use Rattle.client_search.specs.AtStamp.{first_from}
use Rattle.client_search.proofs.at_stamp.first_place.Given as goal

abbrev pub invariant-loop-i : goal.invariant-loop-i
invariant-loop-i l = first_from l.stamps 0 l.m l.x ≡ first_from l.stamps l.i (l.m - l.i) l.x
