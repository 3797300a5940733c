use Rattle.client_rules.specs.Tests.{send_room}
use Rattle.frame.specs.Params.{out_room, to_room}
use Prim.Native.Nat.{◌<◌, ◌≤◌}
use Rattle.area.proofs.Tests.{tests}
use Rattle.area.specs.Area.{pick}
use native.Mathlib.Omega.{arith}
use Rattle.client.proofs.tests.send_room.Goals as goal

pub returns-then-out-out_room : goal.returns-then-out-out_room
unfolding send_room pick
returns-then-out-out_room c =
    let a = c.args in
    let o : a.out < out_room a.g a.g.n = omega arith in
    search tests

pub returns-then-to-to_room : goal.returns-then-to-to_room
unfolding send_room pick
returns-then-to-to_room c =
    let a = c.args in
    let o : out_room a.g a.g.n ≤ a.out = omega arith in
    let t : a.to < to_room a.g.n = omega arith in
    search tests

pub returns : goal.returns
unfolding send_room pick
returns c =
    let a = c.args in
    let o : out_room a.g a.g.n ≤ a.out = omega arith in
    let t : to_room a.g.n ≤ a.to = omega arith in
    search tests
