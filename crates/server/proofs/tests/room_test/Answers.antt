use Rattle.frame.specs.Params.{width, out_room}
use Prim.Native.Nat.{◌<◌, ◌≤◌, ◌+◌, ◌*◌}
use Rattle.server_rules.specs.Tests.{room_test}
use Rattle.frame.specs.Params.{to_room}
use Rattle.area.proofs.Tests.{tests}
use Rattle.area.specs.Area.{pick}
use native.Mathlib.Omega.{arith}
use Rattle.server.proofs.tests.room_test.Goals as goal

pub returns-then-area-lt-AREA_BYTES : goal.returns-then-area-lt-AREA_BYTES
unfolding room_test pick
returns-then-area-lt-AREA_BYTES c = search tests

pub returns-then-initial-width : goal.returns-then-initial-width
unfolding room_test pick
returns-then-initial-width c =
    let a = c.args in
    let h : 97344 ≤ a.area = omega arith in
    let i : a.initial < width a.g = omega arith in
    search tests

pub returns-then-out-out_room : goal.returns-then-out-out_room
unfolding room_test pick
returns-then-out-out_room c =
    let a = c.args in
    let h : 97344 ≤ a.area = omega arith in
    let i : width a.g ≤ a.initial = omega arith in
    let o : a.out < out_room a.g (9 * a.g.n + 136) = omega arith in
    search tests

pub returns-then-to-to_room : goal.returns-then-to-to_room
unfolding room_test pick
returns-then-to-to_room c =
    let a = c.args in
    let h : 97344 ≤ a.area = omega arith in
    let i : width a.g ≤ a.initial = omega arith in
    let o : out_room a.g (9 * a.g.n + 136) ≤ a.out = omega arith in
    let t : a.to < to_room (9 * a.g.n + 136) = omega arith in
    search tests

pub returns : goal.returns
unfolding room_test pick
returns c =
    let a = c.args in
    let h : 97344 ≤ a.area = omega arith in
    let i : width a.g ≤ a.initial = omega arith in
    let o : out_room a.g (9 * a.g.n + 136) ≤ a.out = omega arith in
    let t : to_room (9 * a.g.n + 136) ≤ a.to = omega arith in
    search tests
