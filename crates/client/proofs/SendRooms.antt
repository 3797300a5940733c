-- The room for the frames that a client sends. Assumes nothing.
use Rattle.frame.specs.Refusals.{fine}
use Prim.Native.Nat.{ℕ, ◌*◌, ◌≤◌}
use native.Mathlib.Omega.{arith}
use mathlib.Core.Path.{◌≡◌}
use lib.Dec.{ltb}
use borrow.Author.Tests.{ltb-false}
use Rattle.blocks.specs.declared.Params.{Params}
use Rattle.frame.specs.declared.Refusal.TheVariants as R
use Rattle.frame.specs.Params.{client_frames, out_room, to_room, largest_frame}
use Rattle.frame.specs.Outbox.{first_place, Room}
use Rattle.frame.proofs.Verdicts.{fine_not}
use Rattle.client_rules.specs.Tests.{send_room}

-- what test 10 tells where it is passed
pub room_of_send : (g : Params) (out to : ℕ) → send_room g out to ≡ fine → Room first_place g.n (largest_frame g) out to
unfolding send_room out_room to_room
room_of_send g out to e =
    let a = fine_not (ltb out (out_room g (client_frames g))) R.Room _ e in
    let b = fine_not (ltb to (to_room (client_frames g))) R.Room _ a.1 in
    let o : g.n * largest_frame g ≤ out = ltb-false _ _ a.0 in
    let t : 2 * g.n ≤ to = ltb-false _ _ b.0 in
    record { out_room_lem = omega arith; to_room_lem = omega arith }
