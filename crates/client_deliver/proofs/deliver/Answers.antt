-- The tests in the order of their numbers, then the step. Assumes nothing.
use Rattle.client_deliver.proofs.Deliveries.{bounded_of_call, admitted_by, call_refused, not_opened, room_refused, frame_answered}
use Rattle.client_deliver.proofs.deliver.Goals as goal

pub returns-in-Err : goal.returns-in-Err
returns-in-Err c =
    let a = c.args in
    call_refused a.g a.me a.s a.area.now a.value.now a.from a.f.now a.res.now _ _ _ c.call_test-call.ensures _ c.in-Err.is

pub open_frame-opened-requires : goal.open_frame-opened-requires
open_frame-opened-requires c = bounded_of_call c.args.g c.args.me _ _ c.call_test-call.ensures c.in_default.is

pub room_test-room-requires : goal.room_test-room-requires
room_test-room-requires c = bounded_of_call c.args.g c.args.me _ _ c.call_test-call.ensures c.in_default.is

pub returns-in-Err-room : goal.returns-in-Err-room
returns-in-Err-room c =
    let a = c.args in
    room_refused a.g a.me a.s a.area.now a.value.now a.from a.f.now a.res.now _ _ _ c.call_test-call.ensures c.in_default.is _ c.open_frame-opened.ensures _ c.in-Ok.is _ c.room_test-room.ensures _ c.in-Err-room.is

pub step-requires : goal.step-requires
step-requires c =
    let a = c.args in
    admitted_by a.g a.me a.s _ _ _ _ _ _ _ _ _ _ c.call_test-call.ensures c.in_default.is c.open_frame-opened.ensures c.in-Ok.is c.room_test-room.ensures c.in_default-room.is

pub returns-in-Err-opened : goal.returns-in-Err-opened
returns-in-Err-opened c =
    let a = c.args in
    not_opened a.g a.me a.s a.area.now a.value.now a.from a.f.now a.res.now _ _ _ c.call_test-call.ensures c.in_default.is _ c.open_frame-opened.ensures _ c.in-Err-opened.is

pub returns-in_default-room : goal.returns-in_default-room
returns-in_default-room c =
    let a = c.args in
    frame_answered a.g a.me a.s a.area.now a.value.now a.from a.f.now a.res.now _ _ _ c.call_test-call.ensures c.in_default.is _ c.open_frame-opened.ensures _ c.in-Ok.is _ c.room_test-room.ensures _ c.in_default-room.is c.step.ensures
