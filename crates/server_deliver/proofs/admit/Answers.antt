-- Parameters out of bounds, a frame that does not open, and short areas are turned down in this order. Assumes nothing.
use Rattle.server_deliver.proofs.Openings.{out_of_bounds, not_opened, no_record, no_room, has_room}
use Rattle.frame.proofs.Within.{admitted_of}
use mathlib.Core.Path.{◌≡◌, sym, ◌∙◌}
use Rattle.std.specs.Prelude.{Err}
use borrow.Author.Rules.{rules}
use Rattle.server_deliver.proofs.admit.Goals as goal

pub returns-in_err-params_test : goal.returns-in_err-params_test
returns-in_err-params_test c =
    let a = c.args in
    let e : c.from_residual.result ≡ Err c.in_err-params_test.field-0.0 = search rules in
    e ∙ out_of_bounds a.g a.me a.f.now a.state a.area a.initial a.out a.to _ c.params_test.ensures _ c.in_err-params_test.was

pub open_frame-opened-requires : goal.open_frame-opened-requires
open_frame-opened-requires c = (admitted_of _ _ _ (sym c.params_test.ensures ∙ c.in_ok-params_test.was)).bounded

pub returns-in_default : goal.returns-in_default
returns-in_default c =
    let a = c.args in
    not_opened a.g a.me a.f.now a.state a.area a.initial a.out a.to _ c.params_test.ensures c.in_ok-params_test.was _
    c.open_frame-opened.ensures _ c.in_default.is

pub returns-then-state-lt-SERVER_SIZE : goal.returns-then-state-lt-SERVER_SIZE
returns-then-state-lt-SERVER_SIZE c =
    let a = c.args in
    no_record a.g a.me a.f.now a.state a.area a.initial a.out a.to _ c.params_test.ensures c.in_ok-params_test.was _
    c.open_frame-opened.ensures _ c.in-Ok.is c.if-state-lt-SERVER_SIZE.true

pub room_test-requires : goal.room_test-requires
room_test-requires c = (admitted_of _ _ _ (sym c.params_test.ensures ∙ c.in_ok-params_test.was)).bounded

pub returns-in_err-room_test : goal.returns-in_err-room_test
returns-in_err-room_test c =
    let a = c.args in
    let e : c.from_residual-in_err-room_test.result ≡ Err c.in_err-room_test.field-0.0 = search rules in
    e ∙ no_room a.g a.me a.f.now a.state a.area a.initial a.out a.to _ c.params_test.ensures c.in_ok-params_test.was _
    c.open_frame-opened.ensures _ c.in-Ok.is _ c.room_test.ensures c.if-state-lt-SERVER_SIZE.false _ c.in_err-room_test.was

pub returns : goal.returns
returns c =
    let a = c.args in
    has_room a.g a.me a.f.now a.state a.area a.initial a.out a.to _ c.params_test.ensures c.in_ok-params_test.was _
    c.open_frame-opened.ensures _ c.in-Ok.is _ c.room_test.ensures c.if-state-lt-SERVER_SIZE.false c.in_ok-room_test.was
