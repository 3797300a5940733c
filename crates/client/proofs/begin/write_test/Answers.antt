use Rattle.std.specs.Prelude.{Err}
use borrow.Author.Rules.{rules}
use mathlib.Core.Path.{◌≡◌, ◌∙◌}
use Rattle.frame.proofs.Within.{stop_first, go_second}
use Rattle.client.proofs.Beginnings.{bounded_of_params}
use Rattle.client.proofs.begin.write_test.Goals as goal

pub returns-in_err-params_test : goal.returns-in_err-params_test
returns-in_err-params_test c =
    let e : c.from_residual.result ≡ Err c.in_err-params_test.field-0.0 = search rules in
    e ∙ stop_first _ _ _ _ c.params_test.ensures c.in_err-params_test.was

pub returns-in_err-length_test : goal.returns-in_err-length_test
returns-in_err-length_test c =
    let e : c.from_residual-in_err-length_test.result ≡ Err c.in_err-length_test.field-0.0 = search rules in
    e ∙ go_second _ _ _ _ c.params_test.ensures c.in_ok-params_test.was (stop_first _ _ _ _ c.length_test.ensures c.in_err-length_test.was)

pub send_room-requires : goal.send_room-requires
send_room-requires c = bounded_of_params _ _ _ c.params_test.ensures c.in_ok-params_test.was

pub returns-in_err-send_room : goal.returns-in_err-send_room
returns-in_err-send_room c =
    let e : c.from_residual-in_err-send_room.result ≡ Err c.in_err-send_room.field-0.0 = search rules in
    e ∙ go_second _ _ _ _ c.params_test.ensures c.in_ok-params_test.was
    (go_second _ _ _ _ c.length_test.ensures c.in_ok-length_test.was (stop_first _ _ _ _ c.send_room.ensures c.in_err-send_room.was))

pub returns : goal.returns
returns c =
    go_second _ _ _ _ c.params_test.ensures c.in_ok-params_test.was
    (go_second _ _ _ _ c.length_test.ensures c.in_ok-length_test.was (go_second _ _ _ _ c.send_room.ensures c.in_ok-send_room.was c.ready_test.ensures))
