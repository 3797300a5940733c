-- The step of one kind: refused as the tests say, or its whole outcome. Assumes nothing.
use Rattle.frame.specs.Refusals.{fine}
use Rattle.std.specs.Prelude.{Err}
use mathlib.Core.Bool.{not}
use Prim.Native.Nat.{◌+◌, ◌*◌}
use Rattle.server.proofs.Answers.{refused_is, step_is, only_sent}
use Rattle.server.proofs.Sending.{stamp_room}
use Rattle.server_rules.specs.Tests.{message_test, sender_right, order_test}
use Rattle.frame.proofs.Within.{stop_not, go_on}
use Rattle.frame.specs.declared.Refusal.TheVariants as R
use Rattle.frame.specs.declared.Party.TheVariants as P
use Rattle.frame.specs.Messages.{message, sending, stamp_is}
use Rattle.frame.specs.Outbox.{outbox, sent, first_place}
use Rattle.server_rules.specs.declared.Scope.{Scope}
use Rattle.server.proofs.Scopes.{as_it_was}
use mathlib.Core.List.{◌∷◌, []}
use mathlib.Core.Path.{refl, ap, ◌∙◌}
use native.Mathlib.Omega.{arith}
use Rattle.server.proofs.asking.on_get_stamp.Goals as goal

pub returns-then-not-from_owner : goal.returns-then-not-from_owner
unfolding message_test sender_right order_test
returns-then-not-from_owner c =
    let a = c.args in
    λ w e z. refused_is (Err R.Sender) _ R.Sender w a.h.client z _ _ _ (stop_not _ _ R.Sender fine c.from_owner.ensures (ap not c.if-not-from_owner.true)) refl

pub send_stamp-place-requires : goal.send_stamp-place-requires
send_stamp-place-requires c =
    stamp_room c.args.g _ (9 * c.args.g.n + 136) _ _ (omega arith) c.requires.1

pub returns : goal.returns
unfolding message_test sender_right order_test
returns c =
    let a = c.args in
    λ w e z. step_is fine _ w z z _ _ _ _ _ a.h.client a.s c.send_stamp-place.result
    (go_on _ _ R.Sender fine fine c.from_owner.ensures (ap not c.if-not-from_owner.false) refl) refl
    (only_sent w _ z _ _ _ (as_it_was w a.h.client a.s e) (c.send_stamp-place.ensures ∙ ap (λ (u : Scope). sent (outbox a.out.now a.to.now first_place) (sending (P.Client a.h.client) (message a.h.client a.h.sequence (stamp_is u.stamp.time)) ∷ [])) e))
