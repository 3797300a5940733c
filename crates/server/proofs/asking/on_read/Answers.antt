-- The step of one kind: refused as the tests say, or its whole outcome. Assumes nothing.
use Rattle.std.specs.Prelude.{Err}
use Rattle.server.proofs.Answers.{refused_is, step_is, only_sent}
use Rattle.server_rules.specs.Steps.{on_read}
use Rattle.server_rules.specs.Tests.{message_test, sender_right, order_test, from_owner, read_test}
use Rattle.server_rules.specs.State.{with_reader, present_entry}
use Rattle.server_rules.specs.declared.Scope.{Scope}
use Rattle.server.proofs.Scopes.{reader_set}
use Rattle.area.specs.Area.{pick}
use Rattle.frame.specs.declared.Party.TheVariants as P
use Rattle.frame.specs.declared.Refusal.TheVariants as R
use Rattle.frame.specs.Messages.{message, sending, value_is}
use Rattle.frame.specs.Outbox.{outbox, sent, first_place}
use mathlib.Core.Bool.{true}
use mathlib.Core.List.{◌∷◌, []}
use borrow.Author.Rules.{rules}
use mathlib.Core.Path.{◌≡◌, refl, ap, ◌∙◌}
use Rattle.server.proofs.asking.on_read.Goals as goal

pub returns-in_err-ask_test : goal.returns-in_err-ask_test
unfolding message_test sender_right order_test
returns-in_err-ask_test c =
    let a = c.args in
    let r : c.from_residual.result ≡ Err c.in_err-ask_test.field-0.0 = search rules in
    λ w e. rw r (refused_is _ _ _ w a.h.client a.area.now _ _ _ (c.ask_test.ensures ∙ ap (λ (u : Scope). pick (from_owner a.from a.h.client) (read_test u.reader a.h.sequence) (Err R.Sender)) e) c.in_err-ask_test.was)

pub returns : goal.returns
unfolding message_test sender_right order_test on_read
returns c =
    let a = c.args in
    λ w e.
    let presented = ap (λ (u : Scope). sent (outbox a.out.now a.to.now first_place) (sending (P.Client a.h.client) (message a.h.client a.h.sequence (value_is u.stamp (present_entry a.g u.stamp a.area.now a.initial.now))) ∷ [])) e in
    step_is _ _ w a.area.now a.area.now _ _ _ _ _ a.h.client _ c.send_present-place.result
    (c.ask_test.ensures ∙ ap (λ (u : Scope). pick (from_owner a.from a.h.client) (read_test u.reader a.h.sequence) (Err R.Sender)) e) c.in_ok-ask_test.was
    (only_sent _ _ a.area.now _ _ _ (reader_set w a.h.client a.s e _ _ refl ∙ ap (λ (u : Scope). with_reader w a.h.client (record { sequence = a.h.sequence; listening = true; noted = u.stamp })) e) (c.send_present-place.ensures ∙ presented))
