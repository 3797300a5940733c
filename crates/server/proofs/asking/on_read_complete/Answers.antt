-- The step of one kind: refused as the tests say, or its whole outcome. Assumes nothing.
use Rattle.std.specs.Prelude.{Err}
use Rattle.server.proofs.Answers.{refused_is, step_is, none_sent}
use Rattle.server_rules.specs.Steps.{on_read_complete}
use Rattle.server_rules.specs.Tests.{message_test, sender_right, order_test, from_owner, done_test}
use Rattle.server_rules.specs.State.{with_reader}
use Rattle.server_rules.specs.declared.Scope.{Scope}
use Rattle.server.proofs.Scopes.{reader_set}
use Rattle.area.specs.Area.{pick}
use Rattle.frame.specs.declared.Refusal.TheVariants as R
use mathlib.Core.Bool.{false}
use borrow.Author.Rules.{rules}
use mathlib.Core.Path.{◌≡◌, refl, ap, ◌∙◌}
use Rattle.frame.specs.Outbox.{outbox, first_place}
use Rattle.server.proofs.asking.on_read_complete.Goals as goal

pub returns-in_err-end_test : goal.returns-in_err-end_test
unfolding message_test sender_right order_test
returns-in_err-end_test c =
    let a = c.args in
    let r : c.from_residual.result ≡ Err c.in_err-end_test.field-0.0 = search rules in
    λ w e z out to. rw r (refused_is _ _ _ w a.h.client z _ out to (c.end_test.ensures ∙ ap (λ (u : Scope). pick (from_owner a.from a.h.client) (done_test u.reader a.h.sequence) (Err R.Sender)) e) c.in_err-end_test.was)

pub returns : goal.returns
unfolding message_test sender_right order_test on_read_complete
returns c =
    let a = c.args in
    λ w e z out to. step_is _ _ w z z _ out to out to a.h.client _ first_place
    (c.end_test.ensures ∙ ap (λ (u : Scope). pick (from_owner a.from a.h.client) (done_test u.reader a.h.sequence) (Err R.Sender)) e) c.in_ok-end_test.was
    (none_sent _ _ z (outbox out to first_place) (reader_set w a.h.client a.s e _ _ refl ∙ ap (λ (u : Scope). with_reader w a.h.client (record { sequence = a.h.sequence; listening = false; noted = u.reader.noted })) e))
