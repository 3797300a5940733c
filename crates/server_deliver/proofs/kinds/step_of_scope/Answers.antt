use Rattle.frame.specs.declared.Refusal.{Refusal}
use Rattle.server.specs.declared.Taken.{Taken}
use Rattle.server.specs.Stages.{outcome_in}
use Rattle.server_deliver.specs.Handed.{step_for}
use Rattle.layout.specs.Servers.{server_in}
use Rattle.area.proofs.Numbers.{bytes_of}
use Rattle.std.specs.Prelude.{Result, Err}
use borrow.Author.Rules.{rules}
use mathlib.Core.Path.{◌≡◌, refl, subst}
use Rattle.server_deliver.proofs.Records.{nine_slots}
use Rattle.server_deliver.proofs.ByteSteps.{scope_refused, scope_taken}
use Rattle.server_deliver.proofs.KindSteps.{accepts_none}
use Rattle.sha256.specs.Hash.{digest_of}
use native.Mathlib.Omega.{arith}
use Rattle.server_deliver.proofs.kinds.step_of_scope.Goals as goal

pub scope_at-s-requires : goal.scope_at-s-requires
scope_at-s-requires c = let P = c.requires in (P.2, P.0.lent.client_high)

pub step_of_kind-requires : goal.step_of_kind-requires
step_of_kind-requires c = let P = c.requires in (P.0, P.1, P.3)

pub returns-in_err-done : goal.returns-in_err-done
returns-in_err-done c =
    let a = c.args in
    let P = c.requires in
    let k = a.k in
    let s = server_in a.state.now in
    let r : c.from_residual.result ≡ Err c.in_err-done.field-0.0 = search rules in
    let e = c.step_of_kind.ensures _ s (record { many = nine_slots a.state.now; scope = c.scope_at-s.ensures; readers = refl }) in
    let was = c.in_err-done.was in
    rw r (scope_refused digest_of k a.f.now a.area.now a.initial.now a.state.now a.out.now a.to.now P.2
    (bytes_of a.state.now (λ i. let f = c.slice_known-2-1.given i in omega arith)) P.0.lent.client_high
    (accepts_none digest_of k (server_in a.state.now) a.area.now a.initial.now a.f.now P.0.kind_low P.0.kind_high P.0.kind_used P.3) P.3.no_report _ _ _ _
    (subst (λ (x : Result Taken Refusal). outcome_in s k.header.client x c.step_of_kind.new.area c.step_of_kind.new.out c.step_of_kind.new.to ≡ step_for digest_of k s a.area.now a.initial.now a.f.now a.out.now a.to.now) was e))

pub put_scope-requires : goal.put_scope-requires
put_scope-requires c = let P = c.requires in (P.2, P.0.lent.client_high)

pub returns : goal.returns
returns c =
    let a = c.args in
    let P = c.requires in
    let k = a.k in
    let s = server_in a.state.now in
    let e = c.step_of_kind.ensures _ s (record { many = nine_slots a.state.now; scope = c.scope_at-s.ensures; readers = refl }) in
    let was = c.in_ok-done.was in
    scope_taken digest_of k a.f.now a.area.now a.initial.now a.state.now a.out.now a.to.now P.2
    (bytes_of a.state.now (λ i. let f = c.slice_known-2-1.given i in omega arith)) P.0.lent.client_high
    (accepts_none digest_of k (server_in a.state.now) a.area.now a.initial.now a.f.now P.0.kind_low P.0.kind_high P.0.kind_used P.3) P.3.no_report c.in_ok-done.done _ _ _ _ _ (search rules)
    (subst (λ (x : Result Taken Refusal). outcome_in s k.header.client x c.step_of_kind.new.area c.step_of_kind.new.out c.step_of_kind.new.to ≡ step_for digest_of k s a.area.now a.initial.now a.f.now a.out.now a.to.now) was e)
    c.put_scope.ensures
