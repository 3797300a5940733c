use Rattle.server_blocks.specs.Stage.{vote_stage, freed_frames}
use Rattle.server.specs.Stages.{slot_in, handled, block_frame}
use Rattle.server_rules.specs.declared.Scope.{Scope}
use Rattle.frame.specs.Outbox.{outbox, first_place}
use Rattle.frame.specs.Frames.{offer_in}
use Rattle.area.proofs.Numbers.{bytes_of}
use Rattle.std.specs.Prelude.{Err}
use borrow.Author.Rules.{rules}
use mathlib.Core.Path.{◌≡◌, ap, subst, ◌∙◌}
use Rattle.server_deliver.proofs.Acceptances.{first_rounds}
use Rattle.server_deliver.proofs.ByteSteps.{vote_refused, vote_taken}
use Rattle.sha256.specs.Hash.{digest_of}
use native.Mathlib.Omega.{arith}
use Rattle.server_deliver.proofs.kinds.step_of_vote.Goals as goal

pub scope_at-s-requires : goal.scope_at-s-requires
scope_at-s-requires c = let P = c.requires in (P.1, P.0.lent.client_high)

pub count_vote-requires : goal.count_vote-requires
count_vote-requires c = let P = c.requires in (P.0, P.2, P.3)

pub returns-in_err-m : goal.returns-in_err-m
returns-in_err-m c =
    let a = c.args in
    let P = c.requires in
    let r : c.from_residual.result ≡ Err c.in_err-m.field-0.0 = search rules in
    let n = c.count_vote in
    λ i. rw r (vote_refused digest_of a.k a.f.now a.area.now i a.state.now a.out.now a.to.now P.1 (bytes_of a.state.now (λ i. let f = c.slice_known-2-1.given i in omega arith)) P.0.lent.client_high P.2 P.3 n.result n.new.area n.new.out n.new.to
    (subst (λ (x : Scope). handled x.slot n.result n.new.area n.new.out n.new.to ≡ block_frame digest_of a.k x.slot a.area.now (vote_stage a.k.header.kind) (offer_in a.k.params a.f.now) (outbox a.out.now a.to.now first_place)) c.scope_at-s.ensures n.ensures.handles) _ c.in_err-m.was)

pub put_scope-requires : goal.put_scope-requires
put_scope-requires c = let P = c.requires in (P.1, P.0.lent.client_high)

pub settle-last-requires : goal.settle-last-requires
settle-last-requires c = let a = c.args in let P = c.requires in first_rounds (freed_frames a.k.params) a.k.params _ _ _ _ _ (omega arith) P.0.lent.bounded (omega (arith, P.1, c.put_scope.auto.out)) (omega (arith, P.0.lent.whole, c.count_vote.auto.area)) (c.count_vote.ensures.room _ c.in_ok-m.was)

pub shape_of-area : goal.shape_of-area
shape_of-area c = c.settle-last.auto.area ∙ c.count_vote.auto.area

pub shape_of-state : goal.shape_of-state
shape_of-state c = c.settle-last.auto.state ∙ c.put_scope.auto.out

pub shape_of-out : goal.shape_of-out
shape_of-out c = c.settle-last.auto.out ∙ c.count_vote.auto.out

pub shape_of-to : goal.shape_of-to
shape_of-to c = c.settle-last.auto.to ∙ c.count_vote.auto.to

pub returns : goal.returns
returns c =
    let a = c.args in
    let P = c.requires in
    let n = c.count_vote in
    λ i. vote_taken digest_of a.k a.f.now a.area.now i a.state.now a.out.now a.to.now P.1 (bytes_of a.state.now (λ i. let f = c.slice_known-2-1.given i in omega arith)) P.0.lent.client_high P.2 P.3 n.result n.new.area n.new.out n.new.to
    (subst (λ (x : Scope). handled x.slot n.result n.new.area n.new.out n.new.to ≡ block_frame digest_of a.k x.slot a.area.now (vote_stage a.k.header.kind) (offer_in a.k.params a.f.now) (outbox a.out.now a.to.now first_place)) c.scope_at-s.ensures n.ensures.handles) _ c.in_ok-m.was _ (ap (λ (x : Scope). slot_in x c.in_ok-m.m.slot) c.scope_at-s.ensures) (bytes_of a.f.now (λ i. let f = c.type_inv.f i in omega arith)) _ c.put_scope.ensures _ _ _ _ _ c.settle-last.ensures
