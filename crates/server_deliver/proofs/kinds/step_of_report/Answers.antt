use mathlib.Core.Bool.{not}
use lib.ListN.{length}
use Prim.Native.Nat.{ℕ}
use Rattle.layout.specs.Servers.{server_in}
use Rattle.server_rules.specs.State.{report_of}
use Rattle.frame.specs.Params.{server_frames}
use Rattle.area.proofs.Numbers.{bytes_of}
use mathlib.Core.Path.{ap, ◌∙◌}
use borrow.Author.Tests.{not-true, not-false}
use Rattle.server_deliver.proofs.Acceptances.{first_rounds}
use Rattle.server_deliver.proofs.ByteSteps.{report_sender, report_stale, report_taken}
use Rattle.server_deliver.proofs.KindSteps.{report_frame, report_place}
use Rattle.sha256.specs.Hash.{digest_of}
use native.Mathlib.Omega.{arith}
use Rattle.server_deliver.proofs.kinds.step_of_report.Goals as goal

-- src/kinds.rt:226:9
pub returns-then-not-from_server : goal.returns-then-not-from_server
returns-then-not-from_server c = let a = c.args in let P = c.requires in λ i. report_sender digest_of a.k a.f.now a.area.now i a.state.now a.out.now a.to.now P.1 (bytes_of a.state.now (λ i. let f = c.slice_known-2-1.given i in omega arith)) P.0.lent.client_high P.2 _ c.from_server.ensures (not-true _ (ap not c.if-not-from_server.true))

-- src/kinds.rt:229:9
pub read8-time-requires : goal.read8-time-requires
read8-time-requires c = let a = c.args in let P = c.requires in omega (arith, report_frame a.k.params a.k.header.kind (length a.f.now) P.2 P.0.frame_is)

-- src/kinds.rt:230:16
pub report_at-requires : goal.report_at-requires
report_at-requires c = let a = c.args in let P = c.requires in (P.1, (report_place a.k.params a.k.from _ _ P.0.lent.bounded c.from_server.ensures (not-false _ (ap not c.if-not-from_server.false)) c.number_in-j.ensures))

-- src/kinds.rt:231:9
pub returns-then-time-report_at : goal.returns-then-time-report_at
returns-then-time-report_at c = let a = c.args in let P = c.requires in λ i. report_stale digest_of a.k a.f.now a.area.now i a.state.now a.out.now a.to.now P.1 (bytes_of a.state.now (λ i. let f = c.slice_known-2-1.given i in omega arith)) P.0.lent.client_high P.2 _ c.from_server.ensures (not-false _ (ap not c.if-not-from_server.false)) _ _ c.read8-time.ensures (c.report_at.ensures ∙ ap (λ (j : ℕ). report_of (server_in a.state.now) j) c.number_in-j.ensures) c.if-time-report_at.true

-- src/kinds.rt:233:5
pub put_report-requires : goal.put_report-requires
put_report-requires c = let a = c.args in let P = c.requires in (P.1, (report_place a.k.params a.k.from _ _ P.0.lent.bounded c.from_server.ensures (not-false _ (ap not c.if-not-from_server.false)) c.number_in-j.ensures))

-- src/kinds.rt:235:9
pub settle-last-requires : goal.settle-last-requires
settle-last-requires c = let a = c.args in let P = c.requires in first_rounds (server_frames a.k.params) a.k.params _ _ _ _ _ (omega arith) P.0.lent.bounded (omega (arith, P.1, c.put_report.auto.out)) P.0.lent.whole P.0.lent.room

-- src/kinds.rt:210:1
pub shape_of-state : goal.shape_of-state
shape_of-state c = c.settle-last.auto.state ∙ c.put_report.auto.out

-- src/kinds.rt:210:1
pub returns : goal.returns
returns c = let a = c.args in let P = c.requires in let p = (report_place a.k.params a.k.from _ _ P.0.lent.bounded c.from_server.ensures (not-false _ (ap not c.if-not-from_server.false)) c.number_in-j.ensures) in let e = c.number_in-j.ensures in λ i. report_taken digest_of a.k a.f.now a.area.now i a.state.now a.out.now a.to.now P.1 (bytes_of a.state.now (λ i. let f = c.slice_known-2-1.given i in omega arith)) P.0.lent.client_high P.2 _ c.from_server.ensures (not-false _ (ap not c.if-not-from_server.false)) _ _ c.read8-time.ensures (c.report_at.ensures ∙ ap (λ (j : ℕ). report_of (server_in a.state.now) j) c.number_in-j.ensures) (omega (arith, c.if-time-report_at.false)) (bytes_of a.f.now (λ i. let f = c.type_inv.f i in omega arith)) (omega (arith, p, e)) _ e _ c.put_report.ensures _ _ _ _ _ c.settle-last.ensures
