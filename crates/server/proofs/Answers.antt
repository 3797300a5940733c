-- From a test's verdict and a step's stages to the outcome of a frame. Assumes nothing.
use Rattle.std.specs.Prelude.{Ok, Err}
use Rattle.frame.specs.Refusals.{Verdict, fine}
use Prim.Native.Nat.{ℕ, ◌≤◌}
use native.Mathlib.Omega.{arith}
use native.Mathlib.Nat.{zero-add}
use borrow.Author.Tests.{ltb-false}
use mathlib.Core.Path.{◌≡◌, ap, sym, ◌∙◌}
use mathlib.Core.Bool.{Bool}
use mathlib.Core.List.{List, []}
use lib.ListN.{length}
use lib.Dec.{ltb}
use Rattle.area.specs.Area.{pick}
use Rattle.area.specs.Responses.{gives}
use Rattle.blocks.specs.declared.Params.{Params}
use Rattle.frame.specs.declared.Party.{Party}
use Rattle.frame.specs.declared.Refusal.{Refusal}
use Rattle.frame.specs.declared.Refusal.TheVariants as R
use Rattle.frame.specs.Messages.{from_server, number_in, Sending}
use Rattle.frame.specs.Outbox.{Outbox, outbox, sent, first_place}
use Rattle.frame.proofs.Outbox.{sent_none}
use Rattle.frame.proofs.Verdicts.{fine_is, fine_not}
use Rattle.server_rules.specs.declared.Slot.{Slot}
use Rattle.server_rules.specs.declared.Server.{Server}
use Rattle.server_rules.specs.declared.Scope.{Scope}
use Rattle.frame.specs.declared.Place.{Place}
use Rattle.server_rules.specs.Scopes.{with_scope}
use Rattle.server_rules.specs.Tests.{from_owner, open_test}
use Rattle.server_rules.specs.Steps.{Effect, send_only}
use Rattle.server.specs.Stages.{Progress, progress, moved, outcome_in, stepped, answered}
use Rattle.frame.proofs.PartyLaws.{server_number}

-- turned down
pub refused_is : (v u : Verdict) (r : Refusal) (w : Server) (c : ℕ) (a : List ℕ) (x : Effect) (out to : List ℕ) → v ≡ u → v ≡ Err r
    → outcome_in w c (Err r) a out to ≡ answered u w a x out to
unfolding answered
refused_is v u r w c a x out to e f = ap (λ (z : Verdict). answered z w a x out to) (sym f ∙ e)

-- a step
pub step_is : (v u : Verdict) (s : Server) (a a' : List ℕ) (x : Effect) (out to out' to' : List ℕ) (c : ℕ) (y : Scope) (p : Place) → v ≡ u
    → v ≡ fine → progress (with_scope s c y) a' (outbox out' to' p) ≡ moved x (outbox out to first_place)
    → outcome_in s c (Ok (record { scope = y; place = p })) a' out' to' ≡ answered u s a x out to
unfolding answered stepped moved sent
step_is v u s a a' x out to out' to' c y p e f h =
    let k : p.count ≡ length x.sends = ap (λ (w : Progress). w.box.place.count) h ∙ zero-add (length x.sends) in
    let z : outcome_in s c (Ok (record { scope = y; place = p })) a' out' to' ≡ stepped x out to =
    λ l. record { reply = gives (k l); server = (h l).server; area = (h l).area; out = (h l).box.out; to = (h l).box.to } in
    z ∙ ap (λ (w : Verdict). answered w s a x out to) (sym f ∙ e)

-- the open write
pub open_fine : (x : Slot) (q : ℕ) (again : Bool) → open_test x q again ≡ fine → x.sequence ≡ q
unfolding open_test
open_fine x q again e =
    let a = fine_not (ltb q x.sequence) R.Stale _ e in
    let b = fine_not (ltb x.sequence q) R.Ahead _ a.1 in
    omega (arith, ltb-false q x.sequence a.0, ltb-false x.sequence q b.0)

pub record Voted (g : Params) (from : Party) (x : Slot) (q : ℕ) : Type 0 where
  pub low : 1 ≤ number_in from
  pub high : number_in from ≤ g.n
  pub at_open : x.sequence ≡ q

-- a server's frame of the open write
pub voted : (g : Params) (from : Party) (x : Slot) (q : ℕ) (again : Bool) (v : Verdict)
    → v ≡ pick (from_server g from) (open_test x q again) (Err R.Sender) → v ≡ fine → Voted g from x q
voted g from x q again v e f =
    let a = fine_is (from_server g from) R.Sender (open_test x q again) (sym e ∙ f) in
    let n = server_number g from a.0 in
    record { low = n.0; high = n.1; at_open = open_fine x q again a.1 }

-- the owner's frame of the open write
pub owned : (from : Party) (c : ℕ) (x : Slot) (q : ℕ) (again : Bool) (v : Verdict)
    → v ≡ pick (from_owner from c) (open_test x q again) (Err R.Sender) → v ≡ fine → x.sequence ≡ q
owned from c x q again v e f = open_fine x q again (fine_is (from_owner from c) R.Sender (open_test x q again) (sym e ∙ f)).1

-- a step that changes the server and sends
pub only_sent : (s s' : Server) (a : List ℕ) (l : List Sending) (q q' : Outbox) → s' ≡ s → q' ≡ sent q l → progress s' a q' ≡ moved (send_only s a l) q
unfolding moved
only_sent s s' a l q q' e f = λ i. progress (e i) a (f i)

pub none_sent : (s s' : Server) (a : List ℕ) (q : Outbox) → s' ≡ s → progress s' a q ≡ moved (send_only s a []) q
none_sent s s' a q e = only_sent s s' a [] q q e (sym (sent_none q))
