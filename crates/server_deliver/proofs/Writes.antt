-- The step of a client's own frame of its write: turned down, or its slot stored. Assumes nothing.
use Rattle.std.specs.Prelude.{Ok, Err}
use Rattle.frame.specs.Refusals.{Verdict}
use Prim.Native.Nat.{ℕ}
use mathlib.Core.Path.{◌≡◌, ap, sym, ◌∙◌}
use mathlib.Core.List.{List}
use Rattle.frame.specs.declared.Refusal.{Refusal}
use Rattle.frame.specs.Messages.{Offer, Stage, send, message, block_is}
use Rattle.frame.specs.Frames.{body_in}
use Rattle.frame.specs.Outbox.{outbox, first_place}
use Rattle.server_rules.specs.declared.Reader.{Reader}
use Rattle.server_rules.specs.declared.Scope.{Scope}
use Rattle.server_rules.specs.declared.Server.{Server}
use Rattle.server_rules.specs.Tests.{message_test}
use Rattle.server_rules.specs.Steps.{Effect, effect, settle}
use Rattle.server_rules.specs.Delivery.{Outcome}
use Rattle.server.specs.declared.Call.{Call}
use Rattle.server.specs.declared.Moved.{Moved}
use Rattle.server.specs.Stages.{slot_in, Holds, Counted, handled, handled_by, block_frame, outcome_in, answered}
use Rattle.server_deliver.specs.Handed.{step_for}
use Rattle.server_deliver.proofs.Settling.{refused_write, stored_write}
use Rattle.server_deliver.proofs.Votes.{counting, vote_handled, vote_effect}
use Rattle.server_deliver.proofs.KindSteps.{says}

module _ (H : List ℕ → List ℕ) (k : Call) (s : Scope) (rs : List Reader) (n : Counted) (a a' f out out' to to' : List ℕ) (z : Stage) (o : Offer)
    (m : body_in k.params k.header.kind f ≡ block_is z o) (h : handled s.slot n a' out' to' ≡ block_frame H k s.slot a z o (outbox out to first_place))
    (i : List ℕ) (w : Server) (K : Holds w k.header.client s rs) where
  abbrev c : ℕ
  c = k.header.client

  -- the verdict of the tests for refusals 11 to 14
  abbrev test : Verdict
  test = message_test H k.params k.me w k.from (message c k.header.sequence (block_is z o))

  on_server : handled s.slot n a' out' to' ≡ handled_by test s.slot a (counting H k a w z o) (outbox out to first_place)
  on_server = h ∙ vote_handled H k a w z o s.slot (outbox out to first_place) (ap (λ (x : Scope). x.slot) K.scope)

  says_it : (u : Outcome) (x : Effect) → effect H k.params k.me w a i k.from (message c k.header.sequence (block_is z o)) ≡ x
      → u ≡ answered test w a x out to → u ≡ step_for H k w a i f out to
  says_it u x e p = says H k w a i f out to u (block_is z o) m (p ∙ ap (λ (y : Effect). answered test w a y out to) (sym e))

  pub write_refused : (r : Refusal) → n ≡ Err r → outcome_in w c (Err r) a' out' to' ≡ step_for H k w a i f out to
  write_refused r e =
      says_it _ _ (vote_effect H k a w z o i)
      (refused_write k.params w c s rs K n a a' out out' to to' (counting H k a w z o) test on_server _ r e)

  -- the client's own frame
  pub write_own : z ≡ send → (m : Moved) → n ≡ Ok m
      → outcome_in w c (Ok (record { scope = slot_in s m.slot; place = m.place })) a' out' to' ≡ step_for H k w a i f out to
  write_own v m e =
      says_it _ _ (vote_effect H k a w z o i ∙ ap (λ (u : Stage). settle k.params w c u (counting H k a w z o)) v)
      (stored_write k.params w c s rs K n a a' out out' to to' (counting H k a w z o) test on_server m e)
