-- The whole outcome, by the laws of Laws.antt. Assumes nothing.
use mathlib.Core.Bool.{not}
use mathlib.Core.Path.{ap, ◌∙◌}
use borrow.Author.Tests.{not-true, not-false}
use Rattle.semduoli.specs.Calls.{wrote, state_after}
use Rattle.semduoli.proofs.Laws.{keep_old, keep_new}
use Rattle.semduoli.proofs.clients.keep.Goals as goal
use Rattle.semduoli.proofs.clients.keep.Goals.{then-not-is_refusal, else-not-is_refusal}

pub returns : goal.returns
unfolding state_after
returns c = elim c.if-not-is_refusal.branch [
  | then-not-is_refusal w ↦
      keep_new _ _ _ _ _ _ c.is_refusal.ensures c.client_answer.ensures (not-true _ (ap not w.if-not-is_refusal.true)) _ (w.state-is ∙ w.put_client.ensures)
  | else-not-is_refusal w ↦
      ap (wrote _) w.state-is ∙ keep_old _ _ _ _ _ _ c.is_refusal.ensures c.client_answer.ensures (not-false _ (ap not w.if-not-is_refusal.false))
]
