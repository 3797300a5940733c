-- Case by case. Assumes nothing.
use Prim.Native.Nat.{ℕ}
use mathlib.Core.Path.{◌≡◌, refl, sym, ap, ◌∙◌}
use Rattle.client_rules.specs.declared.Phase.{Phase}
use Rattle.site.specs.Answers.{open_answer}
use Rattle.site.proofs.answers.open_answer.Goals as goal

-- the phase p is the case f
answer-case : (p f : Phase) (w r x : ℕ) → p ≡ f → x ≡ open_answer f w r → x ≡ open_answer p w r
answer-case p f w r x e h = h ∙ sym (ap (λ y. open_answer y w r) e)

pub returns-in-Idle : goal.returns-in-Idle
unfolding open_answer
returns-in-Idle c = answer-case _ _ _ _ _ c.in-Idle.is refl

pub returns-in-Asking : goal.returns-in-Asking
unfolding open_answer
returns-in-Asking c = answer-case _ _ _ _ _ c.in-Asking.is refl

pub returns-in-Acking : goal.returns-in-Acking
unfolding open_answer
returns-in-Acking c = answer-case _ _ _ _ _ c.in-Acking.is refl

pub returns-in-Reading : goal.returns-in-Reading
unfolding open_answer
returns-in-Reading c = answer-case _ _ _ _ _ c.in-Reading.is refl
