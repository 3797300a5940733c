-- A playback's answer by the case that the code found. Assumes nothing.
use Rattle.std.specs.Prelude.{Ok, Err}
use Prim.Native.Nat.{ℕ, ◌+◌, ◌*◌, ◌%◌}
use native.Mathlib.Nat.{zero-add}
use mathlib.Core.Path.{◌≡◌, sym, ap, ◌∙◌}
use Rattle.frame.specs.declared.Refusal.{Refusal}
use Rattle.frame.specs.Refusals.{number_of}
use Rattle.playback.specs.declared.Ending.{Ending}
use Rattle.playback.specs.declared.Ending.TheVariants as E
use Rattle.playback.specs.declared.Summary.{Summary}
use Rattle.playback.specs.Playback.{Answer, end_in, summed, playback_response}
use Rattle.playback.specs.Answers.{closed_answer, summary_answer, playback_answer}

-- ---- the answer

module _ (x : Summary) where
  abbrev counted : ℕ
  counted = 16777216 * (x.entries % 1099511627776)

  pub whole_summary : x.ending ≡ E.Whole → counted ≡ summary_answer (summed x)
  unfolding summary_answer closed_answer
  whole_summary p = sym (ap (λ (y : Ending). closed_answer (end_in y) + counted) p ∙ zero-add counted)

  pub malformed_summary : (i : ℕ) → x.ending ≡ E.Malformed i → 256 * 22 + counted ≡ summary_answer (summed x)
  unfolding summary_answer closed_answer
  malformed_summary i p = sym (ap (λ (y : Ending). closed_answer (end_in y) + counted) p)

  pub cut_summary : (i : ℕ) → x.ending ≡ E.Cut i → 256 * 23 + counted ≡ summary_answer (summed x)
  unfolding summary_answer closed_answer
  cut_summary i p = sym (ap (λ (y : Ending). closed_answer (end_in y) + counted) p)

pub played_answer : (a : Answer) (x : Summary) (r : ℕ) → a ≡ Ok x → r ≡ summary_answer (summed x) → r ≡ playback_answer (playback_response a)
unfolding playback_answer
played_answer a x r e f = f ∙ sym (ap (λ z. playback_answer (playback_response z)) e)

pub refused_answer : (a : Answer) (x : Refusal) (r : ℕ) → a ≡ Err x → r ≡ number_of x → r ≡ playback_answer (playback_response a)
unfolding playback_answer
refused_answer a x r e f = f ∙ sym (ap (λ z. playback_answer (playback_response z)) e)
