-- A host that asks about a frame that a party sent is told what the frame says: its kind, client and sequence, and its time. Assumes nothing.
use Rattle.frame.specs.Refusals.{fine}
use Prim.Native.Nat.{ℕ, ◌+◌, ◌*◌, ◌≤◌}
use mathlib.Core.Path.{◌≡◌, refl, sym, ap, ◌∙◌}
use mathlib.Core.List.{List}
use lib.ListN.{length}
use borrow.Author.Tests.{le-ltb}
use Rattle.area.specs.Area.{pick}
use Rattle.area.specs.Responses.{gives}
use Rattle.blocks.specs.declared.Params.{Params}
use Rattle.frame.specs.Params.{bounds_test}
use Rattle.frame.specs.Messages.{Message, Formed}
use Rattle.frame.specs.Frames.{kind_of, build, opened, opening_response, opened_under, message_in, header_for}
use Rattle.frame.proofs.Chain.{within_bounds}
use Rattle.frame.proofs.RoundTrip.{opened_build}
use Rattle.frame.proofs.Within.{bounded_of}
use Rattle.host_facts.specs.Outcomes.{wrote}
use Rattle.host_facts.specs.Frames.{header_answer, header_call, time_of, timed, time_given, time_call}

module _ (g : Params) (p : bounds_test g ≡ fine) (m : Message) (F : Formed g m) where
  given : opened_under g (build m) ≡ gives (header_for m)
  given =
      sym (within_bounds g (build m) fine (opened g (build m)) (sym p) refl refl) ∙ ap opening_response (opened_build g (bounded_of g p) m F).opens

  pub header_told : header_call g (build m) ≡ 256 * kind_of m.body + 65536 * m.client + 16777216 * m.sequence
  unfolding header_call header_answer
  header_told = ap header_answer given

  pub time_told : (time : List ℕ) → 8 ≤ length time → time_call g (build m) time ≡ timed (time_of m.body) time
  unfolding time_call time_given message_in pick
  time_told time h =
      ap (λ z. time_given g (build m) z time) given
      ∙ rw (le-ltb (length time) 8 h)
      (ap (λ (z : Message). timed (time_of z.body) time) (opened_build g (bounded_of g p) m F).says)
