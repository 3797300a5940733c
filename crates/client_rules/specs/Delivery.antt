-- A client's delivery: the whole outcome. H is the digest, g the parameters, me the client's number. These are definitions.
use Rattle.std.specs.Prelude.{ℕ, List, length}
use Rattle.std.proofs.Math.Option.{Option, none, some}
use Rattle.std.proofs.lemmas.List.Edits.{sets}
use Rattle.area.specs.Responses.{Response, turned_down, gives}
use Rattle.blocks.specs.declared.Params.{Params}
use Rattle.frame.specs.declared.Stamp.{Stamp}
use Rattle.frame.specs.declared.Party.{Party}
use Rattle.frame.specs.Refusals.{number_of}
use Rattle.frame.specs.Messages.{Judged, bad, good}
use Rattle.frame.specs.Outbox.{frames, receivers}
use Rattle.client_rules.specs.declared.Client.{Client}
use Rattle.client_rules.specs.declared.Answered.{Answered}
use Rattle.client_rules.specs.Answers.{Progress, goes_on, write_ends, write_closes, read_gives, read_disagrees, answer_response}
use Rattle.client_rules.specs.Tests.{judge}
use Rattle.client_rules.specs.Steps.{Event, nothing, written, out_of_stamps, stopped, Effect, quiet, effect}

-- the whole outcome: the answer, the client, and every byte of the lent areas
pub record Outcome : Type 0 where
  pub answer : Response Progress
  pub client : Client
  pub area : List ℕ
  pub result : List ℕ
  pub out : List ℕ
  pub to : List ℕ

abbrev pub outcome : Answered → List ℕ → List ℕ → List ℕ → List ℕ → Outcome
outcome r area result out to = record { answer = answer_response r.answer; client = r.client; area = area; result = result; out = out; to = to }

-- the end of a read at a stamp: its value, or the disagreement of its blocks, which is a result and no refusal (request F-7)
abbrev pub read_progress : Stamp → Option (List ℕ) → Progress
read_progress x none = read_disagrees
read_progress x (some v) = read_gives x

-- of a step with an event and this many frames sent
unfoldable pub progress_by : Event → ℕ → Progress
progress_by nothing c = goes_on c
progress_by written c = write_ends
progress_by out_of_stamps c = write_closes
progress_by (stopped x) c = read_progress x.stamp x.bytes

unfoldable pub answer_of : Judged → Effect → Response Progress
answer_of (bad r) x = turned_down (number_of r)
answer_of (good m) x = gives (progress_by x.event (length x.sends))

-- a completed read writes its value at the start of the result area; otherwise it stays as lent
abbrev pub read_result : Option (List ℕ) → List ℕ → List ℕ
read_result none l = l
read_result (some v) l = sets l 0 v

unfoldable pub result_of : Event → List ℕ → List ℕ
result_of nothing l = l
result_of written l = l
result_of out_of_stamps l = l
result_of (stopped x) l = read_result x.bytes l

-- frames lie end to end from the start of the out area, two bytes for the receiver of each in the to area; other bytes stay as lent
unfoldable pub outcome_of : Judged → Effect → List ℕ → List ℕ → List ℕ → Outcome
outcome_of j x result out to = record {
  answer = answer_of j x;
  client = x.client;
  area = x.area;
  result = result_of x.event result;
  out = sets out 0 (frames x.sends);
  to = sets to 0 (receivers x.sends);
}

module _ (H : List ℕ → List ℕ) (g : Params) (me : ℕ) where
  -- "The answer is the number alone; state and all lent bytes remain unchanged."
  unfoldable pub effect_by : Judged → Client → List ℕ → List ℕ → Party → Effect
  effect_by (bad r) s a v from = quiet s a
  effect_by (good m) s a v from = effect H g me s a v from m

  -- what a delivery does; one that is turned down does nothing
  unfoldable pub delivered : Client → List ℕ → List ℕ → Party → List ℕ → List ℕ → List ℕ → List ℕ → Effect
  delivered s a v from f result out to = effect_by (judge H g me s a v from f result out to) s a v from

  -- the entry point
  unfoldable pub delivery : Client → List ℕ → List ℕ → Party → List ℕ → List ℕ → List ℕ → List ℕ → Outcome
  delivery s a v from f result out to = outcome_of (judge H g me s a v from f result out to) (delivered s a v from f result out to) result out to
