-- What inner functions of the code ask and promise. The entry points' promises (Delivery.antt, Beginning.antt) do not speak of these. These are definitions.
use Rattle.std.specs.Prelude.{ℕ, ◌≤◌, ◌<◌, List, length, Option, Some, None, Ok, Err}
use Rattle.std.proofs.Math.Option as M
use Rattle.std.proofs.lemmas.List.Edits.{sets}
use Rattle.area.specs.Responses.{turned_down, gives}
use Rattle.blocks.specs.declared.Params.{Params}
use Rattle.frame.specs.Refusals.{number_of, Verdict}
use Rattle.frame.specs.Params.{Bounded, largest_frame}
use Rattle.frame.specs.Stamps.{last_sequence}
use Rattle.frame.specs.Frames.{body_at}
use Rattle.frame.specs.Outbox.{frames, receivers, Room, first_place}
use Rattle.frame.specs.Chunks.{rows_bytes}
use Rattle.client_rules.specs.declared.Client.{Client}
use Rattle.client_rules.specs.Steps.{Effect}
use Rattle.client_rules.specs.Delivery.{Outcome, progress_by, result_of}

-- a place in a row, or none, as the code returns it
abbrev pub spot_of : M.Option ℕ → Option ℕ
spot_of M.none = None
spot_of (M.some i) = Some i

-- an operation can begin: a number is left, and a question to all servers has room
pub record Opening (g : Params) (last out to : ℕ) : Type 0 where
  pub bounded : Bounded g
  pub left : last < last_sequence
  pub room : Room first_place g.n body_at out to

-- ---- a frame that opened, the lent areas being long enough

-- what the stages ask: the rows area is whole, the value and n largest frames have room
pub record Lent (g : Params) (area result out to : ℕ) : Type 0 where
  pub bounded : Bounded g
  pub whole : rows_bytes ≤ area
  pub value_room : g.size ≤ result
  pub room : Room first_place g.n (largest_frame g) out to

-- the outcome of a step
unfoldable pub stepped : Effect → List ℕ → List ℕ → List ℕ → Outcome
stepped x result out to = record {
  answer = gives (progress_by x.event (length x.sends));
  client = x.client;
  area = x.area;
  result = result_of x.event result;
  out = sets out 0 (frames x.sends);
  to = sets to 0 (receivers x.sends);
}

-- turned down by one of the tests 11 to 14, or a step
unfoldable pub answered : Verdict → Client → List ℕ → Effect → List ℕ → List ℕ → List ℕ → Outcome
answered (Err r) s a x result out to = record { answer = turned_down (number_of r); client = s; area = a; result = result; out = out; to = to }
answered (Ok _) s a x result out to = stepped x result out to
