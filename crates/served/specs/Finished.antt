-- Request F-6, "Everybody is served in the end": "when every frame between honest parties has been delivered, and none answered only 10 or 13 would give a step
-- if offered again with room, no operation begun by an honest client is still open." Nothing is said about time: a run that goes on is not finished, and
-- nothing promises that one ever is. These are definitions.
use Rattle.std.specs.Prelude.{ℕ, ◌≤◌, ◌≡◌, ◌⊎◌, List, length}
use Rattle.std.proofs.Math.Option.{Option, none, some}
use Rattle.area.specs.Responses.{refusal_number}
use Rattle.frame.specs.declared.Party.{Party}
use Rattle.frame.specs.declared.Party.TheVariants as P
use Rattle.frame.specs.Chunks.{rows_bytes}
use Rattle.frame.specs.Params.{server_frames, client_frames, out_room, to_room}
use Rattle.server_rules.specs.Delivery as SD
use Rattle.client_rules.specs.declared.Phase.TheVariants as F
use Rattle.client_rules.specs.Delivery as CD
use Rattle.runs.specs.World.{Setup, Sound, DigestSize, Call, to_server, to_client, begin_read, begin_write, World, initial_of, lent_to, run}
use Rattle.runs.specs.Admissible.{Sent, Honest, Admissible}
use Rattle.runs.specs.Events.{Event, At}
use Rattle.runs.specs.Blocks.{Collision}

-- ---- answers

-- a step, or a number "other than 10 and 13"
abbrev pub Final : Option ℕ → Type 0
Final none = Unit {0}
Final (some n) = (n ≡ 10 → ⊥) × (n ≡ 13 → ⊥)

module _ (Z : Setup) where
  open Z use {H, g}

  -- the number with which a server or a client turns a frame f down, named as a's, if it does: by the outcomes that the entry points promise
  abbrev pub server_answer : World → ℕ → Party → List ℕ → List ℕ → List ℕ → Option ℕ
  server_answer w i a f out to = refusal_number (SD.delivery H g i (w.servers i).server (w.servers i).area (initial_of Z i) a f out to).reply

  abbrev pub client_answer : World → ℕ → List ℕ → Party → List ℕ → List ℕ → List ℕ → List ℕ → List ℕ → Option ℕ
  client_answer w c rows a f lent result out to = refusal_number (CD.delivery H g c (w.clients c).client rows (lent_to Z w c lent) a f result out to).answer

  -- ---- a finished run

  -- "has been delivered": the frame f, named as a's, is handed to b
  abbrev pub HandedIn : Party → Party → List ℕ → Event
  HandedIn a b f ks (to_server i from f' out to) = (b ≡ P.Server i) × (a ≡ from) × (f ≡ f')
  HandedIn a b f ks (to_client c from f' lent result out to) = (b ≡ P.Client c) × (a ≡ from) × (f ≡ f')
  HandedIn a b f ks (begin_read c out to) = ⊥
  HandedIn a b f ks (begin_write c v out to) = ⊥

  -- it is, and the answer is neither 10 nor 13
  abbrev pub Answered : Party → Party → List ℕ → Event
  Answered a b f ks (to_server i from f' out to) = (b ≡ P.Server i) × (a ≡ from) × (f ≡ f') × Final (server_answer (run Z ks) i from f' out to)
  Answered a b f ks (to_client c from f' lent result out to) =
      (b ≡ P.Client c) × (a ≡ from) × (f ≡ f') × Final (client_answer (run Z ks) c ((run Z ks).clients c).area from f' lent result out to)
  Answered a b f ks (begin_read c out to) = ⊥
  Answered a b f ks (begin_write c v out to) = ⊥

  -- It "would give" no "step if offered again with room": whatever is lent, if it is large enough. A client's rows area is one of the lent areas, so where it
  -- is too short the frame is offered with another one; which does not matter, since the tests ask of it only its length.
  abbrev pub NoStep : World → Party → Party → List ℕ → Type 0
  NoStep w a (P.Server i) f = (out to : List ℕ) → out_room g (server_frames g) ≤ length out → to_room (server_frames g) ≤ length to
      → (n : ℕ) × (server_answer w i a f out to ≡ some n)
  NoStep w a (P.Client c) f = (rows lent result out to : List ℕ) → rows_bytes ≤ length rows → g.size ≤ length result
      → out_room g (client_frames g) ≤ length out → to_room (client_frames g) ≤ length to
      → (n : ℕ) × (client_answer w c rows a f lent result out to ≡ some n)

  -- Each frame that an honest party sent to an honest one was answered with something other than 10 and 13, or would give no step. Frames that a server sends
  -- to itself are among them: "To all" names it, too.
  abbrev pub Finished : List Call → Type 0
  Finished ks = (a b : Party) (f : List ℕ) → Honest Z a → Honest Z b → Sent Z ks a b f → ((p : ℕ) × At (Answered a b f) ks p) ⊎ NoStep (run Z ks) a b f

  -- the same to the letter of the request
  pub record Delivered (ks : List Call) : Type 0 where
    -- "every frame between honest parties has been delivered,
    pub handed : (a b : Party) (f : List ℕ) → Honest Z a → Honest Z b → Sent Z ks a b f → (p : ℕ) × At (HandedIn a b f) ks p
    -- and none answered only 10 or 13 would give a step if offered again with room"
    pub no_more : (a b : Party) (f : List ℕ) → Honest Z a → Honest Z b → Sent Z ks a b f → ((p : ℕ) → At (Answered a b f) ks p → ⊥) → NoStep (run Z ks) a b f

  -- ---- everybody is served

  -- "no operation begun by an honest client is still open": one is open exactly if the phase is not idle (refusal 15). "A write closed as out of stamps
  -- counts here as ended".
  abbrev pub Served : List Call → Type 0
  Served ks = (c : ℕ) → Honest Z (P.Client c) → ((run Z ks).clients c).client.phase ≡ F.Idle

-- "This needs n > 3t, at most t false servers and fresh starts. If it fails, two different blocks with one digest must be shown."
unfoldable pub EverybodyServed : Type 0
EverybodyServed = (Z : Setup) → Sound Z → DigestSize Z.H → (ks : List Call) → Admissible Z ks → Finished Z ks → Served Z ks ⊎ Collision Z ks

-- and with the request's own hypothesis
unfoldable pub EverybodyServedToTheLetter : Type 0
EverybodyServedToTheLetter = (Z : Setup) → Sound Z → DigestSize Z.H → (ks : List Call) → Admissible Z ks → Delivered Z ks → Served Z ks ⊎ Collision Z ks
