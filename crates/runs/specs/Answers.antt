-- What an answer says that it sent, document 01: "the answer names each sent frame's receiver". Frames lie end to end in the out area, each with its
-- length in front; the to area has two bytes for the receiver of each. These are definitions.
use Rattle.std.specs.Prelude.{ℕ, zero, suc, ◌+◌, ◌≡◌, List, [], ◌∷◌, map, get_or, take, drop}
use Rattle.std.proofs.Math.Option.{none, some}
use Rattle.std.proofs.lemmas.List.Edits.{sets}
use Rattle.area.specs.Responses.{Response, turned_down, gives}
use Rattle.area.specs.Numbers.{be2}
use Rattle.blocks.specs.declared.Params.{Params}
use Rattle.frame.specs.declared.Stamp.{Stamp}
use Rattle.frame.specs.declared.Party.{Party}
use Rattle.frame.specs.Frames.{build}
use Rattle.frame.specs.Outbox.{party_in}
use Rattle.server_rules.specs.Delivery as SD
use Rattle.client_rules.specs.Answers.{Progress, goes_on, write_ends, write_closes, read_gives, read_disagrees}
use Rattle.client_rules.specs.Rows.{Found}
use Rattle.client_rules.specs.Steps as C
use Rattle.client_rules.specs.Delivery as CD
use Rattle.client_rules.specs.Beginning as CB
use Rattle.runs.specs.World.{Setup, Sound, DigestSize, Call, to_server, to_client, begin_read}
use Rattle.runs.specs.World.{begin_write, World, initial_of, lent_to, client_effect, run, sends}
use Rattle.runs.specs.Admissible.{Admissible}

-- m frames from the front of an out area
unfoldable pub frames_in : ℕ → List ℕ → List (List ℕ)
frames_in zero l = []
frames_in (suc m) l = take (be2 l 0 + 2) l ∷ frames_in m (drop (be2 l 0 + 2) l)

-- m receivers from the front of a to area: class (0 client, 1 server) and number
unfoldable pub receivers_in : ℕ → List ℕ → List Party
receivers_in zero l = []
receivers_in (suc m) l = party_in (get_or l 0 0) (get_or l 1 0) ∷ receivers_in m (drop 2 l)

-- how many frames a client's answer says went out; a read that ends sends read-complete to all (of a server's reply: `reply_count` of server_rules)
abbrev pub answer_count : Params → Response Progress → ℕ
answer_count g (turned_down n) = 0
answer_count g (gives (goes_on m)) = m
answer_count g (gives write_ends) = 0
answer_count g (gives write_closes) = 0
answer_count g (gives (read_gives s)) = g.n
answer_count g (gives read_disagrees) = g.n

-- an answer: the count, and the out and to areas as the call leaves them
pub record Said : Type 0 where
  pub count : ℕ
  pub out : List ℕ
  pub to : List ℕ

module _ (Z : Setup) where
  open Z use {H, g}

  -- by the whole outcomes that the entry points promise
  unfoldable pub said : World → Call → Said
  said w (to_server i from f out to) =
      let r = SD.delivery H g i (w.servers i).server (w.servers i).area (initial_of Z i) from f out to in
      record { count = SD.reply_count r.reply; out = r.out; to = r.to }
  said w (to_client c from f lent result out to) =
      let r = CD.delivery H g c (w.clients c).client (w.clients c).area (lent_to Z w c lent) from f result out to in
      record { count = answer_count g r.answer; out = r.out; to = r.to }
  said w (begin_read c out to) =
      let r = CB.read_beginning g c (w.clients c).client out to in
      record { count = answer_count g r.answer; out = r.out; to = r.to }
  said w (begin_write c v out to) =
      let r = CB.write_beginning g c (w.clients c).client v out to in
      record { count = answer_count g r.answer; out = r.out; to = r.to }

-- what is read off an answer is what the run takes as sent
pub record ReadsBack (Z : Setup) (ks : List Call) (k : Call) : Type 0 where
  pub frames : frames_in (said Z (run Z ks) k).count (said Z (run Z ks) k).out ≡ map (λ x. build x.says) (sends Z (run Z ks) k)
  pub receivers : receivers_in (said Z (run Z ks) k).count (said Z (run Z ks) k).to ≡ map (λ x. x.receiver) (sends Z (run Z ks) k)

unfoldable pub AnswersReadBack : Type 0
AnswersReadBack = (Z : Setup) → Sound Z → DigestSize Z.H → (k : Call) (ks : List Call) → Admissible Z (k ∷ ks) → ReadsBack Z ks k

-- ---- what a call ends, and what it answers

-- "A read is completed by the call that answers its value": the event ev of a delivery to a client, its answer, and the result area before and after
pub record Tells (ev : C.Event) (answer : Response Progress) (result left : List ℕ) : Type 0 where
  -- a completed read is answered with its stamp, and its bytes lie at the start of the result area
  pub completes : (x : Found) (v : List ℕ) → ev ≡ C.stopped x → x.bytes ≡ some v → (answer ≡ gives (read_gives x.stamp)) × (left ≡ sets result 0 v)
  pub completed_only : (s : Stamp) → answer ≡ gives (read_gives s) → (x : Found) × (v : List ℕ) × (ev ≡ C.stopped x) × (x.stamp ≡ s) × (x.bytes ≡ some v)
  -- one whose blocks disagree is answered so, and the result area stays as lent (request F-7)
  pub disagrees : (x : Found) → ev ≡ C.stopped x → x.bytes ≡ none → (answer ≡ gives read_disagrees) × (left ≡ result)
  pub disagreed_only : answer ≡ gives read_disagrees → (x : Found) × (ev ≡ C.stopped x) × (x.bytes ≡ none)
  -- a write that ends is answered so
  pub ends : ev ≡ C.written → answer ≡ gives write_ends
  pub ended_only : answer ≡ gives write_ends → ev ≡ C.written

unfoldable pub AnswersTell : Type 0
AnswersTell = (Z : Setup) (w : World) (c : ℕ) (from : Party) (f lent result out to : List ℕ)
    → let r = CD.delivery Z.H Z.g c (w.clients c).client (w.clients c).area (lent_to Z w c lent) from f result out to in
    Tells (client_effect Z w c from f lent result out to).event r.answer result r.result
