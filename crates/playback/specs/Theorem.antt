-- What is proved of a playback (`Theorem`; its proof is in proofs/Theorem.antt). Document 02, F-8: "From a fresh server the playback gives every
-- reply, every frame sent and the final state. They must equal the steps taken one after another, each with room enough." H is the digest, g the
-- parameters, me the server's number. Assumes nothing: these are definitions and statements.
use Rattle.frame.specs.Refusals.{fine}
use Rattle.std.specs.Prelude.{ℕ, zero, suc, ◌+◌, ◌*◌, ◌≤◌, ◌≡◌, List, [], ◌∷◌, ◌++◌, map, length, get_or, take, drop}
use Rattle.std.proofs.lemmas.List.Edits.{sets}
use Rattle.area.specs.Area.{part, Bytes}
use Rattle.area.specs.Responses.{turned_down, gives}
use Rattle.area.specs.Numbers.{be2}
use Rattle.blocks.specs.declared.Params.{Params}
use Rattle.frame.specs.declared.Party.{Party}
use Rattle.frame.specs.Params.{server_frames, out_room, to_room}
use Rattle.frame.specs.Frames.{build}
use Rattle.frame.specs.Outbox.{frames, receivers, party_in}
use Rattle.server_rules.specs.declared.Server.{Server}
use Rattle.server_rules.specs.Delivery as SD
use Rattle.entries.specs.Entries.{TraceEntry, trace_bytes, trace_of}
use Rattle.entries.specs.Forms.{AllWritable}
use Rattle.playback.specs.Reports.{Report, report_bytes}
use Rattle.playback.specs.Playback.{entry_need, out_test, report_of, played, played_from, whole, Summed, Outcome, playback}

-- ---- the steps, one after the other

-- areas that have room enough for a step: "A server's out area must now hold 9n + 136 largest frames" (request F-9)
pub record Enough (g : Params) (out to : List ℕ) : Type 0 where
  pub out_room_lem : out_room g (server_frames g) ≤ length out
  pub to_room_lem : to_room (server_frames g) ≤ length to

-- a frame that is handed to the server, and the areas that are lent for its step
pub record Handed : Type 0 where
  pub entry : TraceEntry
  pub out : List ℕ
  pub to : List ℕ

abbrev pub AllEnough : Params → List Handed → Type 0
AllEnough g [] = Unit {0}
AllEnough g (h ∷ hs) = Enough g h.out h.to × AllEnough g hs

unfoldable pub entries_of : List Handed → List TraceEntry
entries_of hs = map (λ h. h.entry) hs

-- the server and its state area after the last step, and the outcome of each
pub record Taken : Type 0 where
  pub server : Server
  pub area : List ℕ
  pub outcomes : List SD.Outcome

module _ (H : List ℕ → List ℕ) (g : Params) (me : ℕ) where
  abbrev pub step_of : List ℕ → Server → List ℕ → Handed → SD.Outcome
  step_of initial s a h = SD.delivery H g me s a initial h.entry.sender h.entry.frame h.out h.to

  unfoldable pub taken : List ℕ → Server → List ℕ → List Handed → Taken
  taken initial s a [] = record { server = s; area = a; outcomes = [] }
  taken initial s a (h ∷ hs) =
      let o = step_of initial s a h in
      let k = taken initial o.server o.area hs in
      record { server = k.server; area = k.area; outcomes = o ∷ k.outcomes }

  -- from a fresh server
  unfoldable pub taken_from : SD.Constructed → List Handed → Taken
  taken_from x hs = taken x.initial x.server x.area hs

-- a step's outcome is what a playback reports: the reply, the frames end to end in its out area, their receivers in its to area
pub record Agrees (h : Handed) (o : SD.Outcome) (r : Report) : Type 0 where
  pub reply : o.reply ≡ r.reply
  pub out : o.out ≡ sets h.out 0 (frames r.sends)
  pub to : o.to ≡ sets h.to 0 (receivers r.sends)

abbrev pub AllAgree : List Handed → List SD.Outcome → List Report → Type 0
AllAgree [] [] [] = Unit {0}
AllAgree [] [] (r ∷ rs) = ⊥
AllAgree [] (o ∷ os) rs = ⊥
AllAgree (h ∷ hs) [] rs = ⊥
AllAgree (h ∷ hs) (o ∷ os) [] = ⊥
AllAgree (h ∷ hs) (o ∷ os) (r ∷ rs) = Agrees h o r × AllAgree hs os rs

-- ---- the out area, read

-- a frame that was sent, and its receiver
pub record Posted : Type 0 where
  pub receiver : Party
  pub frame : List ℕ

-- what the out area says of an entry: its answer's number, and the frames sent
pub record Told : Type 0 where
  pub number : ℕ
  pub posted : List Posted

-- m frames from the front, each after its receiver's class and number; "Frames carry their length"
unfoldable pub posted_in : ℕ → List ℕ → List Posted
posted_in zero l = []
posted_in (suc m) l = record { receiver = party_in (get_or l 0 0) (get_or l 1 0); frame = part l 2 (2 + be2 l 2) } ∷ posted_in m (drop (4 + be2 l 2) l)

-- the bytes after them
unfoldable pub behind_posted : ℕ → List ℕ → List ℕ
behind_posted zero l = l
behind_posted (suc m) l = behind_posted m (drop (4 + be2 l 2) l)

-- what the area says of m entries
unfoldable pub told_in : ℕ → List ℕ → List Told
told_in zero l = []
told_in (suc m) l = record { number = get_or l 0 0; posted = posted_in (be2 l 1) (drop 3 l) } ∷ told_in m (behind_posted (be2 l 1) (drop 3 l))

unfoldable pub told_of : Report → Told
told_of r = record { number = SD.reply_number r.reply; posted = map (λ x. record { receiver = x.receiver; frame = build x.says }) r.sends }

-- ---- what is proved

module _ (H : List ℕ → List ℕ) (g : Params) (me : ℕ) where
  -- the server is made from the initial value v; a and initial are its state area and the initial block's as lent
  module _ (v trace a initial out : List ℕ) where
    abbrev pub fresh : SD.Constructed
    fresh = SD.construction H g me v a initial

    abbrev pub reports : List Report
    reports = (played_from H g me fresh (trace_of trace).entries).reports

    -- the playback p is the steps hs, whatever areas were lent to these
    pub record IsSteps (p : Outcome) (hs : List Handed) : Type 0 where
      pub server : p.server ≡ (taken_from H g me fresh hs).server
      pub area : p.area ≡ (taken_from H g me fresh hs).area
      pub initial_is : p.initial ≡ fresh.initial
      pub agree : AllAgree hs (taken_from H g me fresh hs).outcomes reports
      -- and the out area reads back to the replies and the frames sent, with their receivers
      pub told : told_in (length (trace_of trace).entries) p.out ≡ map told_of reports

  -- the trace u ++ w is cut after the last entry of u: what u's entries gave is given again, and w's entries go on from there
  pub record GoesOn (w : List ℕ) (p q : Outcome) (x : Summed) : Type 0 where
    pub server : q.server ≡ (played H g me p.initial p.server p.area (trace_of w).entries).server
    pub area : q.area ≡ (played H g me p.initial p.server p.area (trace_of w).entries).area
    pub out : take x.bytes q.out ≡ take x.bytes p.out

  -- p plays a journal that has an entry for each of the steps hs, and gives the state that the server had after the last of them
  pub record Restarts (x : SD.Constructed) (hs : List Handed) (p : Outcome) : Type 0 where
    pub summary : Summed
    pub answer : p.answer ≡ gives summary
    pub entries : summary.entries ≡ length hs
    pub ending : summary.ending ≡ whole
    pub server : p.server ≡ (taken_from H g me x hs).server
    pub area : p.area ≡ (taken_from H g me x hs).area
    pub initial : p.initial ≡ x.initial

-- nothing is changed
pub record Unchanged (p : Outcome) (a initial out : List ℕ) : Type 0 where
  pub area_as_lent : p.area ≡ a
  pub initial_as_lent : p.initial ≡ initial
  pub out_as_lent : p.out ≡ out

pub record Theorem (H : List ℕ → List ℕ) (g : Params) (me : ℕ) : Type 0 where
  -- refusals 1, 2, 3 and 10: the call changes nothing
  pub refused : (v trace a initial out : List ℕ) (n : ℕ) → (playback H g me v trace a initial out).answer ≡ turned_down n
      → Unchanged (playback H g me v trace a initial out) a initial out
  -- refusal 10 of the out area exactly if it is shorter than the entries played need; so a trace that closes at its first entry needs none
  pub room : (count out : ℕ) → (out_test g count out ≡ fine → count * entry_need g ≤ out) × (count * entry_need g ≤ out → out_test g count out ≡ fine)
  pub no_room : out_test g 0 0 ≡ fine
  -- "They must equal the steps taken one after another, each with room enough"
  pub steps : (v trace a initial out : List ℕ) → Bytes trace → (x : Summed) → (playback H g me v trace a initial out).answer ≡ gives x
      → (hs : List Handed) → entries_of hs ≡ (trace_of trace).entries → AllEnough g hs
      → IsSteps H g me v trace a initial out (playback H g me v trace a initial out) hs
  -- "A turned-down frame doesn't end the playback": it is reported by its number, and the next frame is handed to the same server
  pub turned_down_lem : (initial : List ℕ) (s : Server) (a : List ℕ) (e : TraceEntry) (es : List TraceEntry) (n : ℕ)
      → (report_of H g me initial s a e).reply ≡ turned_down n
      → played H g me initial s a (e ∷ es)
      ≡ record {
        server = (played H g me initial s a es).server;
        area = (played H g me initial s a es).area;
        reports = record { reply = turned_down n; sends = [] } ∷ (played H g me initial s a es).reports;
      }
  pub turned_down_bytes : (n : ℕ) → report_bytes (record { reply = turned_down n; sends = [] }) ≡ n ∷ 0 ∷ 0 ∷ []
  -- a trace that is cut after an entry plays the same up to there
  pub cut : (v u w a initial out out' : List ℕ) → Bytes u → (trace_of u).closing ≡ 0 → (x y : Summed)
      → (playback H g me v u a initial out).answer ≡ gives x → (playback H g me v (u ++ w) a initial out').answer ≡ gives y
      → GoesOn H g me w (playback H g me v u a initial out) (playback H g me v (u ++ w) a initial out') x
  -- so playing a journal gives the state that the server had: what a restart needs. The areas are lent with the same bytes both times
  pub restart : (v a initial out : List ℕ) (hs : List Handed) → (SD.construction H g me v a initial).reply ≡ gives 0 → AllEnough g hs
      → AllWritable (entries_of hs) → length hs * entry_need g ≤ length out
      → Restarts H g me (SD.construction H g me v a initial) hs (playback H g me v (trace_bytes (entries_of hs)) a initial out)
