-- A frame that is handed in, stage by stage: what the stages require, and what they promise. The entry point's promise (Records.antt) does not speak of
-- stages. These are definitions.
use Rattle.std.specs.Prelude.{ℕ, ◌+◌, ◌≤◌, ◌≡◌, List, false, ltb, Result}
use Rattle.area.specs.Area.{pick}
use Rattle.blocks.specs.declared.Params.{Params}
use Rattle.sha256.specs.Hash.{digest_of}
use Rattle.frame.specs.Frames.{Opened}
use Rattle.frame.specs.declared.Refusal.{Refusal}
use Rattle.frame.specs.Refusals.{and_then, refused, Verdict, fine}
use Rattle.frame.specs.Params.{Bounded, largest_frame, server_frames, params_test}
use Rattle.frame.specs.Frames.{body_at, retired, body_length, header_in, frame_test, opened_by, message_in}
use Rattle.frame.specs.Outbox.{first_place, Room}
use Rattle.server_rules.specs.declared.Reader.{Reader}
use Rattle.server_rules.specs.declared.Scope.{Scope}
use Rattle.server_rules.specs.declared.Server.{Server}
use Rattle.server_rules.specs.Tests.{message_test}
use Rattle.server_rules.specs.Steps.{effect}
use Rattle.server_rules.specs.Delivery.{Outcome}
use Rattle.server.specs.declared.Call.{Call}
use Rattle.server.specs.declared.Taken.{Taken}
use Rattle.client_rules.specs.Beginning.{length_test}
use Rattle.layout.specs.Servers.{server_size, server_in}
use Rattle.server.specs.Stages.{Holds, outcome_in, answered, Lent}
use Rattle.server_deliver.specs.Records.{ByteOutcome, outcome_at, rooms_test}

-- ---- refusals 1 to 10

-- a frame passes these tests, and this is its header, or the lowest refusal; of the lent areas only the lengths count, and the server's state is not
-- looked at
unfoldable pub admitted : Params → ℕ → List ℕ → ℕ → ℕ → ℕ → ℕ → ℕ → Opened
admitted g me f state area initial out to =
    opened_by (and_then (params_test g me g.n) (and_then (frame_test g f) (rooms_test g state area initial out to))) (header_in f)

-- ---- refusals 11 to 14, and the step

-- what holds of a frame of f bytes that passed refusals 1 to 10, where the lent areas have these lengths
pub record Handed (k : Call) (f area out to : ℕ) : Type 0 where
  pub lent : Lent k.params k.header.client area first_place (server_frames k.params) out to
  pub own_low : 1 ≤ k.me
  pub own_high : k.me ≤ k.params.n
  pub kind_low : 1 ≤ k.header.kind
  pub kind_high : k.header.kind ≤ 13
  pub kind_used : retired k.header.kind ≡ false
  pub frame_is : f ≡ body_at + body_length k.params k.header.kind

-- the same for a client's own frame of its write, whose step does not look at the state area
pub record HandedOwn (k : Call) (f out to : ℕ) : Type 0 where
  pub bounded : Bounded k.params
  pub room : Room first_place (server_frames k.params) (largest_frame k.params) out to
  pub own_low : 1 ≤ k.me
  pub own_high : k.me ≤ k.params.n
  pub frame_is : f ≡ body_at + body_length k.params k.header.kind

-- the outcome of a frame f that passed refusals 1 to 10
unfoldable pub step_for : (List ℕ → List ℕ) → Call → Server → List ℕ → List ℕ → List ℕ → List ℕ → List ℕ → Outcome
step_for H k s a initial f out to =
    let m = message_in k.params k.header f in
    answered (message_test H k.params k.me s k.from m) s a (effect H k.params k.me s a initial k.from m) out to

-- for every server with these readers in which the frame's client has the scope s, what the code leaves is that outcome
abbrev pub Stepping : Scope → List Reader → Call → List ℕ → List ℕ → List ℕ → List ℕ → List ℕ → Result Taken Refusal → List ℕ → List ℕ → List ℕ → Type 0
Stepping s rs k a₀ initial f out₀ to₀ r a out to =
    (w : Server) → Holds w k.header.client s rs → outcome_in w k.header.client r a out to ≡ step_for digest_of k w a₀ initial f out₀ to₀

-- ---- the record's bytes

-- the frame k is one after which nothing can be accepted
pub record Asks (k : Call) : Type 0 where
  pub no_echo : k.header.kind ≡ 4 → ⊥
  pub no_ready : k.header.kind ≡ 5 → ⊥
  pub no_report : k.header.kind ≡ 13 → ⊥

-- the outcome of a frame f that was let in
unfoldable pub byte_step : (List ℕ → List ℕ) → Call → List ℕ → List ℕ → List ℕ → List ℕ → List ℕ → List ℕ → ByteOutcome
byte_step H k f a initial state out to =
    outcome_at (step_for H k (server_in state) a initial f out to)
    (effect H k.params k.me (server_in state) a initial k.from (message_in k.params k.header f)) k.header k.from state

-- ---- a fresh server

-- refusals 1 to 3, and 10 of the record's area: the initial value has length v
unfoldable pub fresh_test : Params → ℕ → ℕ → ℕ → Verdict
fresh_test g me v state =
    and_then (params_test g me g.n) (and_then (length_test g v) (pick (ltb state server_size) (refused 10) fine))
