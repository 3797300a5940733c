-- The whole outcome of a host's calls on a server: the answer, and every byte of the areas that the host lends. These are definitions.
use Rattle.std.specs.Prelude.{ℕ, List}
use Rattle.sha256.specs.Hash.{digest_of}
use Rattle.blocks.specs.declared.Params.{Params}
use Rattle.frame.specs.declared.Party.{Party}
use Rattle.server_deliver.specs.Answers.{server_answer}
use Rattle.server_deliver.specs.Records.{ByteOutcome, byte_delivery, ByteConstructed, byte_construction}
use Rattle.playback.specs.Answers.{playback_answer}
use Rattle.playback.specs.Records.{BytesPlayed, byte_playback}
use Rattle.playback.specs.Resume.{areas, Resumption, byte_resumption}

-- ---- a fresh server

pub record Made : Type 0 where
  pub answer : ℕ
  pub area : List ℕ
  pub initial : List ℕ
  pub state : List ℕ

abbrev pub made : ℕ → List ℕ → List ℕ → List ℕ → Made
made x area initial state = record { answer = x; area = area; initial = initial; state = state }

abbrev pub made_of : ByteConstructed → Made
made_of x = made (server_answer x.reply) x.area x.initial x.state

unfoldable pub make_call : Params → ℕ → List ℕ → List ℕ → List ℕ → List ℕ → Made
make_call g me value area initial state = made_of (byte_construction digest_of g me value area initial state)

-- ---- a frame is handed in

pub record ServerGot : Type 0 where
  pub answer : ℕ
  pub area : List ℕ
  pub state : List ℕ
  pub out : List ℕ
  pub to : List ℕ

abbrev pub server_got : ℕ → List ℕ → List ℕ → List ℕ → List ℕ → ServerGot
server_got x area state out to = record { answer = x; area = area; state = state; out = out; to = to }

abbrev pub server_got_of : ByteOutcome → ServerGot
server_got_of x = server_got (server_answer x.reply) x.area x.state x.out x.to

unfoldable pub server_call : Params → ℕ → Party → List ℕ → List ℕ → List ℕ → List ℕ → List ℕ → List ℕ → ServerGot
server_call g me from f area initial state out to = server_got_of (byte_delivery digest_of g me from f area initial state out to)

-- ---- a trace is played back

pub record PlayedBack : Type 0 where
  pub answer : ℕ
  pub area : List ℕ
  pub initial : List ℕ
  pub state : List ℕ
  pub out : List ℕ

abbrev pub played_back : ℕ → List ℕ → List ℕ → List ℕ → List ℕ → PlayedBack
played_back x area initial state out = record { answer = x; area = area; initial = initial; state = state; out = out }

abbrev pub played_back_of : BytesPlayed → PlayedBack
played_back_of x = played_back (playback_answer x.answer) x.area x.initial x.state x.out

unfoldable pub playback_call : Params → ℕ → List ℕ → List ℕ → List ℕ → List ℕ → List ℕ → List ℕ → PlayedBack
playback_call g me value trace area initial state out = played_back_of (byte_playback digest_of g me value trace area initial state out)

-- ---- a server goes on from a kept record

pub record Resumed : Type 0 where
  pub answer : ℕ
  pub area : List ℕ
  pub state : List ℕ
  pub out : List ℕ
  pub to : List ℕ

abbrev pub resumed_to : ℕ → List ℕ → List ℕ → List ℕ → List ℕ → Resumed
resumed_to x area state out to = record { answer = x; area = area; state = state; out = out; to = to }

abbrev pub resumed_of : Resumption → Resumed
resumed_of x = resumed_to (playback_answer x.answer) x.areas.area x.areas.state x.areas.out x.areas.to

unfoldable pub resume_call : Params → ℕ → List ℕ → List ℕ → List ℕ → List ℕ → List ℕ → List ℕ → Resumed
resume_call g me trace area initial state out to = resumed_of (byte_resumption digest_of g me initial trace (areas area state out to))
