-- A playback whose server's record is lent as bytes: the whole outcome, every byte of the lent areas. These are definitions.
use Rattle.std.specs.Prelude.{ℕ, List, length, ltb}
use Rattle.std.proofs.lemmas.List.Edits.{sets}
use Rattle.area.specs.Area.{pick}
use Rattle.area.specs.Responses.{Response}
use Rattle.blocks.specs.declared.Params.{Params}
use Rattle.frame.specs.Refusals.{refused, answered_by, and_then}
use Rattle.frame.specs.Params.{params_test}
use Rattle.client_rules.specs.Beginning.{length_test}
use Rattle.server_rules.specs.declared.Server.{Server}
use Rattle.layout.specs.Left.{left_by}
use Rattle.layout.specs.Servers.{server_size, server_bytes}
use Rattle.playback.specs.Playback.{whole, Summed, Outcome, playback}

pub record BytesPlayed : Type 0 where
  pub answer : Response Summed
  pub area : List ℕ
  pub initial : List ℕ
  pub state : List ℕ
  pub out : List ℕ

abbrev pub bytes_played : Response Summed → List ℕ → List ℕ → List ℕ → List ℕ → BytesPlayed
bytes_played x area initial state out = record { answer = x; area = area; initial = initial; state = state; out = out }

-- the record's bytes of the server after the last entry; "a refusal changes nothing"
unfoldable pub played_after : Response Summed → Server → List ℕ → List ℕ
played_after a s state = left_by a state (sets state 0 (server_bytes s))

unfoldable pub played_at : Outcome → List ℕ → BytesPlayed
played_at x state = bytes_played x.answer x.area x.initial (played_after x.answer x.server state) x.out

-- the area for the record is short: refusal 10, unless one with a lower number applies; the initial value has length v
unfoldable pub short_playback : Params → ℕ → ℕ → Response Summed
short_playback g me v =
    answered_by (and_then (params_test g me g.n) (and_then (length_test g v) (refused 10))) (record { entries = 0; bytes = 0; ending = whole })

unfoldable pub byte_playback : (List ℕ → List ℕ) → Params → ℕ → List ℕ → List ℕ → List ℕ → List ℕ → List ℕ → List ℕ → BytesPlayed
byte_playback H g me value trace area initial state out =
    pick (ltb (length state) server_size) (bytes_played (short_playback g me (length value)) area initial state out)
    (played_at (playback H g me value trace area initial out) state)
