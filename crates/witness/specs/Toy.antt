-- What the computed runs share: toy digests of 32 bytes, so that all computes, and a setup of four servers, of which one is false. These are definitions.
use Rattle.std.specs.Prelude.{ℕ, Bool, List, [], ◌++◌, take, replicate, eqb}
use Rattle.blocks.specs.declared.Params.{Params}
use Rattle.frame.specs.declared.Party.{Party}
use Rattle.frame.specs.Params.{width, server_frames, client_frames, out_room, to_room}
use Rattle.frame.specs.Messages.{Message}
use Rattle.frame.specs.Frames.{build}
use Rattle.frame.specs.Chunks.{area_bytes, rows_bytes}
use Rattle.runs.specs.World.{Setup, Call, to_server, to_client, begin_read, begin_write}

-- the first 32 bytes of a block followed by zeros
unfoldable pub toy : List ℕ → List ℕ
toy b = take 32 (b ++ replicate 32 0)

unfoldable pub zeros : ℕ → List ℕ
zeros n = replicate n 0

-- the largest time but one
unfoldable pub enormous : ℕ
enormous = 18446744073709551614

-- n = 4, t = 1
unfoldable pub four : ℕ → ℕ → Params
four k size = record { n = 4; t = 1; k = k; size = size }

-- the false server's number, and who of the clients is false; all lent areas are zeros and have their least lengths
unfoldable pub setup : (List ℕ → List ℕ) → Params → List ℕ → ℕ → (ℕ → Bool) → Setup
setup H g v i faulty = record {
  H = H;
  g = g;
  initial_value = v;
  faulty_server = λ j. eqb j i;
  faulty_client = faulty;
  state_areas = λ j. zeros area_bytes;
  initial_areas = λ j. zeros (width g);
  rows_areas = λ c. zeros rows_bytes;
}

-- calls with out and to areas of their least lengths: a message's frame is handed to server i or client c, a read or a write begins. Where no write is
-- open no value is lent.
module _ (g : Params) where
  unfoldable pub hand_server : ℕ → Party → Message → Call
  hand_server i from m = to_server i from (build m) (zeros (out_room g (server_frames g))) (zeros (to_room (server_frames g)))

  unfoldable pub hand_client : ℕ → Party → Message → Call
  hand_client c from m = to_client c from (build m) [] (zeros g.size) (zeros (out_room g (client_frames g))) (zeros (to_room (client_frames g)))

  unfoldable pub start_read : ℕ → Call
  start_read c = begin_read c (zeros (out_room g (client_frames g))) (zeros (to_room (client_frames g)))

  unfoldable pub start_write : ℕ → List ℕ → Call
  start_write c v = begin_write c v (zeros (out_room g (client_frames g))) (zeros (to_room (client_frames g)))
