-- Runs, document 01: what is given, the calls on honest parties, and the world that they make. A call does what the definitions say
-- that the entry points' promises cite: `delivered`, `read_begun`, `write_begun`, and `construction` at the start. These are definitions.
use Rattle.frame.specs.Refusals.{Verdict}
use Rattle.std.specs.Prelude.{ℕ, ◌≤◌, Bool, cond, ◌≡◌, List, [], ◌∷◌, length, eqb, Ok, Err}
use Rattle.quorum.specs.Quorum.{Faults}
use Rattle.area.specs.Area.{Bytes, pick}
use Rattle.blocks.specs.declared.Params.{Params}
use Rattle.frame.specs.declared.Party.{Party}
use Rattle.frame.specs.declared.Party.TheVariants as P
use Rattle.frame.specs.Params.{width, Bounded}
use Rattle.frame.specs.Messages.{Sending}
use Rattle.frame.specs.Chunks.{area_bytes}
use Rattle.server_rules.specs.declared.Server.{Server}
use Rattle.server_rules.specs.Steps as S
use Rattle.server_rules.specs.Delivery as SD
use Rattle.client_rules.specs.declared.Client.{Client}
use Rattle.client_rules.specs.State.{fresh_client, writing}
use Rattle.client_rules.specs.Steps as C
use Rattle.client_rules.specs.Delivery as CD
use Rattle.client_rules.specs.Beginning as CB

-- ---- what is given

-- "A run has one n, t, k, L and initial value": the digest function, the parameters, the initial value, who is false, and the areas that the hosts
-- lend at the start, of any content
pub record Setup : Type 0 where
  pub H : List ℕ → List ℕ
  pub g : Params
  pub initial_value : List ℕ
  pub faulty_server : ℕ → Bool
  pub faulty_client : ℕ → Bool
  pub state_areas : ℕ → List ℕ
  pub initial_areas : ℕ → List ℕ
  pub rows_areas : ℕ → List ℕ

-- The parameters are within their bounds, "at most t false servers, any false clients", and the areas lent to servers are large enough for the constructor. A
-- client's rows area may have any length.
pub record Sound (Z : Setup) : Type 0 where
  pub bounded : Bounded Z.g
  pub faults : Faults Z.g.n Z.g.t Z.faulty_server
  pub initial_size : length Z.initial_value ≡ Z.g.size
  pub initial_bytes : Bytes Z.initial_value
  pub state_room : (j : ℕ) → area_bytes ≤ length (Z.state_areas j)
  pub initial_room : (j : ℕ) → width Z.g ≤ length (Z.initial_areas j)

-- a digest function: of it only its length is assumed
abbrev pub DigestSize : (List ℕ → List ℕ) → Type 0
DigestSize H = (b : List ℕ) → length (H b) ≡ 32

-- ---- calls: "a client begins a read or a write of any bytes, or a frame with its sender is handed in"

-- Server or client, named sender, frame; for a client what its host lends as a value where no write is open, and a result area; the out area and the
-- to area. "Its out area has any size and content."
pub data Call : Type 0 where
  to_server : ℕ → Party → List ℕ → List ℕ → List ℕ → Call
  to_client : ℕ → Party → List ℕ → List ℕ → List ℕ → List ℕ → List ℕ → Call
  begin_read : ℕ → List ℕ → List ℕ → Call
  begin_write : ℕ → List ℕ → List ℕ → List ℕ → Call

-- the party that is called, and answers
abbrev pub caller : Call → Party
caller (to_server i from f out to) = P.Server i
caller (to_client c from f lent result out to) = P.Client c
caller (begin_read c out to) = P.Client c
caller (begin_write c v out to) = P.Client c

-- ---- the world

-- a server with its state area
pub record ServerSide : Type 0 where
  pub server : Server
  pub area : List ℕ

-- a client with its rows area and the value of the last write it began
pub record ClientSide : Type 0 where
  pub client : Client
  pub area : List ℕ
  pub value : List ℕ

pub record World : Type 0 where
  pub servers : ℕ → ServerSide
  pub clients : ℕ → ClientSide

-- f with v at i
abbrev pub put {ℓ} : {A : Type ℓ} → (ℕ → A) → ℕ → A → ℕ → A
put f i v j = cond (eqb j i) v (f j)

module _ (Z : Setup) where
  open Z use {H, g, initial_value, state_areas, initial_areas, rows_areas}

  -- the initial area that server i's host lends, with what the constructor wrote there
  abbrev pub initial_of : ℕ → List ℕ
  initial_of i = (SD.construction H g i initial_value (state_areas i) (initial_areas i)).initial

  -- "All start fresh."
  unfoldable pub start : World
  start = record {
    servers = λ i. let m = SD.construction H g i initial_value (state_areas i) (initial_areas i) in record { server = m.server; area = m.area };
    clients = λ c. record { client = fresh_client; area = rows_areas c; value = [] };
  }

  -- ---- what a call does: "Each call gets what that party's last returned or left, its own number, the initial block and its open write's value"

  abbrev pub server_effect : World → ℕ → Party → List ℕ → List ℕ → List ℕ → S.Effect
  server_effect w i from f out to = SD.delivered H g i (w.servers i).server (w.servers i).area (initial_of i) from f out to

  -- the value that client c's host lends with a frame: that of the open write; where none is open, anything
  abbrev pub lent_to : World → ℕ → List ℕ → List ℕ
  lent_to w c lent = pick (writing (w.clients c).client.phase) (w.clients c).value lent

  abbrev pub client_effect : World → ℕ → Party → List ℕ → List ℕ → List ℕ → List ℕ → List ℕ → C.Effect
  client_effect w c from f lent result out to =
      CD.delivered H g c (w.clients c).client (w.clients c).area (lent_to w c lent) from f result out to

  abbrev pub read_effect : World → ℕ → List ℕ → List ℕ → C.Effect
  read_effect w c out to = CB.read_begun g c (w.clients c).client out to

  abbrev pub write_effect : World → ℕ → List ℕ → List ℕ → List ℕ → C.Effect
  write_effect w c v out to = CB.write_begun g c (w.clients c).client v out to

  -- the value of the last write that was begun
  abbrev pub lent_by : Verdict → List ℕ → List ℕ → List ℕ
  lent_by (Ok _) v old = v
  lent_by (Err r) v old = old

  abbrev pub server_left : S.Effect → ServerSide
  server_left m = record { server = m.server; area = m.area }

  -- after a delivery, and after a beginning, which leaves the rows area
  abbrev pub client_done : C.Effect → List ℕ → ClientSide
  client_done m v = record { client = m.client; area = m.area; value = v }

  abbrev pub client_left : C.Effect → List ℕ → List ℕ → ClientSide
  client_left m a v = record { client = m.client; area = a; value = v }

  unfoldable pub step : World → Call → World
  step w (to_server i from f out to) = record {
    servers = put w.servers i (server_left (server_effect w i from f out to));
    clients = w.clients;
  }
  step w (to_client c from f lent result out to) = record {
    servers = w.servers;
    clients = put w.clients c (client_done (client_effect w c from f lent result out to) (w.clients c).value);
  }
  step w (begin_read c out to) = record {
    servers = w.servers;
    clients = put w.clients c (client_left (read_effect w c out to) (w.clients c).area (w.clients c).value);
  }
  step w (begin_write c v out to) = record {
    servers = w.servers;
    clients = put w.clients c (client_left (write_effect w c v out to) (w.clients c).area
        (lent_by (CB.write_test g c (w.clients c).client v out to) v (w.clients c).value));
  }

  -- the world after a list of calls, latest first
  unfoldable pub run : List Call → World
  run [] = start
  run (k ∷ ks) = step (run ks) k

  -- what a call's answer sends; it is in the answer's out and to areas (Answers.antt in proofs)
  unfoldable pub sends : World → Call → List Sending
  sends w (to_server i from f out to) = (server_effect w i from f out to).sends
  sends w (to_client c from f lent result out to) = (client_effect w c from f lent result out to).sends
  sends w (begin_read c out to) = (read_effect w c out to).sends
  sends w (begin_write c v out to) = (write_effect w c v out to).sends
