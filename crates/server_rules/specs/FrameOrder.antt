-- In which order the frames of one step go out, requests F-1 and F-9: "On acceptance, value frames go out by rising client number. They follow any ready
-- frames of that step and stand before the ack", and after it the reports, "to all servers and then to clients 1 to 8". They lie end to end in the out area
-- (`outcome_of` of Delivery.antt). These are definitions; that every step keeps to them is proved (proofs/Ordered.antt).
use Rattle.std.specs.Prelude.{ℕ, suc, ◌+◌, ◌≤◌, ◌≡◌, List, [], ◌∷◌, ◌++◌}
use Rattle.blocks.specs.declared.Params.{Params}
use Rattle.frame.specs.declared.Party.{Party}
use Rattle.frame.specs.declared.Party.TheVariants as P
use Rattle.frame.specs.Messages.{Body, get_stamp, ack, ask_read, read_complete, stamp_is, block_is, value_is, report, Sending}
use Rattle.server_rules.specs.declared.Server.{Server}
use Rattle.server_rules.specs.Steps.{Write, Effect}
use Rattle.server_rules.specs.Delivery.{delivered}

-- the places of an acceptance's frames: those of values to clients 1 to 8, of the ack, of the reports to servers 1 to n and to clients 1 to 8; of other frames
-- to servers 1 to n the first n
abbrev pub place_in : ℕ → Party → Body → ℕ
place_in n (P.Server j) get_stamp = j
place_in n (P.Server j) ack = j
place_in n (P.Server j) ask_read = j
place_in n (P.Server j) read_complete = j
place_in n (P.Server j) (stamp_is T) = j
place_in n (P.Server j) (block_is z o) = j
place_in n (P.Server j) (value_is x e) = j
place_in n (P.Server j) (report T) = 9 + j
place_in n (P.Client c) get_stamp = 9
place_in n (P.Client c) ack = 9
place_in n (P.Client c) ask_read = 9
place_in n (P.Client c) read_complete = 9
place_in n (P.Client c) (stamp_is T) = 9
place_in n (P.Client c) (block_is z o) = 9
place_in n (P.Client c) (value_is x e) = c
place_in n (P.Client c) (report T) = 9 + n + c

-- frames by rising place, from place k on
pub data Rising (n : ℕ) : ℕ → List Sending → Type 0 where
  done : {k : ℕ} → Rising n k []
  next : (k : ℕ) (x : Sending) {xs : List Sending}
      → k ≤ place_in n x.receiver x.says.body
      → Rising n (suc (place_in n x.receiver x.says.body)) xs
      → Rising n k (x ∷ xs)

-- the frames of accepted writes, one after the other
pub data Accepting (n : ℕ) : List Write → List Sending → Type 0 where
  none : Accepting n [] []
  also : (w : Write) {ws : List Write} (xs : List Sending) {ys : List Sending} → Rising n 1 xs → Accepting n ws ys → Accepting n (w ∷ ws) (xs ++ ys)

-- what goes out before anything is accepted, and the frames of those accepted
pub record InOrder (n : ℕ) (r : Effect) : Type 0 where
  pub first : List Sending
  pub rest : List Sending
  pub is : r.sends ≡ first ++ rest
  pub rising : Rising n 0 first
  pub accepting : Accepting n r.accepted rest

-- the frames of every delivery to any server
abbrev pub FramesInOrder : Type 0
FramesInOrder = (H : List ℕ → List ℕ) (g : Params) (me : ℕ) (s : Server) (a initial : List ℕ) (from : Party) (f out to : List ℕ)
    → InOrder g.n (delivered H g me s a initial from f out to)
