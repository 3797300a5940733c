-- The acceptances of a step, as the code makes them in a record's bytes. The entry point's promise (Records.antt) does not speak of them.
use Rattle.std.specs.Prelude.{ℕ, ◌+◌, ◌*◌, ◌≤◌, List, [], ◌∷◌}
use Rattle.area.specs.Area.{pick}
use Rattle.blocks.specs.declared.Params.{Params}
use Rattle.frame.specs.declared.Place.{Place}
use Rattle.frame.specs.declared.Stamp.{Stamp}
use Rattle.frame.specs.Params.{Bounded, largest_frame}
use Rattle.frame.specs.Stamps.{older}
use Rattle.frame.specs.Chunks.{area_bytes}
use Rattle.frame.specs.Outbox.{Outbox, sent, Room}
use Rattle.server_rules.specs.State.{fresh_slot}
use Rattle.server_rules.specs.Scopes.{scope_of}
use Rattle.server_rules.specs.Steps.{Write, stamp_of, accept, free}
use Rattle.server_accept.specs.Telling.{write_in}
use Rattle.layout.specs.Servers.{server_size, server_in, slot_sets}

-- what acceptances leave: the record's bytes, the state area and the outbox
pub record Settled : Type 0 where
  pub state : List ℕ
  pub area : List ℕ
  pub box : Outbox

abbrev pub settled : List ℕ → List ℕ → Outbox → Settled
settled l a q = record { state = l; area = a; box = q }

-- the larger of the server's stamp and that of a write
abbrev pub newest : Stamp → Write → Stamp
newest x w = pick (older x (stamp_of w)) (stamp_of w) x

-- the record's bytes after the writes ws were accepted one after the other, x being the stamp before
unfoldable pub opened_in : Stamp → List Write → List ℕ → List ℕ
opened_in x [] l = l
opened_in x (w ∷ ws) l = opened_in (newest x w) ws (slot_sets l w.client (newest x w) (fresh_slot (w.sequence + 1)))

-- the write of client c is accepted
unfoldable pub accepted_in : Params → ℕ → List ℕ → List ℕ → Outbox → Settled
accepted_in g c l a q =
    let s = server_in l in
    let w = write_in g (scope_of s c) c a in
    settled (opened_in s.stamp (w ∷ []) l) (accept g s a w).area (sent q (accept g s a w).sends)

-- what can be accepted is, in m rounds at most
unfoldable pub freed_in : Params → ℕ → List ℕ → List ℕ → Outbox → Settled
freed_in g m l a q = let x = free g m (server_in l) a in settled (opened_in (server_in l).stamp x.accepted l) x.area (sent q x.sends)

-- what that asks: of each write at most eight values, an ack, and reports to n servers and eight clients
pub record RoundsRoom (m : ℕ) (g : Params) (state area : ℕ) (p : Place) (out to : ℕ) : Type 0 where
  pub bounded : Bounded g
  pub record_whole : server_size ≤ state
  pub whole : area_bytes ≤ area
  pub room : Room p (m * (g.n + 17)) (largest_frame g) out to
