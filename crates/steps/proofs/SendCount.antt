-- How many frames a step sends: a server at most 9n + 136, a client at most n. Assumes nothing.
use Prim.Native.Nat.{ℕ, ◌+◌, ◌*◌, ◌≤◌}
use native.Mathlib.Omega.{arith}
use mathlib.Core.Path.{◌≡◌, refl}
use mathlib.Core.List.{List}
use lib.ListN.{length}
use Rattle.blocks.specs.declared.Params.{Params}
use Rattle.frame.specs.declared.Party.{Party}
use Rattle.frame.specs.Messages.{Body, read_complete, Message, message, to_all, number_in}
use Rattle.server_rules.specs.declared.Server.{Server}
use Rattle.server_rules.specs.Steps as S
use Rattle.client_rules.specs.declared.Client.{Client}
use Rattle.client_rules.specs.State.{largest}
use Rattle.client_rules.specs.Steps as C
use Rattle.client_rules.proofs.Shapes.{Shape, idle, notes, hears, shuts, counts, ends, waits, completes}
use Rattle.client_rules.proofs.Shapes.{sends as disperses, shape_of as client_shape}
use Rattle.client_rules.specs.Beginning as CB
use Rattle.server_rules.proofs.Casts.{all_length}
use Rattle.server_rules.proofs.Shapes.{shape_of}
use Rattle.server_rules.proofs.Speaking.{step_few}

all_few : (g : Params) (f : ℕ → Message) → length (to_all g f) ≤ g.n
all_few g f = let w = all_length g f in omega (arith, w)

module _ (H : List ℕ → List ℕ) (g : Params) (me : ℕ) where
  -- "A server's out area must now hold 9n + 136 largest frames" (request F-9)
  pub server_sends : (s : Server) (a initial : List ℕ) (from : Party) (m : Message) → length (S.effect H g me s a initial from m).sends ≤ 9 * g.n + 136
  server_sends s a initial from m = step_few H g me s a initial (number_in from) m.client m.sequence (shape_of H g me s a initial from m)

  -- ---- a client: also that the answer's case tells how many

  -- how many frames went out with an event; m are said where nothing ended
  abbrev pub event_sends : C.Event → ℕ → ℕ
  event_sends C.nothing m = m
  event_sends C.written m = 0
  event_sends C.out_of_stamps m = 0
  event_sends (C.stopped x) m = g.n

  pub record Sends (r : C.Effect) : Type 0 where
    pub few : length r.sends ≤ g.n
    pub event : event_sends r.event (length r.sends) ≡ length r.sends

  none_sent : (s : Client) (a : List ℕ) → Sends (C.quiet s a)
  none_sent s a = record { few = omega arith; event = refl }

  shape_sends : (s : Client) (a v : List ℕ) (j : ℕ) {b : Body} {r : C.Effect} → Shape H g me s a v j b r → Sends r
  shape_sends s a v j (idle b) = none_sent s a
  shape_sends s a v j (notes T p) = none_sent _ a
  shape_sends s a v j (hears b k z) = none_sent _ a
  shape_sends s a v j (disperses b k z l) = record { few = all_few g _; event = refl }
  shape_sends s a v j (shuts b k z l) = record { few = omega arith; event = refl }
  shape_sends s a v j (counts z) = none_sent _ a
  shape_sends s a v j (ends z) = record { few = omega arith; event = refl }
  shape_sends s a v j (waits x e {s'} {a'} k z) = none_sent s' a'
  shape_sends s a v j (completes x e {s'} k y z) =
      let w = all_length g (λ i. message me s'.reads read_complete) in
      record { few = omega (arith, w); event = omega (arith, w) }

  -- "The client's largest need is now n frames" (request F-4)
  pub client_sends : (s : Client) (a v : List ℕ) (from : Party) (m : Message) → Sends (C.effect H g me s a v from m)
  client_sends s a v from m = shape_sends s a v (number_in from) (client_shape H g me s a v from m)

  pub read_sends : (s : Client) → length (CB.open_read g me s).sends ≤ g.n
  unfolding CB.open_read
  read_sends s = all_few g _

  pub write_sends : (s : Client) → length (CB.open_write g me s).sends ≤ g.n
  unfolding CB.open_write
  write_sends s = all_few g _
