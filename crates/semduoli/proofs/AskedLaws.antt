-- What a host is answered when it asks something of a record, from what the code's calls promise. Assumes nothing.
use Prim.Native.Nat.{ℕ, ◌*◌, ◌%◌, ◌<◌, ◌≤◌}
use mathlib.Core.Path.{◌≡◌, ap, ◌∙◌}
use mathlib.Core.List.{List}
use lib.ListN.{length}
use lib.Seq.{sets}
use lib.Dec.{ltb}
use Rattle.area.specs.Area.{pick}
use Rattle.frame.specs.declared.Stamp.{Stamp}
use Rattle.frame.specs.Stamps.{last_client}
use Rattle.frame.specs.Frames.{stamp_bytes}
use Rattle.client_rules.specs.declared.Client.{Client}
use Rattle.server_rules.specs.declared.Scope.{Scope}
use Rattle.server_rules.specs.State.{slot_of}
use Rattle.server_rules.specs.Scopes.{scope_of}
use Rattle.layout.specs.Fields.{stamp_size, stamp_at}
use Rattle.layout.specs.Clients.{client_size, client_at, client_in}
use Rattle.layout.specs.Servers.{server_size, server_at, server_in}
use Rattle.semduoli.specs.Calls.{Wrote, wrote}
use Rattle.site.specs.Answers.{open_answer}
use Rattle.semduoli.specs.Asked.{open_of, client_open_call, server_stamp_call, server_open_call}
use Rattle.semduoli.proofs.Laws.{enough, short}

module _ (state : List ℕ) where
  pub open_short : length state < client_size → 10 ≡ client_open_call state
  unfolding client_open_call
  open_short h = short (length state) client_size 10 (open_of (client_in state)) h

  pub open_done : (s : Client) (x : ℕ) → client_size ≤ length state → s ≡ client_at state 0 → x ≡ open_answer s.phase s.writes s.reads
      → x ≡ client_open_call state
  unfolding client_open_call open_of client_in
  open_done s x h p e = e ∙ ap open_of p ∙ enough (length state) client_size 10 (open_of (client_in state)) h

module _ (state stamp : List ℕ) where
  abbrev stamped : Wrote
  stamped = wrote 0 (sets stamp 0 (stamp_bytes (server_in state).stamp))

  pub stamp_no_record : length state < server_size → wrote 10 stamp ≡ server_stamp_call state stamp
  unfolding server_stamp_call
  stamp_no_record h = short (length state) server_size (wrote 10 stamp) (pick (ltb (length stamp) stamp_size) (wrote 10 stamp) stamped) h

  pub stamp_no_room : server_size ≤ length state → length stamp < stamp_size → wrote 10 stamp ≡ server_stamp_call state stamp
  unfolding server_stamp_call
  stamp_no_room h k =
      short (length stamp) stamp_size (wrote 10 stamp) stamped k
      ∙ enough (length state) server_size (wrote 10 stamp) (pick (ltb (length stamp) stamp_size) (wrote 10 stamp) stamped) h

  pub stamp_done : (x : Stamp) (o : List ℕ) → server_size ≤ length state → stamp_size ≤ length stamp → x ≡ stamp_at state 0 → o ≡ sets stamp 0 (stamp_bytes x)
      → wrote 0 o ≡ server_stamp_call state stamp
  unfolding server_stamp_call server_in server_at
  stamp_done x o h k p e =
      ap (wrote 0) (e ∙ ap (λ z. sets stamp 0 (stamp_bytes z)) p)
      ∙ enough (length stamp) stamp_size (wrote 10 stamp) stamped k
      ∙ enough (length state) server_size (wrote 10 stamp) (pick (ltb (length stamp) stamp_size) (wrote 10 stamp) stamped) h

module _ (c : ℕ) (state : List ℕ) where
  abbrev worked : ℕ
  worked = 65536 * ((slot_of (server_in state) c).sequence % 281474976710656)

  pub none_below : c < 1 → 7 ≡ server_open_call c state
  unfolding server_open_call
  none_below h = short c 1 7 _ h

  pub none_above : 1 ≤ c → last_client < c → 7 ≡ server_open_call c state
  unfolding server_open_call
  none_above h k = short last_client c 7 (pick (ltb (length state) server_size) 10 worked) k ∙ enough c 1 7 _ h

  module _ (low : 1 ≤ c) (high : c ≤ last_client) where
    pub worked_short : length state < server_size → 10 ≡ server_open_call c state
    unfolding server_open_call
    worked_short h =
        short (length state) server_size 10 worked h
        ∙ enough last_client c 7 (pick (ltb (length state) server_size) 10 worked) high
        ∙ enough c 1 7 _ low

    pub worked_done : (x : Scope) → server_size ≤ length state → x ≡ scope_of (server_in state) c
        → 65536 * (x.slot.sequence % 281474976710656) ≡ server_open_call c state
    unfolding server_open_call
    worked_done x h e =
        ap (λ (z : Scope). 65536 * (z.slot.sequence % 281474976710656)) e
        ∙ enough (length state) server_size 10 worked h
        ∙ enough last_client c 7 (pick (ltb (length state) server_size) 10 worked) high
        ∙ enough c 1 7 _ low
