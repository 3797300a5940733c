-- What a frame that passes the tests does to a client, by document 01's "Write, client" and "Read". H is the digest, g the parameters, me
-- the client's number, s the client, a its rows area, v the value of its open write. These are definitions.
use Rattle.std.specs.Prelude.{ℕ, ◌+◌, Bool, true, false, ◌&&◌, List, [], get_or, set, replicate, leb, ltb}
use Rattle.std.proofs.Math.Option.{Option, none, some}
use Rattle.quorum.specs.Quorum.{count}
use Rattle.area.specs.Area.{pick}
use Rattle.blocks.specs.declared.Params.{Params}
use Rattle.frame.specs.declared.Stamp.{Stamp}
use Rattle.frame.specs.declared.Party.{Party}
use Rattle.frame.specs.Stamps.{last_time}
use Rattle.frame.specs.Messages.{Entry, offer, send, Body, get_stamp, ack, ask_read, read_complete, stamp_is}
use Rattle.frame.specs.Messages.{block_is, value_is, report, Message, message, Sending, to_all, number_in}
use Rattle.frame.specs.Chunks.{store_entry, place_at}
use Rattle.group_rules.specs.Coded.{entry_of}
use Rattle.group_rules.specs.Vouching.{backed}
use Rattle.client_rules.specs.declared.Client.{Client}
use Rattle.client_rules.specs.declared.Phase.TheVariants as F
use Rattle.client_rules.specs.State.{asking, row_of, heard_of, reply_of, report_of, largest, in_phase, shut, with_row, with_report}
use Rattle.client_rules.specs.Rows.{row_view, place_for, row_with, Found, search}

-- what a call ends: nothing; the write; the write, as out of stamps; the read, where its search stopped
pub data Event : Type 0 where
  nothing written out_of_stamps : Event
  stopped : Found → Event

-- What a step does: the client and its rows area afterwards, the frames it sends, and what it ends.
pub record Effect : Type 0 where
  pub client : Client
  pub area : List ℕ
  pub sends : List Sending
  pub event : Event

abbrev pub quiet : Client → List ℕ → Effect
quiet s a = record { client = s; area = a; sends = []; event = nothing }

-- n - t servers are marked: their acks came
unfoldable pub quorate : Params → List Bool → Bool
quorate g h = leb g.n (count (λ j. get_or h j false) g.n + g.t)

-- "A first stamp reply counts toward n - t only once t + 1 servers have reported that time or more."
unfoldable pub counted : Params → Client → ℕ → Bool
counted g s j = heard_of s j && backed g (report_of s) (reply_of s j)

-- n - t replies count
unfoldable pub gathered : Params → Client → Bool
gathered g s = leb g.n (count (counted g s) g.n + g.t)

-- the largest time of those that count
unfoldable pub largest_counted : Params → Client → ℕ
largest_counted g s = largest (λ j. pick (counted g s j) (reply_of s j) 0) g.n

module _ (H : List ℕ → List ℕ) (g : Params) (me : ℕ) where
  -- ---- Write, client

  -- the blocks of the value v to all, each with the digest list and the time M: write q
  abbrev pub dispersal : ℕ → List ℕ → ℕ → List Sending
  dispersal q v M = to_all g (λ j. message me q (block_is send (offer M (entry_of H g v j))))

  -- M is the largest time: kind 3 with it to all (request F-4). "If it is 2^64 - 1, the step instead closes the write as out of stamps and sends nothing."
  unfoldable pub send_below : Bool → Client → List ℕ → List ℕ → ℕ → Effect
  send_below true s a v M = record {
    client = in_phase s F.Acking (replicate 11 false) s.times;
    area = a;
    sends = dispersal s.writes v M;
    event = nothing;
  }
  send_below false s a v M = record { client = shut s; area = a; sends = []; event = out_of_stamps }

  -- "One report may lift the count past n - t; the largest counted time is taken."
  unfoldable pub gather_by : Bool → Client → List ℕ → List ℕ → Effect
  gather_by true s a v = send_below (ltb (largest_counted g s) last_time) s a v (largest_counted g s)
  gather_by false s a v = quiet s a

  abbrev pub gather : Client → List ℕ → List ℕ → Effect
  gather s a v = gather_by (gathered g s) s a v

  -- server j's first stamp, which is a report, too
  unfoldable pub on_stamp : Client → List ℕ → List ℕ → ℕ → ℕ → Effect
  on_stamp s a v j T = gather (in_phase (with_report s j T) F.Asking (set s.heard j true) (set s.times j T)) a v

  -- server j's report; in the first part of a write others may count now
  unfoldable pub report_by : Bool → Client → List ℕ → List ℕ → Effect
  report_by true s a v = gather s a v
  report_by false s a v = quiet s a

  unfoldable pub on_report : Client → List ℕ → List ℕ → ℕ → ℕ → Effect
  on_report s a v j T = report_by (asking s.phase) (with_report s j T) a v

  -- "At n - t acks it has ended."
  unfoldable pub end_by : Bool → Client → List ℕ → List Bool → Effect
  end_by true s a h = record { client = in_phase s F.Idle h s.times; area = a; sends = []; event = written }
  end_by false s a h = quiet (in_phase s F.Acking h s.times) a

  unfoldable pub on_ack : Client → List ℕ → ℕ → Effect
  on_ack s a j = end_by (quorate g (set s.heard j true)) s a (set s.heard j true)

  -- ---- Read

  -- "Then read-complete goes to all and the value is decoded"; a reader whose blocks disagree also "closes its read, sends read-complete to all and reports
  -- the disagreement" (request F-7)
  unfoldable pub complete_by : Option Found → Client → List ℕ → Effect
  complete_by none s a = quiet s a
  complete_by (some x) s a = record {
    client = in_phase s F.Idle s.heard s.times;
    area = a;
    sends = to_all g (λ j. message me s.reads read_complete);
    event = stopped x;
  }

  unfoldable pub settle : Client → List ℕ → Effect
  settle s a = complete_by (search g (row_view g s a)) s a

  -- a value takes place i of server j's row, or none; then the rows are searched
  unfoldable pub keep_by : Option ℕ → Client → List ℕ → ℕ → Stamp → Entry → Effect
  keep_by none s a j x e = settle s a
  keep_by (some i) s a j x e = settle (with_row s j (row_with (row_of s j) i x)) (store_entry a (place_at j i) e)

  unfoldable pub on_value : Client → List ℕ → ℕ → Stamp → Entry → Effect
  on_value s a j x e = keep_by (place_for (row_of s j) x) s a j x e

  -- ---- any message that passed the tests, from server j

  unfoldable pub on_body : Client → List ℕ → List ℕ → ℕ → Body → Effect
  on_body s a v j get_stamp = quiet s a
  on_body s a v j ack = on_ack s a j
  on_body s a v j ask_read = quiet s a
  on_body s a v j read_complete = quiet s a
  on_body s a v j (stamp_is T) = on_stamp s a v j T
  on_body s a v j (block_is z o) = quiet s a
  on_body s a v j (value_is x e) = on_value s a j x e
  on_body s a v j (report T) = on_report s a v j T

  unfoldable pub effect : Client → List ℕ → List ℕ → Party → Message → Effect
  effect s a v from m = on_body s a v (number_in from) m.body
