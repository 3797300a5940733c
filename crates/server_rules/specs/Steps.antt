-- What a frame that passes the tests does to a server, by document 01's "Steps": a frame of a write is counted, readies go out, and the write is accepted if it
-- can be. H is the digest, g the parameters, me the server's number, s the server, a its state area, c the client that the frame names. These are definitions.
use Rattle.std.specs.Prelude.{ℕ, zero, suc, ◌+◌, Bool, true, false, not, ◌&&◌, ◌||◌, List, [], ◌∷◌, ◌++◌, set, leb, ltb}
use Rattle.std.proofs.Math.Option.{Option, none, some}
use Rattle.area.specs.Area.{pick}
use Rattle.blocks.specs.declared.Params.{Params}
use Rattle.frame.specs.declared.Stamp.{Stamp}
use Rattle.frame.specs.declared.Party.{Party}
use Rattle.frame.specs.declared.Party.TheVariants as P
use Rattle.frame.specs.Stamps.{older, last_time, last_sequence}
use Rattle.frame.specs.Messages.{Entry, Offer, Stage, send, echo, ready, Body, get_stamp, ack, ask_read, read_complete, stamp_is, block_is, value_is, report}
use Rattle.frame.specs.Messages.{Message, message, Sending, sending, to_all, to_clients, number_in}
use Rattle.frame.specs.Chunks.{store_entry, store_if, present_at, complete_at, echo_at, ready_at}
use Rattle.server_rules.specs.declared.Slot.{Slot}
use Rattle.server_rules.specs.declared.Reader.{Reader}
use Rattle.server_rules.specs.declared.Server.{Server}
use Rattle.group_rules.specs.Vouching.{backed}
use Rattle.server_rules.specs.Broadcast.{due, full, matters}
use Rattle.server_rules.specs.State.{fresh_slot, slot_of, reader_at, reader_of, report_of, with_slot, with_reader, with_report, with_blocks, block_view}
use Rattle.server_rules.specs.State.{present_entry}
use Rattle.server_rules.specs.State.{block_sent, block_echo, block_ready, block_marks}
use Rattle.server_rules.specs.Rules.{regained_of, unanimous_of, block_rules}

-- a write that is accepted, with the time and the entry that were completed
pub record Write : Type 0 where
  pub client : ℕ
  pub sequence : ℕ
  pub time : ℕ
  pub entry : Entry

-- "the new stamp has time + 1"
abbrev pub stamp_of : Write → Stamp
stamp_of w = record { time = w.time + 1; writer = w.client; sequence = w.sequence }

-- What a step does: the server and its state area afterwards, and the frames it sends. The last two are for runs: the writes that it accepts, in that
-- order, and the values that it decodes.
pub record Effect : Type 0 where
  pub server : Server
  pub area : List ℕ
  pub sends : List Sending
  pub accepted : List Write
  pub decodes : List (List ℕ)

-- nothing is accepted or decoded
abbrev pub send_only : Server → List ℕ → List Sending → Effect
send_only s a l = record { server = s; area = a; sends = l; accepted = []; decodes = [] }

-- What a counted frame of a write does before anything is accepted: the client's slot and the state area afterwards, the frames sent, the values decoded.
pub record Counting : Type 0 where
  pub slot : Slot
  pub area : List ℕ
  pub sends : List Sending
  pub decodes : List (List ℕ)

module _ (H : List ℕ → List ℕ) (g : Params) (me : ℕ) where
  -- ---- Blocks, server

  -- An echo or a ready of o was counted in client c's slot x and kept in a and x. "At each counted echo or ready whose" time and "digest list then has n - t
  -- echoes or q readies, decode .., encode afresh .. and compare all n digests; if equal, send ready .. once for the write. If there are then q + t readies,
  -- and that comparison is equal," the write "is complete for good", with the time of the group (request F-4). A comparison on which nothing depends is not
  -- made, so it decodes nothing; nor does one whose blocks disagree.
  unfoldable pub voted_block : List ℕ → ℕ → Slot → Offer → Counting
  voted_block a c x o =
      let w = block_view g a c x in
      let r = due (block_rules H g) g.n g.t w o in
      let f = full (block_rules H g) g.n g.t w o in
      let own = (block_rules H g).own me w.echoes w.readies o in
      record {
        slot = with_blocks x (block_marks x.blocks r f o.time);
        area = store_if (not x.blocks.complete && f) a (complete_at c) own.entry;
        sends = pick r (to_all g (λ j. message c x.sequence (block_is ready own))) [];
        decodes =
            pick (matters (block_rules H g) g.n g.t w o && unanimous_of g w.echoes w.readies o) (regained_of g w.echoes w.readies o ∷ []) [];
      }

  -- a frame of client c's open write, its slot being x, from party j
  unfoldable pub on_block : List ℕ → ℕ → Slot → ℕ → Stage → Offer → Counting
  on_block a c x j send o = record {
    slot = with_blocks x (block_sent x.blocks);
    area = a;
    sends = to_all g (λ i. message c x.sequence (block_is echo o));
    decodes = [];
  }
  on_block a c x j echo o = voted_block (store_entry a (echo_at c j) o.entry) c (with_blocks x (block_echo x.blocks j o.time)) o
  on_block a c x j ready o = voted_block (store_entry a (ready_at c j) o.entry) c (with_blocks x (block_ready x.blocks j o.time)) o

-- ---- Acceptance

-- "each listener whose noted stamp is smaller gets a value", and "value frames go out by rising client number" (request F-1): of clients c to c + m - 1 the
-- value (x, e), the readers being rs
unfoldable pub tell_from : List Reader → Stamp → Entry → ℕ → ℕ → List Sending
tell_from rs x e c zero = []
tell_from rs x e c (suc m) =
    pick ((reader_at rs c).listening && older (reader_at rs c).noted x)
    (sending (P.Client c) (message c (reader_at rs c).sequence (value_is x e)) ∷ tell_from rs x e (suc c) m)
    (tell_from rs x e (suc c) m)

-- "Whenever a server's time grows, it sends kind 13 (body: its time ..; owner fields: the write that raised it) to all servers and then to clients 1 to 8,
-- after that write's ack."
unfoldable pub reported : Params → Server → Write → List Sending
reported g s w =
    let m = message w.client w.sequence (report (w.time + 1)) in
    pick (ltb s.stamp.time (w.time + 1)) (to_all g (λ j. m) ++ to_clients m) []

-- "If larger than the server's, stamp, digests and block are replaced. In either case each listener whose noted stamp is smaller gets a value, the
-- owner gets an ack, and the next sequence, if any, opens." The values "stand before the ack" (request F-1).
unfoldable pub accept : Params → Server → List ℕ → Write → Effect
accept g s a w = record {
  server = record {
    stamp = pick (older s.stamp (stamp_of w)) (stamp_of w) s.stamp;
    slots = set s.slots w.client (fresh_slot (w.sequence + 1));
    readers = s.readers;
    reports = s.reports;
  };
  area = store_if (older s.stamp (stamp_of w)) a present_at w.entry;
  sends =
      tell_from s.readers (stamp_of w) w.entry 1 8 ++ (sending (P.Client w.client) (message w.client w.sequence ack) ∷ reported g s w);
  accepted = w ∷ [];
  decodes = [];
}

-- "A server accepts a completed write only once t + 1 servers have reported its incoming time or more, or its own time reaches it; time 0 needs no report."
unfoldable pub vouched : Params → Server → ℕ → Bool
vouched g s T = leb T s.stamp.time || backed g (report_of s) T

-- Request F-4: "Acceptance follows completion alone, still with the time below 2^64 - 1." A completed time of 2^64 - 1 is never accepted, and only that
-- client waits. (A record that no run makes may have a completed write whose sequence is none; no stamp holds it.)
unfoldable pub ripe_by : Params → Server → ℕ → ℕ → Option Offer → Option Write
ripe_by g s c q none = none
ripe_by g s c q (some o) =
    pick (vouched g s o.time && (ltb o.time last_time && leb q last_sequence))
    (some (record { client = c; sequence = q; time = o.time; entry = o.entry })) none

-- the write of client c that can be accepted
unfoldable pub ripe : Params → Server → List ℕ → ℕ → Option Write
ripe g s a c = ripe_by g s c (slot_of s c).sequence (block_view g a c (slot_of s c)).done

-- the first of two that is there
abbrev pub or_else : Option Write → Option Write → Option Write
or_else none o = o
or_else (some w) o = some w

-- the write that can be accepted of the lowest of clients c to c + m - 1
unfoldable pub lowest : Params → Server → List ℕ → ℕ → ℕ → Option Write
lowest g s a c zero = none
lowest g s a c (suc m) = or_else (ripe g s a c) (lowest g s a (suc c) m)

-- an acceptance, and what follows it
abbrev pub and_also : Effect → Effect → Effect
and_also x y = record { server = y.server; area = y.area; sends = x.sends ++ y.sends; accepted = x.accepted ++ y.accepted; decodes = [] }

-- "Writes freed in one step are accepted by rising client number, from the lowest again after each, until none is left": m of them at most
unfoldable pub free : Params → ℕ → Server → List ℕ → Effect
free g zero s a = send_only s a []
free g (suc m) s a = elim (lowest g s a 1 8) [
  | some w ↦ and_also (accept g s a w) (free g m (accept g s a w).server (accept g s a w).area)
  | none ↦ send_only s a []
]

-- as many rounds as there are clients: each one's write is accepted at most once, as its slot is then fresh
abbrev pub rounds : ℕ
rounds = 8

abbrev pub free_all : Params → Server → List ℕ → Effect
free_all g s a = free g rounds s a

-- ---- a frame of a write: count, speak, accept

-- what is accepted after a frame of a write: the client's own frame completes nothing, an echo or a ready may
unfoldable pub freed : Params → Stage → Server → List ℕ → Effect
freed g send s a = send_only s a []
freed g echo s a = free_all g s a
freed g ready s a = free_all g s a

-- an acceptance after what the step has decoded and sent before: values "follow any ready frames of that step" (request F-1)
abbrev pub behind : Counting → Effect → Effect
behind p r = record { server = r.server; area = r.area; sends = p.sends ++ r.sends; accepted = r.accepted; decodes = p.decodes }

-- client c's slot is stored, and then what can be accepted is
unfoldable pub settle : Params → Server → ℕ → Stage → Counting → Effect
settle g s c z p = behind p (freed g z (with_slot s c p.slot) p.area)

module _ (H : List ℕ → List ℕ) (g : Params) (me : ℕ) where
  -- ---- Read

  -- "A server notes the reader with its present stamp, in place of that client's older read, and answers a value."
  unfoldable pub on_read : Server → List ℕ → List ℕ → ℕ → ℕ → Effect
  on_read s a initial c q =
      send_only (with_reader s c (record { sequence = q; listening = true; noted = s.stamp })) a
      (sending (P.Client c) (message c q (value_is s.stamp (present_entry g s.stamp a initial))) ∷ [])

  -- "A read-complete ends that sequence and lower ones, also before its read arrives."
  unfoldable pub on_read_complete : Server → List ℕ → ℕ → ℕ → Effect
  on_read_complete s a c q = send_only (with_reader s c (record { sequence = q; listening = false; noted = (reader_of s c).noted })) a []

  -- ---- any message that passed the tests, from party j: client c's operation q

  unfoldable pub on_body : Server → List ℕ → List ℕ → ℕ → ℕ → ℕ → Body → Effect
  on_body s a initial j c q get_stamp = send_only s a (sending (P.Client c) (message c q (stamp_is s.stamp.time)) ∷ [])
  on_body s a initial j c q ack = send_only s a []
  on_body s a initial j c q ask_read = on_read s a initial c q
  on_body s a initial j c q read_complete = on_read_complete s a c q
  on_body s a initial j c q (stamp_is T) = send_only s a []
  on_body s a initial j c q (block_is z o) = settle g s c z (on_block H g me a c (slot_of s c) j z o)
  on_body s a initial j c q (value_is x e) = send_only s a []
  on_body s a initial j c q (report T) = free_all g (with_report s j T) a

  unfoldable pub effect : Server → List ℕ → List ℕ → Party → Message → Effect
  effect s a initial from m = on_body s a initial (number_in from) m.client m.sequence m.body
