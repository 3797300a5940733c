-- Whether a frame handed to a server is turned down: the tests of document 01's numbers 10 to 14, and all tests in the order of their
-- numbers. H is the digest, g the parameters, me the server's number. These are definitions.
use Rattle.std.specs.Prelude.{ℕ, Bool, false, not, ◌&&◌, List, length, get_or, leb, ltb, eqb, Ok, Err}
use Rattle.area.specs.Area.{pick}
use Rattle.blocks.specs.declared.Params.{Params}
use Rattle.frame.specs.declared.Party.{Party}
use Rattle.frame.specs.Frames.{Opened}
use Rattle.frame.specs.declared.Party.TheVariants as P
use Rattle.frame.specs.Refusals.{and_then, refused, Verdict, fine}
use Rattle.frame.specs.Params.{width, server_frames, out_room, to_room, params_test}
use Rattle.frame.specs.Messages.{Offer, Stage, send, echo, ready, Body, get_stamp, ack, ask_read, read_complete, stamp_is, block_is, value_is, report, Message}
use Rattle.frame.specs.Messages.{number_in, from_server, Judged, bad, judged_by, after}
use Rattle.frame.specs.Frames.{opened, message_in}
use Rattle.frame.specs.Chunks.{area_bytes}
use Rattle.group_rules.specs.Coded.{fit_test}
use Rattle.server_rules.specs.declared.Slot.{Slot}
use Rattle.server_rules.specs.declared.Reader.{Reader}
use Rattle.server_rules.specs.declared.Server.{Server}
use Rattle.server_rules.specs.State.{slot_of, reader_of, report_of}

-- refusal 10, of the lengths of the lent areas: "A server's out area must now hold 9n + 136 largest frames" (request F-9); "others their full content"
unfoldable pub room_test : Params → ℕ → ℕ → ℕ → ℕ → Verdict
room_test g area initial out to =
    pick (ltb area area_bytes) (refused 10)
    (pick (ltb initial (width g)) (refused 10)
    (pick (ltb out (out_room g (server_frames g))) (refused 10)
    (pick (ltb to (to_room (server_frames g))) (refused 10)
    fine)))

-- ---- refusal 11: "sender or receiver not the kind's or, where a client, not the owner; a server not 1 to n"

abbrev pub from_owner : Party → ℕ → Bool
from_owner (P.Client d) c = eqb d c
from_owner (P.Server j) c = false

-- kinds 1, 3, 10, 12 come from the owner c, 4, 5, 13 from a server, and 2, 9, 11 do not go to servers
unfoldable pub sender_right : Params → Party → ℕ → Body → Bool
sender_right g from c get_stamp = from_owner from c
sender_right g from c ack = false
sender_right g from c ask_read = from_owner from c
sender_right g from c read_complete = from_owner from c
sender_right g from c (stamp_is T) = false
sender_right g from c (block_is send o) = from_owner from c
sender_right g from c (block_is echo o) = from_server g from
sender_right g from c (block_is ready o) = from_server g from
sender_right g from c (value_is s e) = false
sender_right g from c (report T) = from_server g from

-- ---- refusals 12 and 13

-- "Only the first valid frame of a kind, from a sender, for an operation counts": whether the slot x has counted one from party j
unfoldable pub counted : Slot → ℕ → Body → Bool
counted x j get_stamp = false
counted x j ack = false
counted x j ask_read = false
counted x j read_complete = false
counted x j (stamp_is T) = false
counted x j (block_is send o) = x.blocks.sent
counted x j (block_is echo o) = get_or x.blocks.echoes j false
counted x j (block_is ready o) = get_or x.blocks.readies j false
counted x j (value_is s e) = false
counted x j (report T) = false

-- of a frame of the write q: 12 where it is old or counted again, 13 where it is "above the open sequence; offer again"
unfoldable pub open_test : Slot → ℕ → Bool → Verdict
open_test x q again =
    pick (ltb q x.sequence) (refused 12)
    (pick (ltb x.sequence q) (refused 13)
    (pick again (refused 12)
    fine))

-- "A read .. below the newest noted or ended, a read equal to it .. is old"
unfoldable pub read_test : Reader → ℕ → Verdict
read_test r q = pick (leb q r.sequence) (refused 12) fine

-- "A .. read-complete below the newest noted or ended .. or a repeated read-complete is old"
unfoldable pub done_test : Reader → ℕ → Verdict
done_test r q =
    pick (ltb q r.sequence) (refused 12)
    (pick (eqb q r.sequence && not r.listening) (refused 12)
    fine)

-- "A kind 13 that isn't higher is 12": r is the highest report of its sender
unfoldable pub report_test : ℕ → ℕ → Verdict
report_test r T = pick (ltb r T) fine (refused 12)

-- ---- refusals 12 to 14

-- the place in the digest list of the block that party j sends to server me
abbrev pub place_in : ℕ → Stage → ℕ → ℕ
place_in me send j = me
place_in me echo j = j
place_in me ready j = j

module _ (H : List ℕ → List ℕ) (g : Params) (me : ℕ) where
  -- of a frame of a write from party j whose sender is right, the client's slot being x
  abbrev pub block_test : Slot → ℕ → ℕ → Stage → Offer → Verdict
  block_test x j q z o = and_then (open_test x q (counted x j (block_is z o))) (fit_test H o.entry (place_in me z j))

  -- of any frame whose sender is right; "Get-stamp is never 12"
  unfoldable pub order_test : Server → ℕ → ℕ → ℕ → Body → Verdict
  order_test s j c q get_stamp = fine
  order_test s j c q ack = fine
  order_test s j c q ask_read = read_test (reader_of s c) q
  order_test s j c q read_complete = done_test (reader_of s c) q
  order_test s j c q (stamp_is T) = fine
  order_test s j c q (block_is z o) = block_test (slot_of s c) j q z o
  order_test s j c q (value_is x e) = fine
  order_test s j c q (report T) = report_test (report_of s j) T

  -- refusals 11 to 14
  unfoldable pub message_test : Server → Party → Message → Verdict
  message_test s from m =
      pick (sender_right g from m.client m.body) (order_test s (number_in from) m.client m.sequence m.body) (refused 11)

  -- ---- all of them: the lowest number, or what the frame says

  -- "A frame is opened first; what does not open never reaches a server's state"
  unfoldable pub judge_opened : Opened → Verdict → Server → Party → List ℕ → Judged
  judge_opened (Err r) room s from f = bad r
  judge_opened (Ok h) room s from f = judged_by (and_then room (message_test s from (message_in g h f))) (message_in g h f)

  unfoldable pub judge : Server → List ℕ → List ℕ → Party → List ℕ → List ℕ → List ℕ → Judged
  judge s area initial from f out to =
      after (params_test g me g.n) (judge_opened (opened g f) (room_test g (length area) (length initial) (length out) (length to)) s from f)
