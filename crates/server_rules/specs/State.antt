-- A server's state as the rules see it: flags and times in the record, entries in the state area (its layout is frame's). These are definitions.
use Rattle.std.specs.Prelude.{ℕ, Bool, true, false, not, ◌&&◌, ◌||◌, List, [], get_or, set, take, replicate, eqb}
use Rattle.area.specs.Area.{pick, part}
use Rattle.blocks.specs.declared.Params.{Params}
use Rattle.frame.specs.declared.Stamp.{Stamp}
use Rattle.frame.specs.Params.{width, listed}
use Rattle.frame.specs.Stamps.{zero_stamp}
use Rattle.frame.specs.Messages.{Entry, entry, Offer, offer}
use Rattle.frame.specs.Chunks.{entry_at, chunk_at, block_place, present_at, complete_at, echo_at, ready_at}
use Rattle.server_rules.specs.declared.BlockPart.{BlockPart}
use Rattle.server_rules.specs.declared.Slot.{Slot}
use Rattle.server_rules.specs.declared.Reader.{Reader}
use Rattle.server_rules.specs.declared.Server.{Server}
use Rattle.server_rules.specs.Broadcast.{Part, kept}

-- ---- fresh

unfoldable pub fresh_blocks : BlockPart
fresh_blocks = record {
  sent = false;
  ready = false;
  complete = false;
  time = 0;
  echoes = replicate 11 false;
  readies = replicate 11 false;
  echoed = replicate 11 0;
  readied = replicate 11 0;
}

-- the write q is open, and nothing of it has come
unfoldable pub fresh_slot : ℕ → Slot
fresh_slot q = record { sequence = q; blocks = fresh_blocks }

unfoldable pub fresh_reader : Reader
fresh_reader = record { sequence = 0; listening = false; noted = zero_stamp }

-- "A fresh server holds stamp 0, client 0 and sequence 0", and every client's write 1 is open; nothing is reported
unfoldable pub fresh_server : Server
fresh_server = record { stamp = zero_stamp; slots = replicate 9 (fresh_slot 1); readers = replicate 9 fresh_reader; reports = replicate 11 0 }

-- ---- what client c has in the arrays, and the arrays with one place changed

-- what lies past an array's end
abbrev pub no_slot : Slot
no_slot = record {
  sequence = 0;
  blocks = record { sent = false; ready = false; complete = false; time = 0; echoes = []; readies = []; echoed = []; readied = [] };
}

abbrev pub no_reader : Reader
no_reader = record { sequence = 0; listening = false; noted = record { time = 0; writer = 0; sequence = 0 } }

abbrev pub slot_of : Server → ℕ → Slot
slot_of s c = get_or s.slots c no_slot

abbrev pub reader_at : List Reader → ℕ → Reader
reader_at rs c = get_or rs c no_reader

abbrev pub reader_of : Server → ℕ → Reader
reader_of s c = reader_at s.readers c

abbrev pub with_slot : Server → ℕ → Slot → Server
with_slot s c x = record { stamp = s.stamp; slots = set s.slots c x; readers = s.readers; reports = s.reports }

abbrev pub with_reader : Server → ℕ → Reader → Server
with_reader s c x = record { stamp = s.stamp; slots = s.slots; readers = set s.readers c x; reports = s.reports }

-- the highest time that server j reported, and the server with it
abbrev pub report_of : Server → ℕ → ℕ
report_of s j = get_or s.reports j 0

abbrev pub with_report : Server → ℕ → ℕ → Server
with_report s j T = record { stamp = s.stamp; slots = s.slots; readers = s.readers; reports = set s.reports j T }

abbrev pub with_blocks : Slot → BlockPart → Slot
with_blocks x b = record { sequence = x.sequence; blocks = b }

-- ---- the view

-- the broadcast of client c's slot x, whose entries lie in the area a
unfoldable pub block_view : Params → List ℕ → ℕ → Slot → Part Offer
block_view g a c x = record {
  sent = x.blocks.sent;
  ready = x.blocks.ready;
  echoes = λ j. kept (get_or x.blocks.echoes j false) (offer (get_or x.blocks.echoed j 0) (entry_at g a (echo_at c j)));
  readies = λ j. kept (get_or x.blocks.readies j false) (offer (get_or x.blocks.readied j 0) (entry_at g a (ready_at c j)));
  done = kept x.blocks.complete (offer x.blocks.time (entry_at g a (complete_at c)));
}

-- x is the present stamp. "Until its first accepted write a server answers from the initial block its host lends"
unfoldable pub present_block : Params → Stamp → List ℕ → List ℕ → List ℕ
present_block g x a initial = pick (eqb x.time 0) (take (width g) initial) (part a (block_place present_at) (width g))

-- what a read is answered with
unfoldable pub present_entry : Params → Stamp → List ℕ → List ℕ → Entry
present_entry g x a initial = entry (part a (chunk_at present_at) (listed g)) (present_block g x a initial)

-- ---- the stores: a slot's part of the record after a frame was counted

abbrev pub block_sent : BlockPart → BlockPart
block_sent b = record {
  sent = true;
  ready = b.ready;
  complete = b.complete;
  time = b.time;
  echoes = b.echoes;
  readies = b.readies;
  echoed = b.echoed;
  readied = b.readied;
}

-- server j's echo, of time T
abbrev pub block_echo : BlockPart → ℕ → ℕ → BlockPart
block_echo b j T = record {
  sent = b.sent;
  ready = b.ready;
  complete = b.complete;
  time = b.time;
  echoes = set b.echoes j true;
  readies = b.readies;
  echoed = set b.echoed j T;
  readied = b.readied;
}

-- server j's ready, of time T
abbrev pub block_ready : BlockPart → ℕ → ℕ → BlockPart
block_ready b j T = record {
  sent = b.sent;
  ready = b.ready;
  complete = b.complete;
  time = b.time;
  echoes = b.echoes;
  readies = set b.readies j true;
  echoed = b.echoed;
  readied = set b.readied j T;
}

-- if r, a ready goes out; if f, the write is complete with the time T, unless it was complete before
abbrev pub block_marks : BlockPart → Bool → Bool → ℕ → BlockPart
block_marks b r f T = record {
  sent = b.sent;
  ready = b.ready || r;
  complete = b.complete || f;
  time = pick (not b.complete && f) T b.time;
  echoes = b.echoes;
  readies = b.readies;
  echoed = b.echoed;
  readied = b.readied;
}
