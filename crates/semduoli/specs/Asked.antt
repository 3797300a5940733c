-- What a host may ask of a record: which operation is open at a client, which stamp a server holds, and which write of a client it works on. Nothing but the
-- stamp area is written. These are definitions.
use Rattle.std.specs.Prelude.{ℕ, ◌*◌, ◌%◌, List, length, ltb}
use Rattle.std.proofs.lemmas.List.Edits.{sets}
use Rattle.area.specs.Area.{pick}
use Rattle.frame.specs.Stamps.{last_client}
use Rattle.frame.specs.Frames.{stamp_bytes}
use Rattle.client_rules.specs.declared.Client.{Client}
use Rattle.server_rules.specs.State.{slot_of}
use Rattle.layout.specs.Fields.{stamp_size}
use Rattle.layout.specs.Clients.{client_size, client_in}
use Rattle.layout.specs.Servers.{server_size, server_in}
use Rattle.site.specs.Answers.{open_answer}
use Rattle.semduoli.specs.Calls.{Wrote, wrote}

-- the version of include/semduoli.h to which these calls belong
abbrev pub header_version : ℕ
header_version = 4

unfoldable pub open_of : Client → ℕ
open_of s = open_answer s.phase s.writes s.reads

-- refusal 10, "lent area short"
unfoldable pub client_open_call : List ℕ → ℕ
client_open_call state = pick (ltb (length state) client_size) 10 (open_of (client_in state))

-- the stamp that a server holds
unfoldable pub server_stamp_call : List ℕ → List ℕ → Wrote
server_stamp_call state stamp =
    pick (ltb (length state) server_size) (wrote 10 stamp)
    (pick (ltb (length stamp) stamp_size) (wrote 10 stamp)
    (wrote 0 (sets stamp 0 (stamp_bytes (server_in state).stamp))))

-- the number of the write of client c that a server works on, 2^32 where none is left; refusal 7, "client not 1 to 8", then 10
unfoldable pub server_open_call : ℕ → List ℕ → ℕ
server_open_call c state =
    pick (ltb c 1) 7
    (pick (ltb last_client c) 7
    (pick (ltb (length state) server_size) 10
    (65536 * ((slot_of (server_in state) c).sequence % 281474976710656))))
