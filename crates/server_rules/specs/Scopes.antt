-- One client's part of a server: the stamp, and that client's slot and reader. The frame's own part of a step changes nothing else, unless it is a report; nor
-- does an acceptance of that client's write. These are definitions.
use Rattle.std.specs.Prelude.{ℕ, set}
use Rattle.server_rules.specs.declared.Server.{Server}
use Rattle.server_rules.specs.declared.Scope.{Scope}
use Rattle.server_rules.specs.State.{slot_of, reader_of}

abbrev pub scope_of : Server → ℕ → Scope
scope_of s c = record { stamp = s.stamp; slot = slot_of s c; reader = reader_of s c }

-- the server with client c's scope put back
abbrev pub with_scope : Server → ℕ → Scope → Server
with_scope s c x = record { stamp = x.stamp; slots = set s.slots c x.slot; readers = set s.readers c x.reader; reports = s.reports }
