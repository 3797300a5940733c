-- Acceptance as the code takes it, listener by listener. The promises of the entry points do not speak of it. These are definitions.
use Rattle.std.specs.Prelude.{ℕ, zero, suc, ◌+◌, ◌≡◌, Bool, ◌&&◌, ◌||◌, List, [], ◌∷◌, get_or, leb, ltb}
use Rattle.area.specs.Area.{pick}
use Rattle.blocks.specs.declared.Params.{Params}
use Rattle.frame.specs.declared.Stamp.{Stamp}
use Rattle.frame.specs.declared.Party.TheVariants as P
use Rattle.frame.specs.Stamps.{older, last_time, last_sequence}
use Rattle.frame.specs.Messages.{Entry, message, Sending, sending, value_is}
use Rattle.frame.specs.Chunks.{entry_at, complete_at}
use Rattle.frame.specs.Outbox.{Outbox, outbox}
use Rattle.server_rules.specs.declared.Reader.{Reader}
use Rattle.server_rules.specs.declared.Scope.{Scope}
use Rattle.server_rules.specs.declared.Server.{Server}
use Rattle.server_rules.specs.State.{fresh_slot, slot_of}
use Rattle.group_rules.specs.Vouching.{backed}
use Rattle.server_rules.specs.Scopes.{with_scope}
use Rattle.server_rules.specs.Steps.{Write, Effect}
use Rattle.server.specs.Stages.{Holds, progress, moved}
use Rattle.server_accept.specs.declared.Freed.{Freed}

-- what reader r, client c, is sent of the value (x, e)
unfoldable pub told_to : Reader → ℕ → Stamp → Entry → List Sending
told_to r c x e = pick (r.listening && older r.noted x) (sending (P.Client c) (message c r.sequence (value_is x e)) ∷ []) []

-- the scope after its write was accepted; newer says whether the write's stamp x is larger than the server's
unfoldable pub opens_in : Scope → Bool → Stamp → Scope
opens_in s newer x = record { stamp = pick newer x s.stamp; slot = fresh_slot (s.slot.sequence + 1); reader = s.reader }

-- a completed write of the time T and the sequence q can be accepted, the server's own time and the servers' reports being these
unfoldable pub ripe_at : Params → ℕ → List ℕ → ℕ → ℕ → Bool
ripe_at g own rs T q = (leb T own || backed g (λ j. get_or rs j 0) T) && (ltb T last_time && leb q last_sequence)

-- the open write of client c can be accepted
unfoldable pub may_accept : Params → Server → ℕ → Bool
may_accept g s c = (slot_of s c).blocks.complete && ripe_at g s.stamp.time s.reports (slot_of s c).blocks.time (slot_of s c).sequence

-- the lowest of clients c to c + m - 1 whose write can be accepted, or 0
unfoldable pub lowest_from : Params → Server → ℕ → ℕ → ℕ
lowest_from g s c zero = 0
lowest_from g s c (suc m) = pick (may_accept g s c) c (lowest_from g s (suc c) m)

-- the write of client c's scope s, with the time and the entry that were completed
abbrev pub write_in : Params → Scope → ℕ → List ℕ → Write
write_in g s c a = record { client = c; sequence = s.slot.sequence; time = s.slot.blocks.time; entry = entry_at g a (complete_at c) }

-- of every server that has the scope s of client c and these readers, what is left is what the effect says; q is the outbox before
abbrev pub Freeing : Scope → List Reader → ℕ → (Server → Effect) → Outbox → Freed → List ℕ → List ℕ → List ℕ → Type 0
Freeing s rs c x q r a out to = (w : Server) → Holds w c s rs → progress (with_scope w c r.scope) a (outbox out to r.place) ≡ moved (x w) q
