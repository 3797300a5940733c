-- Vouching, request F-9: which times servers have reported. Assumes nothing: these are definitions.
use Rattle.std.specs.Prelude.{ℕ, ◌+◌, Bool, leb}
use Rattle.quorum.specs.Quorum.{count}
use Rattle.blocks.specs.declared.Params.{Params}

-- "t + 1 servers have reported that time or more", rs j being the highest report of server j. No report and the report 0 are one: a time 0 needs no report at
-- a server, and at a client n - t replies, of which each is a report, are at least t + 1.
unfoldable pub backed : Params → (ℕ → ℕ) → ℕ → Bool
backed g rs T = leb (g.t + 1) (count (λ j. leb T (rs j)) g.n)
