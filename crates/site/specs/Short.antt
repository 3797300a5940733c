-- A call whose area for the record or for a stamp is short: refusal 10, unless one with a lower number applies. g are the parameters, and me is one of
-- parties 1 to most. These are definitions.
use Rattle.std.specs.Prelude.{ℕ, List, Ok, Err}
use Rattle.blocks.specs.declared.Params.{Params}
use Rattle.frame.specs.Frames.{Opened}
use Rattle.frame.specs.Refusals.{and_then, refused, Verdict}
use Rattle.frame.specs.Params.{params_test}
use Rattle.frame.specs.Stamps.{last_client}
use Rattle.frame.specs.Frames.{opened}
use Rattle.client_rules.specs.declared.Client.{Client}
use Rattle.client_rules.specs.Tests.{value_test}
use Rattle.client_rules.specs.Beginning.{length_test}

-- a client begins a read
unfoldable pub read_short : Params → ℕ → Verdict
read_short g me = and_then (params_test g me last_client) (refused 10)

-- a value of length v is lent: to be written, or the initial one
unfoldable pub value_short : Params → ℕ → ℕ → ℕ → Verdict
value_short g me most v = and_then (params_test g me most) (and_then (length_test g v) (refused 10))

-- a frame f is handed in; without a record it is not known whether a write is open, so a lent value is not looked at
unfoldable pub opened_short : Opened → Verdict
opened_short (Ok h) = refused 10
opened_short (Err r) = Err r

unfoldable pub frame_short : Params → ℕ → ℕ → List ℕ → Verdict
frame_short g me most f = and_then (params_test g me most) (opened_short (opened g f))

-- a frame f is handed to client s with a value of length v, and the area for a read's stamp is short
unfoldable pub stamp_short : Params → ℕ → Client → ℕ → List ℕ → Verdict
stamp_short g me s v f = and_then (params_test g me last_client) (and_then (value_test g s.phase v) (opened_short (opened g f)))
