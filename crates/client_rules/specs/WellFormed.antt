-- A well-formed client: the numbers of its operations, the servers' flags and times, and its rows are within bounds. What the bounds are is a parameter,
-- so that one law of a step serves all who ask (proofs/Within.antt). These are definitions.
use Rattle.std.specs.Prelude.{ℕ, Bool, List}
use Rattle.client_rules.specs.declared.Row.{Row}
use Rattle.client_rules.specs.declared.Client.{Client}

-- what is asked of an operation's number, of servers' flags and times, and of the rows
pub record Bounds : Type 1 where
  pub number : ℕ → Type 0
  pub heard : List Bool → Type 0
  pub times : List ℕ → Type 0
  pub rows : List Row → Type 0

pub record Within (B : Bounds) (s : Client) : Type 0 where
  pub writes : B.number s.writes
  pub reads : B.number s.reads
  pub heard : B.heard s.heard
  pub times : B.times s.times
  pub rows : B.rows s.rows
  pub reports : B.times s.reports
