-- A refusal's number is 1 to 19, so that no host takes it for anything else. Assumes nothing.
use Prim.Native.Nat.{◌≤◌}
use native.Mathlib.Omega.{arith}
use Rattle.frame.specs.declared.Refusal.{Refusal}
use Rattle.frame.specs.declared.Refusal.TheVariants as R
use Rattle.frame.specs.Refusals.{number_of}

pub number_bounds : (r : Refusal) → (1 ≤ number_of r) × (number_of r ≤ 19)
number_bounds R.Parties = (omega arith, omega arith)
number_bounds R.Threshold = (omega arith, omega arith)
number_bounds R.Length = (omega arith, omega arith)
number_bounds R.Framing = (omega arith, omega arith)
number_bounds R.Version = (omega arith, omega arith)
number_bounds R.Kind = (omega arith, omega arith)
number_bounds R.Owner = (omega arith, omega arith)
number_bounds R.Body = (omega arith, omega arith)
number_bounds R.Content = (omega arith, omega arith)
number_bounds R.Room = (omega arith, omega arith)
number_bounds R.Sender = (omega arith, omega arith)
number_bounds R.Stale = (omega arith, omega arith)
number_bounds R.Ahead = (omega arith, omega arith)
number_bounds R.Digest = (omega arith, omega arith)
number_bounds R.Busy = (omega arith, omega arith)
number_bounds R.Exhausted = (omega arith, omega arith)
number_bounds R.Closed = (omega arith, omega arith)
number_bounds R.Record = (omega arith, omega arith)
number_bounds R.Unlisted = (omega arith, omega arith)
