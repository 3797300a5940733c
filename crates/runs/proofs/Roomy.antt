-- A client's rows area that is too short is never looked at, since each delivery with it is turned down (10): for the facts of a run zeros may be put
-- in its place. Assumes nothing.
use Prim.Native.Nat.{ℕ, ◌≤◌}
use native.Mathlib.Omega.{arith}
use mathlib.Core.Bool.{Bool, true, false}
use mathlib.Core.Path.{◌≡◌, refl, ap}
use mathlib.Core.List.{List}
use lib.ListN.{length, replicate, length-replicate}
use lib.Dec.{leb}
use borrow.Author.Tests.{leb-true, le-leb}
use Rattle.area.specs.Area.{pick}
use Rattle.frame.specs.Chunks.{rows_bytes}

unfoldable pub zeros : List ℕ
zeros = replicate rows_bytes 0

zeros_long : length zeros ≡ rows_bytes
unfolding zeros
zeros_long = length-replicate {A = ℕ} rows_bytes 0

unfoldable pub roomy : List ℕ → List ℕ
roomy a = pick (leb rows_bytes (length a)) a zeros

pub roomy_long : (a : List ℕ) → rows_bytes ≤ length (roomy a)
unfolding roomy pick
roomy_long a = go (leb rows_bytes (length a)) refl
  where
    go : (b : Bool) → leb rows_bytes (length a) ≡ b → rows_bytes ≤ length (pick b a zeros)
    go true e = leb-true rows_bytes (length a) e
    go false e = omega (arith, zeros_long)

pub roomy_same : (a : List ℕ) → rows_bytes ≤ length a → roomy a ≡ a
unfolding roomy pick
roomy_same a l = ap (λ b. pick b a zeros) (le-leb rows_bytes (length a) l)
