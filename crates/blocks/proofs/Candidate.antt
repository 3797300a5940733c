-- The value that the first k blocks give. Assumes nothing.
use Prim.Native.Nat.{ℕ, ◌*◌, ◌<◌, ◌≤◌}
use mathlib.Core.Path.{◌≡◌, sym, ap, ◌∙◌}
use mathlib.Core.Bool.{Bool}
use mathlib.Core.List.{List}
use native.Mathlib.Nat.{mul-le-mul_right}
use native.Mathlib.Omega.{arith}
use lib.ListN.{length, take}
use lib.Seq.{length-take-le}
use Rattle.area.specs.Area.{same}
use Rattle.blocks.specs.Code.{block_length, value_of, blocks_of, candidate, agree}
use Rattle.blocks.proofs.Values.{length_value_of}

-- blocks with the numbers js lie end to end in w; d has the length of their value
module _ (k : ℕ) (js w d : List ℕ) (b : ℕ) (h : 0 < k) (m : k ≤ length js) (l : length w ≡ length js * block_length (length d) k)
    (p : b ≡ block_length (length d) k) where
  pub first_room : k * b ≤ length w
  first_room = omega (arith, mul-le-mul_right {m = k} {n = length js} b m, ap (λ (x : ℕ). length js * x) p)

  pub first_numbers : length (take k js) ≡ k
  first_numbers = length-take-le k js m

  pub first_whole : length (take (k * b) w) ≡ length (take k js) * block_length (length d) (length (take k js))
  first_whole =
      length-take-le (k * b) w first_room ∙ ap (λ (x : ℕ). k * x) p ∙ sym (ap (λ (n : ℕ). n * block_length (length d) n) first_numbers)

  pub first_value : (v : List ℕ) → v ≡ value_of (take k js) (length d) (take (k * b) w) → v ≡ candidate k (length d) js w
  unfolding candidate
  first_value v e = e ∙ ap (λ (x : ℕ). value_of (take k js) (length d) (take (k * x) w)) p

  pub first_length : (v : List ℕ) → v ≡ value_of (take k js) (length d) (take (k * b) w) → length v ≡ length d
  first_length v e = ap length e ∙ length_value_of (take k js) (take (k * b) w) (length d) (omega (arith, first_numbers))

  pub first_agrees : (v : List ℕ) (r : Bool) → v ≡ value_of (take k js) (length d) (take (k * b) w) → r ≡ same (blocks_of k v js) w
      → r ≡ agree k (length d) js w
  unfolding agree
  first_agrees v r e q = q ∙ ap (λ (x : List ℕ). same (blocks_of k x js) w) (first_value v e)
