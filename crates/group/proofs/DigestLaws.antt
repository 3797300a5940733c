-- What the code of digest lists does, one law a step. Assumes nothing.
use Prim.Native.Nat.{ℕ, ◌+◌, ◌*◌, ◌-◌, ◌≤◌}
use native.Mathlib.Omega.{arith}
use mathlib.Core.Bool.{Bool, true, false, not}
use mathlib.Core.Path.{◌≡◌, refl, ap, sym, ◌∙◌}
use mathlib.Core.List.{List}
use lib.ListN.{length, take, drop}
use lib.Seq.{sets}
use borrow.Author.Tests.{not-true, not-false}
use Rattle.area.specs.Area.{pick, part, same}
use Rattle.area.proofs.Sets.{part_sets_same}
use Rattle.blocks.specs.Code.{block_length, block_of}
use Rattle.blocks.proofs.Stripes.{length_block_of}
use Rattle.frame.specs.Refusals.{refused, fine}
use Rattle.frame.specs.Messages.{Entry, entry}
use Rattle.group_rules.specs.Coded.{fits, fit_test}
use Rattle.frame.proofs.Writing.{part_at}

pub fits_by : (H : List ℕ → List ℕ) (d b o : List ℕ) (j : ℕ) (r : Bool) → o ≡ H b
    → r ≡ same o (take (32 * j - 32 + 32 - (32 * j - 32)) (drop (32 * j - 32) d)) → r ≡ fits H (entry d b) j
unfolding fits
fits_by H d b o j r e q = let p = part_at d (32 * j - 32) 32 32 refl in q ∙ (λ i. same (e i) (p i))

pub fit_bad : (H : List ℕ → List ℕ) (e : Entry) (j : ℕ) (b : Bool) → b ≡ fits H e j → not b ≡ true → refused 14 ≡ fit_test H e j
unfolding fit_test pick
fit_bad H e j b p q = let d : fits H e j ≡ false = sym p ∙ not-true b q in rw d

pub fit_fine : (H : List ℕ → List ℕ) (e : Entry) (j : ℕ) (b : Bool) → b ≡ fits H e j → not b ≡ false → fine ≡ fit_test H e j
unfolding fit_test pick
fit_fine H e j b p q = let d : fits H e j ≡ true = sym p ∙ not-false b q in rw d

-- the front of an area in which a block was stored
pub block_front : (z a : List ℕ) (k j b : ℕ) (v : List ℕ) → b ≡ block_length (length v) k → b ≤ length z → a ≡ sets z 0 (block_of k v j)
    → take b a ≡ block_of k v j
block_front z a k j b v e h q =
    let l : length (block_of k v j) ≡ b = length_block_of k v j ∙ sym e in
    let f : 0 + length (block_of k v j) ≤ length z = omega (arith, l, h) in
    let p : part (sets z 0 (block_of k v j)) 0 (length (block_of k v j)) ≡ block_of k v j = part_sets_same z 0 (block_of k v j) f in
    ap (take b) q ∙ (rw l at p)
