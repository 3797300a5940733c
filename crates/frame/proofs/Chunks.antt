-- What is read of an area's chunks after an entry is stored. Assumes nothing.
use Prim.Native.Nat.{ℕ, suc, ◌+◌, ◌≤◌, ◌<◌}
use native.Mathlib.Omega.{arith}
use native.Mathlib.Decide.{dec_le}
use mathlib.Core.Path.{◌≡◌, ◌∙◌}
use mathlib.Core.List.{List}
use lib.ListN.{length}
use lib.Seq.{sets, length-sets}
use Rattle.area.specs.Area.{part}
use Rattle.area.proofs.Sets.{part_sets_same, part_sets_before, part_sets_after}
use Rattle.blocks.specs.declared.Params.{Params}
use Rattle.frame.specs.Params.{width, listed}
use Rattle.frame.specs.Messages.{Entry, Sized}
use Rattle.frame.specs.Chunks.{chunk_at, block_place, entry_at, store_entry}
use Rattle.frame.proofs.Sizes.{Small}

pub length_store : (a : List ℕ) (p : ℕ) (e : Entry) → length (store_entry a p e) ≡ length a
unfolding store_entry
length_store a p e = length-sets (sets a (chunk_at p) e.digests) (block_place p) e.block ∙ length-sets a (chunk_at p) e.digests

-- the part that was stored, whose length is w
part_same : (l : List ℕ) (i : ℕ) (vs : List ℕ) (w : ℕ) → length vs ≡ w → i + w ≤ length l → part (sets l i vs) i w ≡ vs
part_same l i vs w e h = let z : i + length vs ≤ length l = omega arith in rw (← e) (part_sets_same l i vs z)

module _ (g : Params) (M : Small g) (a : List ℕ) (p : ℕ) (e : Entry) (Q : Sized g e) where
  -- the entry that was stored
  pub entry_same : chunk_at p + 576 ≤ length a → entry_at g (store_entry a p e) p ≡ e
  unfolding entry_at store_entry
  entry_same h =
      let s = length-sets a (chunk_at p) e.digests in
      let d : part (sets (sets a (chunk_at p) e.digests) (block_place p) e.block) (chunk_at p) (listed g) ≡ e.digests =
      part_sets_before (sets a (chunk_at p) e.digests) (block_place p) e.block (chunk_at p) (listed g) (omega (arith, M.list_room))
      ∙ part_same a (chunk_at p) e.digests (listed g) Q.list_is (omega (arith, M.list_room)) in
      let b : part (sets (sets a (chunk_at p) e.digests) (block_place p) e.block) (block_place p) (width g) ≡ e.block =
      part_same (sets a (chunk_at p) e.digests) (block_place p) e.block (width g) Q.block_is_lem (omega (arith, M.block_room, s)) in
      λ i. record { digests = d i; block = b i }

  -- a part that lies in another chunk
  pub part_other : (q i w : ℕ) → (q ≡ p → ⊥) → chunk_at q ≤ i → i + w ≤ chunk_at q + 576 → part (store_entry a p e) i w ≡ part a i w
  unfolding store_entry
  part_other q i w ne lo hi = go (dec_le (suc q) p)
    where
      go : Dec (suc q ≤ p) → part (sets (sets a (chunk_at p) e.digests) (block_place p) e.block) i w ≡ part a i w
      go (yes l) =
          part_sets_before (sets a (chunk_at p) e.digests) (block_place p) e.block i w (omega arith)
          ∙ part_sets_before a (chunk_at p) e.digests i w (omega arith)
      go (no l) =
          let m : p < q = omega (arith, ne) in
          part_sets_after (sets a (chunk_at p) e.digests) (block_place p) e.block i w (omega (arith, Q.block_is_lem, M.block_room))
          ∙ part_sets_after a (chunk_at p) e.digests i w (omega (arith, Q.list_is, M.list_room))

  -- the entry of another chunk
  pub entry_other : (q : ℕ) → (q ≡ p → ⊥) → entry_at g (store_entry a p e) q ≡ entry_at g a q
  unfolding entry_at
  entry_other q ne =
      let d : part (store_entry a p e) (chunk_at q) (listed g) ≡ part a (chunk_at q) (listed g) =
      part_other q (chunk_at q) (listed g) ne (omega arith) (omega (arith, M.list_room)) in
      let b : part (store_entry a p e) (block_place q) (width g) ≡ part a (block_place q) (width g) =
      part_other q (block_place q) (width g) ne (omega arith) (omega (arith, M.block_room)) in
      λ i. record { digests = d i; block = b i }
