-- The blocks of several servers end to end, as a loop stores them. Assumes nothing.
use mathlib.Core.Path.{◌≡◌, sym, ap, ◌∙◌}
use mathlib.Core.List.{List, [], ◌∷◌, ◌++◌, append-nil, append_assoc}
use Prim.Native.Nat.{ℕ, ◌+◌, ◌*◌, ◌≤◌, ◌<◌}
use native.Mathlib.Nat.{zero-add, suc-mul}
use native.Mathlib.Numerals.{add-one}
use native.Mathlib.Omega.{arith}
use lib.ListN.{length, get_or, take, length-append}
use lib.Seq.{sets, take-suc, length-take-le}
use Rattle.area.proofs.Sets.{length_part, sets_next}
use Rattle.blocks.specs.declared.Params.{Params}
use Rattle.frame.specs.Params.{width, Bounded}
use Rattle.frame.specs.Chunks.{chunk_bytes, chunk_at, block_place, entry_at}
use Rattle.frame.proofs.Sizes.{small}
use Rattle.group.specs.Entries.{Within}
use Rattle.group.specs.Choice.{block_in, blocks_in}

blocks_in_snoc : (g : Params) (at a js : List ℕ) (j : ℕ) → blocks_in g at a (js ++ (j ∷ [])) ≡ blocks_in g at a js ++ block_in g at a j
unfolding blocks_in
blocks_in_snoc g at a [] j = append-nil (block_in g at a j)
blocks_in_snoc g at a (i ∷ js) j =
    ap (λ t. block_in g at a i ++ t) (blocks_in_snoc g at a js j) ∙ sym (append_assoc (block_in g at a i) (blocks_in g at a js) (block_in g at a j))

-- the block of a chunk within the area
pub length_block : (g : Params) (a : List ℕ) (p : ℕ) → Bounded g → chunk_at p + chunk_bytes ≤ length a → length (entry_at g a p).block ≡ width g
unfolding entry_at
length_block g a p B h = length_part a (block_place p) (width g) (omega (arith, (small g B).block_room))

module _ (g : Params) (at a : List ℕ) (B : Bounded g) (w : Within at a) where
  pub length_block_in : (j : ℕ) → length (block_in g at a j) ≡ width g
  unfolding Within
  length_block_in j = length_block g a (get_or at j 0) B (w j)

  pub length_blocks_in : (js : List ℕ) → length (blocks_in g at a js) ≡ length js * width g
  unfolding blocks_in
  length_blocks_in [] = sym (omega arith)
  length_blocks_in (j ∷ js) =
      length-append (block_in g at a j) (blocks_in g at a js) ∙ rw (length_block_in j, length_blocks_in js, suc-mul) (omega arith)

  -- the block of server js i was stored after those before it
  pub block_turn : (b : ℕ) (d out js : List ℕ) (i : ℕ) → b ≡ width g → out ≡ sets d 0 (blocks_in g at a (take i js)) → i < length js
      → sets out (i * b) (block_in g at a (get_or js i 0)) ≡ sets d 0 (blocks_in g at a (take (i + 1) js))
  block_turn b d out js i q o h =
      let k : i ≤ length js = omega arith in
      let e : length (blocks_in g at a (take i js)) ≡ i * b =
      length_blocks_in (take i js) ∙ ap (λ t. t * width g) (length-take-le i js k) ∙ ap (λ t. i * t) (sym q) in
      let t : take (i + 1) js ≡ take i js ++ (get_or js i 0 ∷ []) = ap (λ n. take n js) (add-one i) ∙ take-suc js i 0 h in
      ap (λ l. sets l (i * b) (block_in g at a (get_or js i 0))) o
      ∙ ap (λ s. sets (sets d 0 (blocks_in g at a (take i js))) s (block_in g at a (get_or js i 0))) (sym (zero-add (i * b)))
      ∙ sets_next d 0 (blocks_in g at a (take i js)) (block_in g at a (get_or js i 0)) (i * b) e
      ∙ ap (sets d 0) (sym (ap (blocks_in g at a) t ∙ blocks_in_snoc g at a (take i js) (get_or js i 0)))
