-- The present entry is replaced by that of another chunk. Assumes nothing.
use Prim.Native.Nat.{ℕ, ◌+◌, ◌-◌, ◌*◌, ◌≤◌}
use native.Mathlib.Omega.{arith}
use mathlib.Core.Path.{◌≡◌, ap, sym, ◌∙◌}
use mathlib.Core.List.{List, ◌++◌}
use lib.ListN.{length, take, drop}
use lib.Seq.{sets, sets-eq, paste}
use Rattle.area.specs.Area.{part}
use Rattle.area.proofs.Sets.{length_part, part_sets_after}
use Rattle.blocks.specs.declared.Params.{Params}
use Rattle.frame.specs.Params.{width}
use Rattle.frame.specs.Chunks.{entry_at, store_entry, present_at, chunk_bytes, list_bytes, chunk_at, block_place}

-- what `copy_within` leaves
pub moved_within : (a b : List ℕ) (at from to n : ℕ) → to ≡ from + n → to ≤ length a → at + n ≤ length a
    → b ≡ paste a at (drop from a) (to - from) → b ≡ sets a at (part a from n)
moved_within a b at from to n e h k f =
    let m : to - from ≡ n = omega arith in
    let l : length (part a from n) ≡ n = length_part a from n (omega arith) in
    f
    ∙ ap (paste a at (drop from a)) m
    ∙ sym (sets-eq (part a from n) a at (omega (arith, l)) ∙ ap (λ (z : ℕ). take at a ++ part a from n ++ drop (at + z) a) l)

-- both parts of chunk p were copied
pub replaced : (g : Params) (a b d : List ℕ) (p w : ℕ) → 1 ≤ p → 32 * g.n ≤ list_bytes → chunk_at p + chunk_bytes ≤ length a → w ≡ width g
    → b ≡ sets a 0 (part a (chunk_at p) (32 * g.n)) → d ≡ sets b list_bytes (part b (block_place p) w) → d ≡ store_entry a present_at (entry_at g a p)
unfolding store_entry entry_at
replaced g a b d p w h n l k e f =
    let m : length (part a (chunk_at p) (32 * g.n)) ≡ 32 * g.n = length_part a (chunk_at p) (32 * g.n) (omega arith) in
    let o : part b (block_place p) w ≡ part a (block_place p) w =
    ap (λ (z : List ℕ). part z (block_place p) w) e ∙ part_sets_after a 0 (part a (chunk_at p) (32 * g.n)) (block_place p) w (omega arith) in
    f ∙ ap (sets b list_bytes) (o ∙ ap (part a (block_place p)) k) ∙ ap (λ (z : List ℕ). sets z list_bytes (part a (block_place p) (width g))) e
