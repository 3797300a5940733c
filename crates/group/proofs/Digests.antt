-- Lists of 32 bytes end to end, as loops store them and compare them with a digest list. Assumes nothing.
use mathlib.Core.Path.{◌≡◌, sym, ap, ap₂, ◌∙◌}
use mathlib.Core.Bool.{Bool, true, ◌&&◌}
use mathlib.Core.List.{List, ◌++◌}
use Prim.Native.Nat.{ℕ, suc, ◌+◌, ◌-◌, ◌*◌, ◌≤◌, ◌<◌}
use native.Mathlib.Nat.{div-le_of_le-mul}
use native.Mathlib.Omega.{arith}
use lib.ListN.{length, take, drop, length-drop, drop_of_length-le}
use lib.Seq.{sets, drop-drop}
use Rattle.area.specs.Area.{part, same, joined}
use Rattle.area.proofs.Sets.{sets_next, take_front}
use Rattle.area.proofs.Fills.{joined_snoc, length_joined}
use Rattle.blocks.specs.declared.Params.{Params}
use Rattle.blocks.specs.Code.{block_length, block_of}
use Rattle.blocks.proofs.Stripes.{length_block_of}
use Rattle.sha256.specs.Hash.{digest_of}
use Rattle.sha256.proofs.Bytes.{length_digest}
use Rattle.frame.specs.Params.{listed}
use Rattle.group_rules.specs.Coded.{digests_of}
use Rattle.group.proofs.Lists.{same_split}

module _ (f : ℕ → List ℕ) (sized : (j : ℕ) → length (f j) ≡ 32) where
  -- f (j + 1) was stored after f 1 to f j
  pub joined_turn : (d out x : List ℕ) (at j : ℕ) → out ≡ sets d at (joined f 1 j) → x ≡ f (j + 1)
      → sets out (at + 32 * j) x ≡ sets d at (joined f 1 (j + 1))
  joined_turn d out x at j o e =
      let n : length (joined f 1 j) ≡ 32 * j = length_joined f 32 1 j sized ∙ omega arith in
      let s : 1 + j ≡ j + 1 = omega arith in
      ap₂ (λ l y. sets l (at + 32 * j) y) o e
      ∙ sets_next d at (joined f 1 j) (f (j + 1)) (32 * j) n
      ∙ ap (sets d at) (sym (joined_snoc f 1 j ∙ ap (λ t. joined f 1 j ++ f t) s))

  pub joined_end : (d out : List ℕ) (at j n : ℕ) → n ≤ j → j ≤ n → out ≡ sets d at (joined f 1 j) → out ≡ sets d at (joined f 1 n)
  joined_end d out at j n a b o = let q : j ≡ n = omega arith in o ∙ ap (λ i. sets d at (joined f 1 i)) q

  module _ (n : ℕ) (list : List ℕ) (whole : length list ≡ 32 * n) where
    -- what is left to compare once f 1 to f j were found in their places
    abbrev pub rest : ℕ → Bool
    rest j = same (joined f (j + 1) (n - j)) (drop (32 * j) list)

    pub rest_start : same (joined f 1 n) list ≡ rest 0
    rest_start = let e : n ≡ n - 0 = omega arith in ap (λ m. same (joined f 1 m) list) e

    pub rest_split : (j : ℕ) → j < n → rest j ≡ same (f (j + 1)) (part list (32 * j) 32) && rest (j + 1)
    unfolding joined
    rest_split j h =
        let e : n - j ≡ suc (n - (j + 1)) = omega arith in
        let u : suc (j + 1) ≡ j + 1 + 1 = omega arith in
        let v : 32 * j + 32 ≡ 32 * (j + 1) = omega arith in
        let k : length (f (j + 1)) ≤ length (drop (32 * j) list) = rw (sized (j + 1), length-drop (32 * j) list) (omega arith) in
        ap (λ m. same (joined f (j + 1) m) (drop (32 * j) list)) e
        ∙ same_split (f (j + 1)) (joined f (suc (j + 1)) (n - (j + 1))) (drop (32 * j) list) k
        ∙ ap (λ w. same (f (j + 1)) (take w (drop (32 * j) list)) && same (joined f (suc (j + 1)) (n - (j + 1))) (drop w (drop (32 * j) list))) (sized (j + 1))
        ∙ ap₂ (λ i l. same (f (j + 1)) (part list (32 * j) 32) && same (joined f i (n - (j + 1))) l) u (drop-drop 32 (32 * j) list ∙ ap (λ i. drop i list) v)

    pub rest_end : (j : ℕ) → n ≤ j → rest j ≡ true
    unfolding joined same
    rest_end j h =
        let e : n - j ≡ 0 = omega arith in
        let k : length list ≤ 32 * j = omega arith in
        ap₂ (λ m l. same (joined f (j + 1) m) l) e (drop_of_length-le list k)

-- ---- the digest of one block

pub short_block : (L k : ℕ) → 1 ≤ k → L ≤ 256 → block_length L k ≤ 256
unfolding block_length
short_block L k a h = div-le_of_le-mul k (omega arith)

-- r is the digest of the first b bytes of an area in whose front block j was stored
pub digest_law : (k j b : ℕ) (v d block r : List ℕ) → 1 ≤ k → length v ≤ 256 → 256 ≤ length d → b ≡ block_length (length v) k
    → block ≡ sets d 0 (block_of k v j) → r ≡ digest_of (take b block) → r ≡ digest_of (block_of k v j)
digest_law k j b v d block r a h m e s q =
    let w = short_block (length v) k a h in
    let n : b ≤ length d = omega arith in
    q ∙ ap (λ l. digest_of (take b l)) s ∙ ap digest_of (take_front d (block_of k v j) b (length_block_of k v j ∙ sym e) n)

-- the digests of a value's blocks are of 32 bytes, and their list has its length
pub block_digests : (k : ℕ) (v : List ℕ) (j : ℕ) → length (digest_of (block_of k v j)) ≡ 32
block_digests k v j = length_digest (block_of k v j)

pub length_digests : (g : Params) (v : List ℕ) → length (digests_of digest_of g v) ≡ listed g
unfolding digests_of
length_digests g v = length_joined (λ j. digest_of (block_of g.k v j)) 32 1 g.n (block_digests g.k v) ∙ omega arith
