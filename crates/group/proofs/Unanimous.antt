-- The blocks of the flagged servers compared with those of a value, one server after the other. Assumes nothing.
use Prim.Native.Nat.{ℕ, zero, suc, ◌+◌, ◌-◌, ◌*◌, ◌≤◌, ◌<◌}
use native.Mathlib.Nat.{suc-mul, zero-mul}
use native.Mathlib.Omega.{arith}
use mathlib.Core.Path.{◌≡◌, refl, sym, ap, ap₂, ◌∙◌}
use mathlib.Core.Bool.{Bool, true, false, ◌&&◌, not}
use mathlib.Core.List.{List, [], ◌∷◌, ◌++◌}
use lib.ListN.{length, get_or, take, length-append}
use lib.Seq.{take_all, take_at, drop_at, take-nil, take-append-add}
use borrow.Author.Tests.{not-true, not-false}
use Rattle.area.specs.Area.{pick, part, same}
use Rattle.blocks.specs.declared.Params.{Params}
use Rattle.blocks.specs.Code.{block_length, block_of, blocks_of}
use Rattle.blocks.proofs.Stripes.{length_block_of}
use Rattle.frame.specs.Params.{width, Bounded}
use Rattle.frame.specs.Chunks.{chunk_bytes, chunk_at}
use Rattle.group.specs.Entries.{marked, Within}
use Rattle.group.specs.Choice.{chosen, block_in, blocks_in, all_of}
use Rattle.group.proofs.Lists.{same_comm, same_split}
use Rattle.group.proofs.Collecting.{length_block_in}

-- a block that was compared from its start on
pub from_start : (b : ℕ) (w u : List ℕ) (r : Bool) → length w ≡ b → r ≡ same (part w 0 b) u → r ≡ same w u
from_start b w u r e q = q ∙ ap (λ (l : List ℕ). same l u) (take_all b w (omega arith))

-- a server that is not flagged, and one that is
pub within_at : (at a : List ℕ) → Within at a → (j : ℕ) → chunk_at (get_or at j 0) + chunk_bytes ≤ length a
unfolding Within
within_at at a W j = W j

-- what is left to compare after the first j servers
abbrev pub left : Params → List ℕ → List ℕ → List Bool → List ℕ → ℕ → Bool
left g at a on v j = same (blocks_of g.k v (chosen (marked on) (j + 1) (g.n - j))) (blocks_in g at a (chosen (marked on) (j + 1) (g.n - j)))

-- whether server j is in order
abbrev pub in_order : Params → List ℕ → List ℕ → List Bool → List ℕ → ℕ → Bool
in_order g at a on v j = pick (marked on j) (same (block_in g at a j) (block_of g.k v j)) true

module _ (g : Params) (at a : List ℕ) (B : Bounded g) (W : Within at a) where
  -- the first k blocks of a row
  pub blocks_in_take : (k : ℕ) (js : List ℕ) → take (k * width g) (blocks_in g at a js) ≡ blocks_in g at a (take k js)
  unfolding blocks_in
  blocks_in_take zero js = ap (λ (n : ℕ). take n (blocks_in g at a js)) (zero-mul (width g))
  blocks_in_take (suc k) [] = take-nil (suc k * width g)
  blocks_in_take (suc k) (j ∷ js) =
      let e : suc k * width g ≡ length (block_in g at a j) + k * width g = omega (arith, suc-mul k (width g), length_block_in g at a B W j) in
      ap (λ (n : ℕ). take n (block_in g at a j ++ blocks_in g at a js)) e
      ∙ take-append-add (block_in g at a j) (blocks_in g at a js) (k * width g)
      ∙ ap (λ (l : List ℕ). block_in g at a j ++ l) (blocks_in_take k js)

  -- a block of a value, and a server's
  long : (v : List ℕ) (j : ℕ) → length v ≡ g.size → length (block_of g.k v j) ≡ length (block_in g at a j)
  unfolding width
  long v j s = length_block_of g.k v j ∙ ap (λ (n : ℕ). block_length n g.k) s ∙ sym (length_block_in g at a B W j)

  pub own_long : (v w : List ℕ) (j : ℕ) → length v ≡ g.size → w ≡ block_in g at a j → length w ≡ block_length (length v) g.k
  own_long v w j s e = ap length e ∙ sym (long v j s) ∙ length_block_of g.k v j

  module _ (on : List Bool) (v : List ℕ) (s : length v ≡ g.size) where
    pub left_start : all_of g on at a v ≡ left g at a on v 0
    unfolding all_of
    left_start =
        let e : g.n ≡ g.n - 0 = omega arith in
        ap (λ (m : ℕ). same (blocks_of g.k v (chosen (marked on) 1 m)) (blocks_in g at a (chosen (marked on) 1 m))) e

    pub in_order_lem : (w : List ℕ) (j : ℕ) (r : Bool) → w ≡ block_in g at a j → r ≡ pick (get_or on j false) (same w (block_of g.k v j)) true
        → r ≡ in_order g at a on v j
    unfolding marked
    in_order_lem w j r e q = q ∙ ap (λ (l : List ℕ). pick (get_or on j false) (same l (block_of g.k v j)) true) e

    one_more : (j : ℕ) (x y : List ℕ) → same (block_of g.k v j ++ x) (block_in g at a j ++ y) ≡ same (block_in g at a j) (block_of g.k v j) && same x y
    one_more j x y =
        let p : List ℕ = block_of g.k v j in
        let q : List ℕ = block_in g at a j in
        let n : length q ≡ length p = sym (long v j s) in
        same_split p x (q ++ y) (omega (arith, length-append q y, long v j s))
        ∙ ap₂ (λ (l m : List ℕ). same p l && same x m) (take_at q y (length p) n) (drop_at q y (length p) n)
        ∙ ap (λ (b : Bool). b && same x y) (same_comm p q)

    by_flag : (b : Bool) (j : ℕ) (js : List ℕ)
        → same (blocks_of g.k v (pick b (j ∷ js) js)) (blocks_in g at a (pick b (j ∷ js) js))
        ≡ pick b (same (block_in g at a j) (block_of g.k v j)) true && same (blocks_of g.k v js) (blocks_in g at a js)
    unfolding pick blocks_of blocks_in
    by_flag true j js = one_more j (blocks_of g.k v js) (blocks_in g at a js)
    by_flag false j js = refl

    pub left_split : (j : ℕ) → j < g.n → left g at a on v j ≡ in_order g at a on v (j + 1) && left g at a on v (j + 1)
    unfolding chosen
    left_split j h =
        let e : g.n - j ≡ suc (g.n - (j + 1)) = omega arith in
        let u : suc (j + 1) ≡ j + 1 + 1 = omega arith in
        ap (λ (m : ℕ). same (blocks_of g.k v (chosen (marked on) (j + 1) m)) (blocks_in g at a (chosen (marked on) (j + 1) m))) e
        ∙ by_flag (marked on (j + 1)) (j + 1) (chosen (marked on) (suc (j + 1)) (g.n - (j + 1)))
        ∙ ap (λ (i : ℕ). in_order g at a on v (j + 1)
        && same (blocks_of g.k v (chosen (marked on) i (g.n - (j + 1)))) (blocks_in g at a (chosen (marked on) i (g.n - (j + 1))))) u

    pub left_turn : (j : ℕ) (r : Bool) → j < g.n → r ≡ in_order g at a on v (j + 1) → not r ≡ false → all_of g on at a v ≡ left g at a on v j
        → all_of g on at a v ≡ left g at a on v (j + 1)
    left_turn j r h q t i = i ∙ left_split j h ∙ ap (λ (b : Bool). b && left g at a on v (j + 1)) (sym q ∙ not-false r t)

    pub left_out : (j : ℕ) (r : Bool) → j < g.n → r ≡ in_order g at a on v (j + 1) → not r ≡ true → all_of g on at a v ≡ left g at a on v j
        → false ≡ all_of g on at a v
    left_out j r h q t i = sym (i ∙ left_split j h ∙ ap (λ (b : Bool). b && left g at a on v (j + 1)) (sym q ∙ not-true r t))

    pub left_end : (j : ℕ) → g.n ≤ j → left g at a on v j ≡ true
    unfolding chosen blocks_of blocks_in same
    left_end j h =
        let e : g.n - j ≡ 0 = omega arith in
        ap (λ (m : ℕ). same (blocks_of g.k v (chosen (marked on) (j + 1) m)) (blocks_in g at a (chosen (marked on) (j + 1) m))) e
