-- What is proved of blocks (`Exact`; its proof is in proofs/Exactly.antt), without a word on how decoding is done. Demand 2: "any k blocks of one value give
-- that value". Request F-7: "gives the value exactly if all lie on one encoding with zero padding; otherwise they disagree". Assumes nothing: these are
-- definitions and statements.
use Rattle.std.specs.Prelude.{ℕ, ◌*◌, ◌<◌, ◌≤◌, ◌≡◌, List, length, Ok}
use Rattle.std.proofs.Math.Option.{none, some}
use Rattle.std.proofs.lemmas.List.Edits.{sets}
use Rattle.area.specs.Area.{Bytes}
use Rattle.area.specs.Responses.{turned_down, gives}
use Rattle.blocks.specs.declared.Params.{Params}
use Rattle.blocks.specs.Poly.{Distinct}
use Rattle.blocks.specs.Code.{block_length, blocks_of, value_of, decoded_all}
use Rattle.blocks.specs.Calls.{told, decode_test, decoding}

-- v is a value of L bytes, and w its blocks with the numbers js
pub record BlocksOf (k L : ℕ) (js w v : List ℕ) : Type 0 where
  pub long : length v ≡ L
  pub bytes : Bytes v
  pub blocks : blocks_of k v js ≡ w

-- k blocks or more, of b bytes each; their numbers are bytes, and different
pub record Given (k L : ℕ) (js w : List ℕ) : Type 0 where
  pub one : 1 ≤ k
  pub enough : k ≤ length js
  pub numbers : Bytes js
  pub different : Distinct js
  pub whole : length w ≡ length js * block_length L k

-- the outcome of the call `decode`, where no test turned it down
pub record Called (g : Params) (js w out : List ℕ) : Type 0 where
  -- it answers v exactly if the blocks are v's
  pub answers : (v : List ℕ) → BlocksOf g.k g.size js w v → decoding g js w out ≡ told (gives tt) (sets out 0 v)
  pub answered : (decoding g js w out).answer ≡ gives tt
      → (v : List ℕ) × BlocksOf g.k g.size js w v × (decoding g js w out ≡ told (gives tt) (sets out 0 v))
  -- refusal 21, exactly if there is no value that has them all
  pub disagrees : ((v : List ℕ) → BlocksOf g.k g.size js w v → ⊥) → decoding g js w out ≡ told (turned_down 21) out
  pub disagreed : (decoding g js w out).answer ≡ turned_down 21 → (v : List ℕ) → BlocksOf g.k g.size js w v → ⊥

pub record Exact : Type 0 where
  -- any k blocks of one value give that value
  pub any : (js v : List ℕ) (k L : ℕ) → length js ≡ k → length v ≡ L → 0 < k → Bytes js → Distinct js → Bytes v → value_of js L (blocks_of k v js) ≡ v
  -- the value is given exactly if the blocks are its blocks
  pub given_is : (k L : ℕ) (js w v : List ℕ) → Given k L js w → decoded_all k L js w ≡ some v → BlocksOf k L js w v
  pub is_given : (k L : ℕ) (js w v : List ℕ) → Given k L js w → BlocksOf k L js w v → decoded_all k L js w ≡ some v
  -- they disagree exactly if no value has them all
  pub none_has : (k L : ℕ) (js w : List ℕ) → Given k L js w → decoded_all k L js w ≡ none → (v : List ℕ) → BlocksOf k L js w v → ⊥
  pub has_none : (k L : ℕ) (js w : List ℕ) → Given k L js w → ((v : List ℕ) → BlocksOf k L js w v → ⊥) → decoded_all k L js w ≡ none
  -- the same of the call
  pub called : (g : Params) (js w out : List ℕ) → decode_test g js (length w) (length out) ≡ Ok tt → Called g js w out
