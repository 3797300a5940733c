-- The group from which a value is decoded: the servers that are flagged, the k lowest of them, and their blocks. Assumes nothing: these are definitions.
use Rattle.std.specs.Prelude.{ℕ, zero, suc, Bool, List, [], ◌∷◌, ◌++◌, get_or, take}
use Rattle.area.specs.Area.{pick, same}
use Rattle.blocks.specs.declared.Params.{Params}
use Rattle.blocks.specs.Code.{value_of, blocks_of}
use Rattle.frame.specs.Chunks.{entry_at}
use Rattle.group.specs.Entries.{marked}

-- those of the m servers from j on that pass a test, by rising number
unfoldable pub chosen : (ℕ → Bool) → ℕ → ℕ → List ℕ
chosen p j zero = []
chosen p j (suc m) = pick (p j) (j ∷ chosen p (suc j) m) (chosen p (suc j) m)

-- the k lowest of servers 1 to n that pass a test
unfoldable pub lowest : (ℕ → Bool) → ℕ → ℕ → List ℕ
lowest p k n = take k (chosen p 1 n)

-- the block in server j's chunk
abbrev pub block_in : Params → List ℕ → List ℕ → ℕ → List ℕ
block_in g at a j = (entry_at g a (get_or at j 0)).block

-- the blocks of servers js, end to end
unfoldable pub blocks_in : Params → List ℕ → List ℕ → List ℕ → List ℕ
blocks_in g at a [] = []
blocks_in g at a (j ∷ js) = block_in g at a j ++ blocks_in g at a js

-- the value from the k lowest flagged servers
unfoldable pub value_from : Params → List Bool → List ℕ → List ℕ → List ℕ
value_from g on at a =
    value_of (lowest (marked on) g.k g.n) g.size (blocks_in g at a (lowest (marked on) g.k g.n))

-- whether the blocks of all flagged servers are those of the value v
unfoldable pub all_of : Params → List Bool → List ℕ → List ℕ → List ℕ → Bool
all_of g on at a v = same (blocks_of g.k v (chosen (marked on) 1 g.n)) (blocks_in g at a (chosen (marked on) 1 g.n))
