-- The block code of document 01, "Blocks", in its order. Assumes nothing: these are definitions.
use Rattle.std.specs.Prelude.{ℕ, ◌+◌, ◌*◌, ◌-◌, ◌/◌, List, [], ◌∷◌, ◌++◌, Bool, length, get_or, take, replicate}
use Rattle.std.proofs.Math.Option.{Option, none, some}
use Rattle.area.specs.Area.{pick, part, same, table, joined}
use Rattle.blocks.specs.Poly.{eval, through}

-- "b = L / k bytes, rounded up"
unfoldable pub block_length : ℕ → ℕ → ℕ
block_length L k = (L + (k - 1)) / k

-- "The value is padded with zeros to k × b bytes"
unfoldable pub padded : ℕ → List ℕ → List ℕ
padded n v = v ++ replicate (n - length v) 0

-- "Stripe r holds bytes r × k to r × k + k - 1"
unfoldable pub stripe : ℕ → List ℕ → ℕ → List ℕ
stripe k w r = part w (r * k) k

-- "Byte r of block j is that polynomial at j", for a value v
unfoldable pub block_byte : ℕ → List ℕ → ℕ → ℕ → ℕ
block_byte k v j r = eval (stripe k (padded (k * block_length (length v) k) v) r) j

-- block j of the value v
unfoldable pub block_of : ℕ → List ℕ → ℕ → List ℕ
block_of k v j = table (block_length (length v) k) (block_byte k v j)

-- blocks 1 to n of the value v, end to end
unfoldable pub encoded : ℕ → ℕ → List ℕ → List ℕ
encoded n k v = joined (block_of k v) 1 n

-- byte r of each of k blocks of b bytes, which lie end to end in w
unfoldable pub row : ℕ → ℕ → List ℕ → ℕ → List ℕ
row k b w r = table k (λ i. get_or w (i * b + r) 0)

-- the value of L bytes from the blocks with the numbers js, which lie end to end in w: "Decoding gives the first L bytes"
unfoldable pub value_of : List ℕ → ℕ → List ℕ → List ℕ
value_of js L w =
    take L (joined (λ r. through js (row (length js) (block_length L (length js)) w r)) 0 (block_length L (length js)))

-- the blocks of v with the numbers js, end to end
unfoldable pub blocks_of : ℕ → List ℕ → List ℕ → List ℕ
blocks_of k v [] = []
blocks_of k v (j ∷ js) = block_of k v j ++ blocks_of k v js

-- ---- request F-7: k blocks or more, with the numbers js, end to end in w

-- the value of L bytes that the first k of them give
unfoldable pub candidate : ℕ → ℕ → List ℕ → List ℕ → List ℕ
candidate k L js w = value_of (take k js) L (take (k * block_length L k) w)

-- whether every one of them is that value's: "all lie on one encoding with zero padding"
unfoldable pub agree : ℕ → ℕ → List ℕ → List ℕ → Bool
agree k L js w = same (blocks_of k (candidate k L js w) js) w

-- "gives the value exactly if" they agree; "otherwise they disagree"
unfoldable pub decoded_all : ℕ → ℕ → List ℕ → List ℕ → Option (List ℕ)
decoded_all k L js w = pick (agree k L js w) (some (candidate k L js w)) none
