-- Digest lists, and values from the blocks that servers sent. H is the digest; it is never unfolded. Assumes nothing: these are definitions.
use Rattle.std.specs.Prelude.{ℕ, zero, suc, ◌*◌, ◌-◌, Bool, false, List, [], ◌∷◌, ◌++◌, map}
use Rattle.std.proofs.Math.Option.{Option, none, some}
use Rattle.area.specs.Area.{pick, part, same, joined}
use Rattle.blocks.specs.declared.Params.{Params}
use Rattle.blocks.specs.Code.{block_of, candidate, agree, decoded_all}
use Rattle.frame.specs.Refusals.{refused, Verdict, fine}
use Rattle.frame.specs.Messages.{Entry, entry}

-- a block with its number
pub record Piece : Type 0 where
  pub number : ℕ
  pub bytes : List ℕ

-- whether an entry is there and has the list d
abbrev pub has_list : Option Entry → List ℕ → Bool
has_list none d = false
has_list (some e) d = same e.digests d

abbrev pub piece_of : Option Entry → List ℕ → ℕ → List Piece → List Piece
piece_of none d j l = l
piece_of (some e) d j l = pick (same e.digests d) (record { number = j; bytes = e.block } ∷ l) l

-- the blocks of the m servers from j on that sent the list d, by rising number
unfoldable pub pieces : (ℕ → Option Entry) → List ℕ → ℕ → ℕ → List Piece
pieces f d j zero = []
pieces f d j (suc m) = piece_of (f j) d j (pieces f d (suc j) m)

abbrev pub numbers : List Piece → List ℕ
numbers l = map (λ p. p.number) l

abbrev pub joined_bytes : List Piece → List ℕ
joined_bytes [] = []
joined_bytes (p ∷ l) = p.bytes ++ joined_bytes l

-- ---- request F-7: "with all blocks of the chosen group", those of the servers that sent the list d

-- the value that the k lowest of them give
unfoldable pub lowest_value : Params → (ℕ → Option Entry) → List ℕ → List ℕ
lowest_value g f d =
    let l = pieces f d 1 g.n in
    candidate g.k g.size (numbers l) (joined_bytes l)

-- whether all are blocks of that value
unfoldable pub agreeing : Params → (ℕ → Option Entry) → List ℕ → Bool
agreeing g f d =
    let l = pieces f d 1 g.n in
    agree g.k g.size (numbers l) (joined_bytes l)

-- the value, if they agree
unfoldable pub decoded : Params → (ℕ → Option Entry) → List ℕ → Option (List ℕ)
decoded g f d =
    let l = pieces f d 1 g.n in
    decoded_all g.k g.size (numbers l) (joined_bytes l)

module _ (H : List ℕ → List ℕ) (g : Params) where
  -- block j of a value
  abbrev pub block_at : List ℕ → ℕ → List ℕ
  block_at v j = block_of g.k v j

  -- "A digest list holds the n digests of the blocks, 32 bytes each"
  unfoldable pub digests_of : List ℕ → List ℕ
  digests_of v = joined (λ j. H (block_at v j)) 1 g.n

  -- what server j holds of a value
  unfoldable pub entry_of : List ℕ → ℕ → Entry
  entry_of v j = entry (digests_of v) (block_at v j)

-- whether an entry's block has the digest at place j of its list
unfoldable pub fits : (List ℕ → List ℕ) → Entry → ℕ → Bool
fits H e j = same (H e.block) (part e.digests (32 * j - 32) 32)

-- refusal 14: "block against its digest"
unfoldable pub fit_test : (List ℕ → List ℕ) → Entry → ℕ → Verdict
fit_test H e j = pick (fits H e j) fine (refused 14)
