-- The blocks that a client decodes: whose they are, and that no two have one number; the digests of a list. Assumes nothing.
use Prim.Native.Nat.{ℕ, zero, suc, ◌+◌, ◌*◌, ◌-◌, ◌≤◌, ◌<◌}
use native.Mathlib.Omega.{arith}
use mathlib.Core.Bool.{Bool, true, false}
use mathlib.Core.Path.{◌≡◌, refl, ap, sym, ◌∙◌}
use mathlib.Core.Logic.{◌⊎◌, inl, inr, ⊎_elim}
use mathlib.Core.Option.{Option, none, some}
use mathlib.Core.List.Memᴰ
use mathlib.Core.List.{List, [], ◌∷◌, ◌++◌, Memᴰ}
use lib.ListN.{length, take, drop}
use lib.Seq.{take_at, drop_at, drop-drop}
use Rattle.quorum.proofs.Logic.{impossible}
use Rattle.area.specs.Area.{joined, part, pick, same}
use Rattle.area.proofs.Same.{same_true, same_refl}
use Rattle.blocks.specs.declared.Params.{Params}
use Rattle.blocks.specs.Code.{blocks_of}
use Rattle.blocks.specs.Poly.{All, Distinct}
use Rattle.group_rules.specs.Coded.{Piece, piece_of, pieces, numbers, joined_bytes, block_at, digests_of}
use Rattle.frame.specs.Messages.{Entry}

pub record Holds (f : ℕ → Option Entry) (d : List ℕ) (j m : ℕ) (p : Piece) : Type 0 where
  pub low : j ≤ p.number
  pub high : p.number < j + m
  pub entry : Entry
  pub is : f p.number ≡ some entry
  pub list : entry.digests ≡ d
  pub block : p.bytes ≡ entry.block

holds_next : (f : ℕ → Option Entry) (d : List ℕ) (j m : ℕ) (p : Piece) → Holds f d (suc j) m p → Holds f d j (suc m) p
holds_next f d j m p h = record {
  low = omega (arith, h.low);
  high = omega (arith, h.high);
  entry = h.entry;
  is = h.is;
  list = h.list;
  block = h.block;
}

pub pieces_in : (f : ℕ → Option Entry) (d : List ℕ) (j m : ℕ) (p : Piece) → Memᴰ p (pieces f d j m) → Holds f d j m p
unfolding pieces pick
pieces_in f d j zero p u = absurd (Memᴰ.not-nil u)
pieces_in f d j (suc m) p u = go (λ w. pieces_in f d (suc j) m p w) (f j) refl u
  where
    go : (Memᴰ p (pieces f d (suc j) m) → Holds f d (suc j) m p) → (o : Option Entry) → f j ≡ o → Memᴰ p (piece_of o d j (pieces f d (suc j) m))
        → Holds f d j (suc m) p
    go i none e u = holds_next f d j m p (i u)
    go i (some x) e u = by (same x.digests d) refl u
      where
        by : (b : Bool) → same x.digests d ≡ b → Memᴰ p (pick b (record { number = j; bytes = x.block } ∷ pieces f d (suc j) m) (pieces f d (suc j) m))
            → Holds f d j (suc m) p
        by false s u = holds_next f d j m p (i u)
        by true s u = ⊎_elim
            (λ z. record {
              low = omega (arith, ap (λ y. y.number) z);
              high = omega (arith, ap (λ y. y.number) z);
              entry = x;
              is = ap f (ap (λ y. y.number) z) ∙ e;
              list = same_true _ _ s;
              block = ap (λ y. y.bytes) z;
            })
            (λ v. holds_next f d j m p (i v))
            (Memᴰ.cases_cons u)

pub all_numbers : (P : ℕ → Type 0) (l : List Piece) → ((p : Piece) → Memᴰ p l → P p.number) → All P (numbers l)
all_numbers P [] h = tt
all_numbers P (p ∷ l) h = (h p (Memᴰ.head refl), all_numbers P l (λ q m. h q (Memᴰ.tail m)))

pub pieces_apart : (f : ℕ → Option Entry) (d : List ℕ) (j m : ℕ) → Distinct (numbers (pieces f d j m))
unfolding pieces pick
pieces_apart f d j zero = tt
pieces_apart f d j (suc m) = go (f j) (pieces_apart f d (suc j) m)
  where
    go : (o : Option Entry) → Distinct (numbers (pieces f d (suc j) m)) → Distinct (numbers (piece_of o d j (pieces f d (suc j) m)))
    go none h = h
    go (some x) h = by (same x.digests d)
      where
        by : (b : Bool) → Distinct (numbers (pick b (record { number = j; bytes = x.block } ∷ pieces f d (suc j) m) (pieces f d (suc j) m)))
        by false = h
        by true = (all_numbers (λ z. z ≡ j → ⊥) (pieces f d (suc j) m) (λ p u e. omega (arith, (pieces_in f d (suc j) m p u).low, e)), h)

-- ---- two lists are equal or not

pub list-equal? : (a b : List ℕ) → (a ≡ b) ⊎ (a ≡ b → ⊥)
list-equal? a b = go (same a b) refl
  where
    go : (z : Bool) → same a b ≡ z → (a ≡ b) ⊎ (a ≡ b → ⊥)
    go true e = inl (same_true a b e)
    go false e = inr (λ h. impossible (cc (e, ap (same a) h, same_refl a)))

module _ (H : List ℕ → List ℕ) (g : Params) (size : (b : List ℕ) → length (H b) ≡ 32) where
  digest_at_lem : (v : List ℕ) (a m i : ℕ) → i < m → part (joined (λ j. H (block_at H g v j)) a m) (32 * i) 32 ≡ H (block_at H g v (a + i))
  unfolding joined
  digest_at_lem v a zero i h = absurd (omega arith)
  digest_at_lem v a (suc m) zero h =
      let e : a + 0 ≡ a = omega arith in
      take_at (H (block_at H g v a)) (joined (λ j. H (block_at H g v j)) (suc a) m) 32 (size _) ∙ ap (λ z. H (block_at H g v z)) (sym e)
  digest_at_lem v a (suc m) (suc i) h =
      let e : 32 * suc i ≡ 32 + 32 * i = omega arith in
      let k : suc a + i ≡ a + suc i = omega arith in
      let l = H (block_at H g v a) ++ joined (λ j. H (block_at H g v j)) (suc a) m in
      ap (λ z. take 32 (drop z l)) e
      ∙ ap (take 32) (sym (drop-drop (32 * i) 32 l)
      ∙ ap (drop (32 * i)) (drop_at (H (block_at H g v a)) (joined (λ j. H (block_at H g v j)) (suc a) m) 32 (size _)))
      ∙ digest_at_lem v (suc a) m i (omega arith)
      ∙ ap (λ z. H (block_at H g v z)) k

  pub digest_of_lem : (v : List ℕ) (j : ℕ) → 1 ≤ j → j ≤ g.n → part (digests_of H g v) (32 * j - 32) 32 ≡ H (block_at H g v j)
  unfolding digests_of
  digest_of_lem v j l h =
      let e : 32 * j - 32 ≡ 32 * (j - 1) = omega arith in
      let k : 1 + (j - 1) ≡ j = omega arith in
      ap (λ z. part (joined (λ j. H (block_at H g v j)) 1 g.n) z 32) e ∙ digest_at_lem v 1 g.n (j - 1) (omega arith) ∙ ap (λ z. H (block_at H g v z)) k

  -- blocks of a value, one after the other
  pub joined_blocks : (v : List ℕ) (l : List Piece) → ((p : Piece) → Memᴰ p l → p.bytes ≡ block_at H g v p.number)
      → joined_bytes l ≡ blocks_of g.k v (numbers l)
  unfolding blocks_of
  joined_blocks v [] h = refl
  joined_blocks v (p ∷ l) h =
      let e = h p (Memᴰ.head refl) in
      let f = joined_blocks v l (λ q m. h q (Memᴰ.tail m)) in
      λ z. e z ++ f z
