-- Blocks that were in frames and have the digests of a value's list decode to that value, or two different blocks of the run with one digest are shown: k or
-- more blocks of a value decode to it. Assumes nothing.
use Prim.Native.Nat.{ℕ, ◌*◌, ◌-◌, ◌≤◌, ◌<◌}
use native.Mathlib.Omega.{arith}
use mathlib.Core.Bool.{true}
use mathlib.Core.Path.{◌≡◌, refl, ap, sym, ◌∙◌}
use mathlib.Core.Logic.{◌⊎◌, inl, inr, ⊎_elim}
use mathlib.Core.Option.{Option, some}
use mathlib.Core.List.Memᴰ
use mathlib.Core.List.{List, [], ◌∷◌, Memᴰ}
use lib.ListN.{length, length-map}
use Rattle.quorum.specs.Quorum.{count, Among}
use Rattle.area.specs.Area.{Bytes, part}
use Rattle.area.proofs.Same.{same_true}
use Rattle.blocks.specs.Code.{block_length}
use Rattle.blocks.specs.Poly.{All}
use Rattle.blocks.proofs.Exactly.{is_given, length_blocks_of}
use Rattle.frame.specs.Messages.{Entry}
use Rattle.group_rules.specs.Coded.{Piece, has_list, pieces, numbers, joined_bytes, block_at, digests_of, decoded, fits}
use Rattle.server_rules.proofs.Decoding.{all_pieces}
use Rattle.runs.specs.Blocks.{InFrame, Origin, in_frame, Collision}
use Rattle.runs.specs.Events.{At}
use Rattle.runs.specs.World.{Setup, Call}
use Rattle.runs.proofs.Pieces.{pieces_in, all_numbers, pieces_apart, list-equal?, digest_of_lem, joined_blocks}
use Rattle.runs.proofs.Assumed.{Assumed}

numbers_bytes_lem : (l : List ℕ) → All (λ z. z < 256) l → Bytes l
numbers_bytes_lem [] h = tt
numbers_bytes_lem (x ∷ l) h = (h.0, numbers_bytes_lem l h.1)

module _ (Z : Setup) (G : Assumed Z) (ks : List Call) where
  open Z use {H, g}

  -- a value of the run: its blocks are of it
  pub record Source (v : List ℕ) : Type 0 where
    pub size : length v ≡ g.size
    pub bytes : Bytes v
    pub from : (j : ℕ) → Among g.n j → Origin Z ks (block_at H g v j)

  -- ---- a block beside the value's

  record Same (v : List ℕ) (p : Piece) : Type 0 where
    pub digest : H p.bytes ≡ H (block_at H g v p.number)
    pub one : Origin Z ks p.bytes
    pub other : Origin Z ks (block_at H g v p.number)

  compare_all : (v : List ℕ) (l : List Piece) → ((p : Piece) → Memᴰ p l → Same v p)
      → ((p : Piece) → Memᴰ p l → p.bytes ≡ block_at H g v p.number) ⊎ Collision Z ks
  compare_all v [] f = inl (λ p m. absurd (Memᴰ.not-nil m))
  compare_all v (q ∷ l) f = go (compare_all v l (λ p m. f p (Memᴰ.tail m))) (list-equal? q.bytes (block_at H g v q.number))
    where
      go : ((p : Piece) → Memᴰ p l → p.bytes ≡ block_at H g v p.number) ⊎ Collision Z ks
          → (q.bytes ≡ block_at H g v q.number) ⊎ (q.bytes ≡ block_at H g v q.number → ⊥)
          → ((p : Piece) → Memᴰ p (q ∷ l) → p.bytes ≡ block_at H g v p.number) ⊎ Collision Z ks
      go (inr c) d = inr c
      go (inl h) (inl e) = inl (λ p m. ⊎_elim (λ z. rw z e) (λ u. h p u) (Memᴰ.cases_cons m))
      go (inl h) (inr e) =
          let w = f q (Memᴰ.head refl) in
          inr (record { left = q.bytes; right = block_at H g v q.number; differ = e; alike = w.digest; left_from = w.one; right_from = w.other })

  -- ---- k entries with the value's list

  module _ (f : ℕ → Option Entry) (d : List ℕ) (many : g.k ≤ count (λ j. has_list (f j) d) g.n)
      (fit : (j : ℕ) (e : Entry) → Among g.n j → f j ≡ some e → fits H e j ≡ true)
      (carried : (j : ℕ) (e : Entry) → Among g.n j → f j ≡ some e → (p : ℕ) × At (InFrame Z e.block) ks p)
      (v : List ℕ) (S : Source v) (same-list : digests_of H g v ≡ d) where
    abbrev held : List Piece
    held = pieces f d 1 g.n

    in_range_lem : (p : Piece) → Memᴰ p held → Among g.n p.number
    in_range_lem p m = let h = pieces_in f d 1 g.n p m in (h.low, omega (arith, h.high))

    each : (p : Piece) → Memᴰ p held → Same v p
    unfolding fits
    each p m =
        let h = pieces_in f d 1 g.n p m in
        let i = in_range_lem p m in
        let e : H h.entry.block ≡ part h.entry.digests (32 * p.number - 32) 32 = same_true _ _ (fit p.number h.entry i h.is) in
        let c = carried p.number h.entry i h.is in
        record {
          digest = ap H h.block ∙ e ∙ ap (λ z. part z (32 * p.number - 32) 32) (h.list ∙ sym same-list)
              ∙ digest_of_lem H g G.digest_size v p.number i.0 i.1;
          one = rw h.block (in_frame c.0 c.1);
          other = S.from p.number i;
        }

    enough : g.k ≤ length (numbers held)
    enough =
        let a = all_pieces f d g.n in
        omega (arith, a, length-map held (λ p. p.number), many)

    decodes : ((p : Piece) → Memᴰ p held → p.bytes ≡ block_at H g v p.number) → decoded g f d ≡ some v
    unfolding decoded
    decodes e =
        let js = numbers held in
        let w = joined_blocks H g G.digest_size v held e in
        is_given g.k g.size js (joined_bytes held) v
        (record {
          one = G.bounded.blocks_low;
          enough = enough;
          numbers = numbers_bytes_lem js (all_numbers (λ z. z < 256) held (λ p m. omega (arith, (in_range_lem p m).1, G.bounded.servers_high)));
          different = pieces_apart f d 1 g.n;
          whole = ap length w ∙ length_blocks_of g.k v js ∙ ap (λ n. length js * block_length n g.k) S.size;
        })
        (record { long = S.size; bytes = S.bytes; blocks = sym w })

    pub one_value : (decoded g f d ≡ some v) ⊎ Collision Z ks
    one_value = ⊎_elim (λ e. inl (decodes e)) (λ c. inr c) (compare_all v held each)
