-- What a server decodes of a write's frames: what it computes from enough of one time and digest list has the sizes of an entry, and a write becomes
-- complete with the digests of a value that was decoded. Assumes nothing.
use Prim.Native.Nat.{ℕ, zero, suc, ◌+◌, ◌*◌, ◌≤◌}
use native.Mathlib.Omega.{arith}
use mathlib.Core.Bool.{Bool, true, false, not, ◌&&◌}
use mathlib.Core.Path.{◌≡◌, refl, ap, ◌∙◌, subst}
use mathlib.Core.Logic.{◌⊎◌, inl, inr, ⊎_elim}
use mathlib.Core.Option.{Option, none, some}
use mathlib.Core.List.{List, [], ◌∷◌, Memᴰ}
use lib.ListN.{length, take, length-map}
use lib.Seq.{length-take-le}
use lib.Dec.{leb}
use borrow.Author.Tests.{leb-true, le-leb}
use Rattle.quorum.specs.Quorum.{count, bit}
use Rattle.quorum.proofs.Logic.{impossible, and_split, and_true, or_right}
use Rattle.area.specs.Area.{Bytes, pick, same}
use Rattle.area.proofs.Tests.{in_pick}
use Rattle.blocks.specs.declared.Params.{Params}
use Rattle.blocks.specs.Code.{block_of, block_length, candidate}
use Rattle.blocks.proofs.Stripes.{length_block_of}
use Rattle.blocks.proofs.Values.{length_value_of}
use Rattle.blocks.proofs.RoundTrip.{Bytes-value_of}
use Rattle.group_rules.specs.Coded.{Piece, has_list, piece_of, pieces, numbers, joined_bytes, lowest_value, digests_of}
use Rattle.frame.specs.Messages.{Entry, Offer, Sized}
use Rattle.frame.specs.Params.{width, quota}
use Rattle.server_rules.specs.Broadcast.{Rules, Part, kept, undone, votes, enough, due, full, matters}
use Rattle.server_rules.specs.Rules.{at_time, chosen, regained, regained_of, unanimous_of, block_rules}
use Rattle.server_rules.proofs.Parts.{first_of, settled}
use Rattle.server_rules.proofs.Thresholds.{due_votes, full_votes, full_supported, quota_blocks, unanimous_of_lem, compared}
use Rattle.server_rules.proofs.AtTime.{votes_are}

piece_size : (o : Option Entry) (d : List ℕ) (j : ℕ) (l : List Piece) → length (piece_of o d j l) ≡ bit (has_list o d) + length l
unfolding pick
piece_size none d j l = omega arith
piece_size (some e) d j l = go (same e.digests d)
  where
    go : (b : Bool) → length (pick b (record { number = j; bytes = e.block } ∷ l) l) ≡ bit b + length l
    go true = omega arith
    go false = omega arith

pieces_size : (f : ℕ → Option Entry) (d : List ℕ) (i m : ℕ) → length (pieces f d (suc i) m) + count (λ j. has_list (f j) d) i ≡ count (λ j. has_list (f j) d)
    (i + m)
unfolding pieces count
pieces_size f d i zero =
    let a : i ≡ i + 0 = omega arith in
    let e : count (λ j. has_list (f j) d) i ≡ count (λ j. has_list (f j) d) (i + 0) = ap (count (λ j. has_list (f j) d)) a in
    omega arith
pieces_size f d i (suc m) =
    let a = piece_size (f (suc i)) d (suc i) (pieces f d (suc (suc i)) m) in
    let b = pieces_size f d (suc i) m in
    let c : suc i + m ≡ i + suc m = omega arith in
    let e : count (λ j. has_list (f j) d) (suc i + m) ≡ count (λ j. has_list (f j) d) (i + suc m) = ap (count (λ j. has_list (f j) d)) c in
    omega arith

pub all_pieces : (f : ℕ → Option Entry) (d : List ℕ) (n : ℕ) → length (pieces f d 1 n) ≡ count (λ j. has_list (f j) d) n
unfolding count
all_pieces f d n =
    let a = pieces_size f d 0 n in
    let b : count (λ j. has_list (f j) d) (0 + n) ≡ count (λ j. has_list (f j) d) n = ap (count (λ j. has_list (f j) d)) (let h : 0 + n ≡ n = omega arith in h) in
    omega arith

-- a block of a value of the right length
pub block_width : (g : Params) (v : List ℕ) (j : ℕ) → length v ≡ g.size → length (block_of g.k v j) ≡ width g
unfolding width
block_width g v j e = length_block_of g.k v j ∙ ap (λ l. block_length l g.k) e

module _ (H : List ℕ → List ℕ) (g : Params) where
  abbrev Rb : Rules Offer
  Rb = block_rules H g

  -- one of the values has these digests
  abbrev pub Has : List (List ℕ) → List ℕ → Type 0
  Has vs d = (v : List ℕ) × Memᴰ v vs × (digests_of H g v ≡ d) × (length v ≡ g.size) × Bytes v

  -- what is decoded as the part w meets o
  abbrev pub decodes : Part Offer → Offer → List (List ℕ)
  decodes w o = pick (matters Rb g.n g.t w o && unanimous_of g w.echoes w.readies o) (regained_of g w.echoes w.readies o ∷ []) []

module _ (H : List ℕ → List ℕ) (g : Params) (kk : 1 ≤ g.k) where
  pub lowest_size : (f : ℕ → Option Entry) (d : List ℕ) → g.k ≤ count (λ j. has_list (f j) d) g.n → length (lowest_value g f d) ≡ g.size
  unfolding lowest_value candidate
  lowest_size f d h =
      let p = all_pieces f d g.n in
      let l = pieces f d 1 g.n in
      let m : length (numbers l) ≡ length l = length-map l (λ p. p.number) in
      let t : length (take g.k (numbers l)) ≡ g.k = length-take-le g.k (numbers l) (omega arith) in
      length_value_of (take g.k (numbers l)) _ g.size (omega arith)

  -- from q readies, and from the echoes where there are fewer
  by_readies : (es rs : ℕ → Option Offer) (o : Offer) → quota g ≤ votes (block_rules H g) g.n g.t rs o → length (regained_of g es rs o) ≡ g.size
  unfolding regained chosen pick votes
  by_readies es rs o v =
      let c = votes_are H g rs o in
      let q : quota g ≤ count (λ j. has_list (at_time rs o.time j) o.entry.digests) g.n = omega arith in
      rw (le-leb (quota g) _ q) (lowest_size (at_time rs o.time) o.entry.digests (omega (arith, quota_blocks g)))

  by_echoes : (es rs : ℕ → Option Offer) (o : Offer) → g.k ≤ votes (block_rules H g) g.n g.t es o → length (regained_of g es rs o) ≡ g.size
  unfolding regained chosen pick votes
  by_echoes es rs o v = go (leb (quota g) (count (λ j. has_list (at_time rs o.time j) o.entry.digests) g.n)) refl
    where
      go : (b : Bool) → leb (quota g) (count (λ j. has_list (at_time rs o.time j) o.entry.digests) g.n) ≡ b
          → length (lowest_value g (pick b (at_time rs o.time) (at_time es o.time)) o.entry.digests) ≡ g.size
      go true e = lowest_size (at_time rs o.time) o.entry.digests (omega (arith, quota_blocks g, leb-true (quota g) _ e))
      go false e = lowest_size (at_time es o.time) o.entry.digests (omega (arith, v, votes_are H g es o))

  sized_own : (me : ℕ) (w : Part Offer) (o : Offer) → Sized g o.entry → length (regained_of g w.echoes w.readies o) ≡ g.size
      → Sized g ((block_rules H g).own me w.echoes w.readies o).entry
  sized_own me w o Q s = record { list_is = Q.list_is; block_is_lem = block_width g (regained_of g w.echoes w.readies o) me s }

  -- an offer that completes the part, and one that is due
  pub coded : (me : ℕ) (w : Part Offer) (o : Offer) → Sized g o.entry → full (block_rules H g) g.n g.t w o ≡ true
      → Sized g ((block_rules H g).own me w.echoes w.readies o).entry
  coded me w o Q e = sized_own me w o Q (by_readies w.echoes w.readies o (omega (arith, full_votes (block_rules H g) g.n g.t w o e)))

  pub due_sized : g.k + g.t ≤ g.n → (me : ℕ) (w : Part Offer) (o : Offer) → Sized g o.entry → due (block_rules H g) g.n g.t w o ≡ true
      → Sized g ((block_rules H g).own me w.echoes w.readies o).entry
  due_sized kn me w o Q e = sized_own me w o Q (⊎_elim
      (λ a. by_echoes w.echoes w.readies o (omega (arith, kn, a)))
      (λ a. by_readies w.echoes w.readies o a)
      (due_votes (block_rules H g) g.n g.t w o e))

  -- ---- what was decoded

  regained_bytes : (es rs : ℕ → Option Entry) (d : List ℕ) → Bytes (regained g es rs d)
  unfolding regained lowest_value candidate
  regained_bytes es rs d =
      let l = pieces (chosen g es rs d) d 1 g.n in
      Bytes-value_of (take g.k (numbers l)) g.size (take (g.k * block_length g.size g.k) (joined_bytes l))

  full_has : (w : Part Offer) (o : Offer) → w.done ≡ none → full (block_rules H g) g.n g.t w o ≡ true → Has H g (decodes H g w o) o.entry.digests
  unfolding full matters votes
  full_has w o n h =
      let u = and_split (leb (block_rules H g).all (votes (block_rules H g) g.n g.t w.readies o)) _ h in
      let m = or_right (not w.ready && enough (block_rules H g) g.n g.t w o) _ (and_true _ _ u.0 (ap undone n)) in (
        regained_of g w.echoes w.readies o,
        in_pick _ _ (and_true _ _ m (unanimous_of_lem H g w.echoes w.readies o (full_supported (block_rules H g) g.n g.t w o h))),
        compared H g w.echoes w.readies o (full_supported (block_rules H g) g.n g.t w o h),
        by_readies w.echoes w.readies o (omega (arith, full_votes (block_rules H g) g.n g.t w o h)),
        regained_bytes _ _ o.entry.digests,
      )

  pub settled_has : (me : ℕ) (w : Part Offer) (o y : Offer) → (settled (block_rules H g) g.n g.t me w o).done ≡ some y
      → (w.done ≡ some y) ⊎ Has H g (decodes H g w o) y.entry.digests
  settled_has me w o y = go w.done (full (block_rules H g) g.n g.t w o) refl refl
    where
      go : (d : Option Offer) (b : Bool) → w.done ≡ d → full (block_rules H g) g.n g.t w o ≡ b
          → first_of d (kept b ((block_rules H g).own me w.echoes w.readies o)) ≡ some y
          → (w.done ≡ some y) ⊎ Has H g (decodes H g w o) y.entry.digests
      go (some z) b p q u = inl (p ∙ u)
      go none true p q u =
          let i : (block_rules H g).own me w.echoes w.readies o ≡ y = cc u in
          inr (subst (λ z. Has H g (decodes H g w o) z.entry.digests) i (full_has w o p q))
      go none false p q u = impossible (cc u)
