-- What the specifications of a server and a client say of entries, by flags: the counts, and the value that is decoded. `f` is what each server sent, as a
-- specification has it, and it agrees with `entries` for servers 1 to n. Assumes nothing.
use mathlib.Core.Path.{◌≡◌, refl, sym, ap, ap₂, ◌∙◌}
use mathlib.Core.Bool.{Bool, true, false, ◌&&◌}
use mathlib.Core.Option.{Option, none, some}
use mathlib.Core.List.{List, ◌∷◌, ◌++◌}
use Prim.Native.Nat.{ℕ, zero, suc, ◌+◌, ◌*◌, ◌≤◌, ◌<◌}
use native.Mathlib.Omega.{arith}
use native.Mathlib.Decide.{dec_le}
use native.Mathlib.Numerals.{add-one}
use lib.ListN.{length, get_or, take, get_or-eq_default}
use lib.Dec.{leb, eqb}
use borrow.Author.Tests.{le-leb}
use Rattle.area.specs.Area.{pick, kept, same, table}
use Rattle.area.proofs.Fills.{get_d_table, length_table}
use Rattle.quorum.specs.Quorum.{bit, count}
use Rattle.quorum.proofs.Counting.{count_suc}
use Rattle.blocks.specs.declared.Params.{Params}
use Rattle.blocks.specs.Code as Code
use Rattle.blocks.specs.Code.{value_of, blocks_of, candidate, decoded_all}
use Rattle.frame.specs.Params.{width, Bounded}
use Rattle.frame.specs.Messages.{Entry}
use Rattle.frame.specs.Chunks.{chunk_bytes, chunk_at, entry_at}
use Rattle.group_rules.specs.Coded.{Piece, has_list, piece_of, pieces, numbers, joined_bytes, lowest_value, agreeing, decoded}
use Rattle.group.specs.Entries.{marked, timed, entries, sent_list, passing, flags, places_from, Within}
use Rattle.group.specs.Choice.{chosen, lowest, block_in, blocks_in, value_from, all_of}
use Rattle.group.proofs.Choosing.{chosen_agree}
use Rattle.group.proofs.Unanimous.{blocks_in_take}

-- ---- who sent a list is flagged

kept_list : (b : Bool) (e : Entry) (d : List ℕ) → has_list (kept b e) d ≡ true → b ≡ true
kept_list true e d q = refl
kept_list false e d q = q

pub sent_flagged : (g : Params) (on : List Bool) (at a d : List ℕ) (j : ℕ) → sent_list g on at a d j ≡ true → marked on j ≡ true
unfolding sent_list entries
sent_flagged g on at a d j e = kept_list (marked on j) (entry_at g a (get_or at j 0)) d e

-- ---- tests and entries that agree

pub count_agree : (p q : ℕ → Bool) (n : ℕ) → ((j : ℕ) → 1 ≤ j → j ≤ n → p j ≡ q j) → count p n ≡ count q n
unfolding count
count_agree p q zero h = refl
count_agree p q (suc n) h =
    ap₂ (λ a b. bit a + b) (h (suc n) (omega arith) (omega arith)) (count_agree p q n (λ j a b. h j a (omega arith)))

pieces_agree : (f h : ℕ → Option Entry) (d : List ℕ) (j m : ℕ) → ((i : ℕ) → j ≤ i → i < j + m → f i ≡ h i) → pieces f d j m ≡ pieces h d j m
unfolding pieces
pieces_agree f h d j zero e = refl
pieces_agree f h d j (suc m) e =
    ap₂ (λ o l. piece_of o d j l) (e j (omega arith) (omega arith)) (pieces_agree f h d (suc j) m (λ i a b. e i (omega arith) (omega arith)))

-- the value, if all blocks agree
pub decoded_by : (g : Params) (f : ℕ → Option Entry) (d : List ℕ) → decoded g f d ≡ pick (agreeing g f d) (some (lowest_value g f d)) none
unfolding decoded agreeing lowest_value decoded_all
decoded_by g f d = refl

all_agree : (g : Params) (f h : ℕ → Option Entry) (d : List ℕ) → ((j : ℕ) → 1 ≤ j → j ≤ g.n → f j ≡ h j) → pieces f d 1 g.n ≡ pieces h d 1 g.n
all_agree g f h d e = pieces_agree f h d 1 g.n (λ i a b. e i a (omega arith))

-- ---- flags

-- the flag of server j
pub marked_flags : (p : ℕ → Bool) (n : ℕ) → n ≤ 10 → (j : ℕ) → 1 ≤ j → j ≤ n → marked (flags p n) j ≡ p j
unfolding marked flags passing
marked_flags p n m j l h =
    let k : j < 11 = omega arith in
    get_d_table 11 (passing p n) j false k
    ∙ ap₂ (λ a b. a && (b && p j)) (le-leb 1 j l) (le-leb j n h)

-- the flagged are as many as pass
pub count_flags : (p : ℕ → Bool) (n : ℕ) → n ≤ 10 → count (marked (flags p n)) n ≡ count p n
count_flags p n m = count_agree (marked (flags p n)) p n (marked_flags p n m)

-- the flag of server j that sent a time
pub marked_timed : (on : List Bool) (ts : List ℕ) (T j : ℕ) → j ≤ 10 → marked (timed on ts T) j ≡ get_or on j false && eqb (get_or ts j 0) T
unfolding marked timed
marked_timed on ts T j h = let k : j < 11 = omega arith in get_d_table 11 (λ i. get_or on i false && eqb (get_or ts i 0) T) j false k

-- ---- the loops over the flags

-- number j + 1 was counted
pub count_turn : (p : ℕ → Bool) (j r x : ℕ) → r ≡ count p j → x ≡ bit (p (j + 1)) → x + r ≡ count p (j + 1)
count_turn p j r x e q =
    ap₂ (λ a b. a + b) q e
    ∙ ap (λ t. bit (p t) + count p j) (add-one j)
    ∙ sym (ap (count p) (add-one j) ∙ count_suc p j)

pub tally_end : (p : ℕ → Bool) (j n r : ℕ) → r ≡ count p j → n ≤ j → j ≤ n → r ≡ count p n
tally_end p j n r e a b = let q : j ≡ n = omega arith in e ∙ ap (count p) q

-- ---- places

pub place_law : (p j : ℕ) → j ≤ 10 → get_or (places_from p) j 0 ≡ p + j
unfolding places_from
place_law p j h = let k : j < 11 = omega arith in get_d_table 11 (λ i. p + i) j 0 k

no_place : (p j : ℕ) → 11 ≤ j → get_or (places_from p) j 0 ≡ 0
unfolding places_from
no_place p j h =
    let n = length_table 11 (λ i. p + i) in
    let k : length (table 11 (λ i. p + i)) ≤ j = omega arith in
    get_or-eq_default (table 11 (λ i. p + i)) 0 k

pub within_places : (p : ℕ) (a : List ℕ) → chunk_at (p + 10) + chunk_bytes ≤ length a → Within (places_from p) a
unfolding Within
within_places p a h j = go (dec_le j 10)
  where
    go : Dec (j ≤ 10) → chunk_at (get_or (places_from p) j 0) + chunk_bytes ≤ length a
    go (yes k) = rw (place_law p j k) (omega arith)
    go (no k) = let m : 11 ≤ j = omega (arith, k) in rw (no_place p j m) (omega arith)

-- ---- pieces

numbers_of_lem : (o : Option Entry) (d : List ℕ) (j : ℕ) (l : List Piece) (ns : List ℕ) → numbers l ≡ ns
    → numbers (piece_of o d j l) ≡ pick (has_list o d) (j ∷ ns) ns
unfolding pick
numbers_of_lem none d j l ns e = e
numbers_of_lem (some x) d j l ns e = go (same x.digests d)
  where
    go : (b : Bool) → numbers (pick b (record { number = j; bytes = x.block } ∷ l) l) ≡ pick b (j ∷ ns) ns
    go true = ap (λ t. j ∷ t) e
    go false = e

numbers_pieces : (f : ℕ → Option Entry) (d : List ℕ) (j m : ℕ) → numbers (pieces f d j m) ≡ chosen (λ i. has_list (f i) d) j m
unfolding pieces chosen
numbers_pieces f d j zero = refl
numbers_pieces f d j (suc m) =
    numbers_of_lem (f j) d j (pieces f d (suc j) m) (chosen (λ i. has_list (f i) d) (suc j) m) (numbers_pieces f d (suc j) m)

module _ (g : Params) (on : List Bool) (at a d : List ℕ) where
  -- what server j sent, whose chunk is p
  pub entry_law : (j p : ℕ) → get_or at j 0 ≡ p → entries g on at a j ≡ kept (get_or on j false) (entry_at g a p)
  unfolding entries marked
  entry_law j p e = ap (λ i. kept (get_or on j false) (entry_at g a i)) e

  -- what is stored as its flag
  pub flag_law : (j : ℕ) (x : Bool) → x ≡ leb 1 j && (leb j g.n && (get_or on j false && same (entry_at g a (get_or at j 0)).digests d))
      → x ≡ passing (sent_list g on at a d) g.n j
  unfolding passing sent_list entries marked
  flag_law j x e = e ∙ ap (λ s. leb 1 j && (leb j g.n && s)) (go (get_or on j false))
    where
      go : (b : Bool) → b && same (entry_at g a (get_or at j 0)).digests d ≡ has_list (kept b (entry_at g a (get_or at j 0))) d
      go true = refl
      go false = refl

  bytes_of : (b : Bool) (j : ℕ) (l : List Piece) (ns : List ℕ) → joined_bytes l ≡ blocks_in g at a ns
      → joined_bytes (piece_of (kept b (entry_at g a (get_or at j 0))) d j l) ≡ blocks_in g at a (pick (has_list (kept b (entry_at g a (get_or at j 0))) d) (j ∷ ns) ns)
  unfolding pick blocks_in
  bytes_of false j l ns h = h
  bytes_of true j l ns h = go (same (entry_at g a (get_or at j 0)).digests d)
    where
      go : (s : Bool) → joined_bytes (pick s (record { number = j; bytes = block_in g at a j } ∷ l) l) ≡ blocks_in g at a (pick s (j ∷ ns) ns)
      go false = h
      go true = ap (λ t. block_in g at a j ++ t) h

  bytes_pieces : (j m : ℕ) → joined_bytes (pieces (entries g on at a) d j m) ≡ blocks_in g at a (chosen (sent_list g on at a d) j m)
  unfolding pieces chosen sent_list entries blocks_in
  bytes_pieces j zero = refl
  bytes_pieces j (suc m) =
      bytes_of (marked on j) j (pieces (entries g on at a) d (suc j) m) (chosen (sent_list g on at a d) (suc j) m) (bytes_pieces (suc j) m)

  -- the flagged servers
  flagged : g.n ≤ 10 → chosen (marked (flags (sent_list g on at a d) g.n)) 1 g.n ≡ chosen (sent_list g on at a d) 1 g.n
  flagged m =
      chosen_agree (marked (flags (sent_list g on at a d) g.n)) (sent_list g on at a d) 1 g.n
      (λ i l h. marked_flags (sent_list g on at a d) g.n m i l (omega arith))

  numbered : numbers (pieces (entries g on at a) d 1 g.n) ≡ chosen (sent_list g on at a d) 1 g.n
  unfolding sent_list
  numbered = numbers_pieces (entries g on at a) d 1 g.n

  value_law : Bounded g → Within at a → value_from g (flags (sent_list g on at a d) g.n) at a ≡ lowest_value g (entries g on at a) d
  unfolding value_from lowest_value candidate lowest width
  value_law B W =
      let J = chosen (sent_list g on at a d) 1 g.n in
      ap (λ l. value_of (take g.k l) g.size (blocks_in g at a (take g.k l))) (flagged B.servers_high)
      ∙ ap (value_of (take g.k J) g.size) (sym (blocks_in_take g at a B W g.k J))
      ∙ sym (ap₂ (λ l w. value_of (take g.k l) g.size (take (g.k * width g) w)) numbered (bytes_pieces 1 g.n))

  all_law : g.n ≤ 10 → (v : List ℕ) → all_of g (flags (sent_list g on at a d) g.n) at a v
      ≡ same (blocks_of g.k v (numbers (pieces (entries g on at a) d 1 g.n))) (joined_bytes (pieces (entries g on at a) d 1 g.n))
  unfolding all_of
  all_law m v =
      ap (λ l. same (blocks_of g.k v l) (blocks_in g at a l)) (flagged m)
      ∙ sym (ap₂ (λ l w. same (blocks_of g.k v l) w) numbered (bytes_pieces 1 g.n))

  -- ---- the laws for the crates above

  module _ (f : ℕ → Option Entry) (agree : (j : ℕ) → 1 ≤ j → j ≤ g.n → entries g on at a j ≡ f j) (most : g.n ≤ 10) where
    -- how many sent the list d
    pub matched_count : count (marked (flags (sent_list g on at a d) g.n)) g.n ≡ count (λ j. has_list (f j) d) g.n
    unfolding sent_list
    matched_count =
        count_flags (sent_list g on at a d) g.n most
        ∙ count_agree (sent_list g on at a d) (λ j. has_list (f j) d) g.n (λ j l h. ap (λ o. has_list o d) (agree j l h))

    module _ (B : Bounded g) (W : Within at a) where
      -- the value that the k lowest senders of that list give
      pub matched_value : value_from g (flags (sent_list g on at a d) g.n) at a ≡ lowest_value g f d
      unfolding lowest_value
      matched_value =
          value_law B W
          ∙ ap (λ l. candidate g.k g.size (numbers l) (joined_bytes l)) (all_agree g (entries g on at a) f d agree)

      -- whether all blocks are its blocks
      pub matched_all : all_of g (flags (sent_list g on at a d) g.n) at a (value_from g (flags (sent_list g on at a d) g.n) at a) ≡ agreeing g f d
      unfolding agreeing Code.agree lowest_value
      matched_all =
          all_law most (value_from g (flags (sent_list g on at a d) g.n) at a)
          ∙ ap₂ (λ v l. same (blocks_of g.k v (numbers l)) (joined_bytes l)) matched_value (all_agree g (entries g on at a) f d agree)
