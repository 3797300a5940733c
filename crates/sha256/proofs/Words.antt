-- The message schedule in an array that is filled from the front: after the words so far there are zeros. Assumes nothing.
use Rattle.std.proofs.Common.{◌≡◌, ℕ, zero, suc, ◌+◌, ◌-◌, ◌*◌, ◌<◌, ◌≤◌, List, ◌∷◌, ◌++◌, length, get_or, set, replicate, sym, ap, ◌∙◌, add-zero, add-suc, zero-add, arith, length-append}
use lib.ListN.{get_or-append}
use lib.Seq.{sets, sets-eq, set_at, append_snoc}
use Rattle.area.specs.Area.{table}
use Rattle.area.specs.Numbers.{be4}
use Rattle.area.proofs.Fills.{length_table, sets_table}
use Rattle.sha256.specs.Hash.{block_words, next_word, longer, extended}
use Rattle.sha256.specs.Steps.{word_from, stored, stored_from}

-- the word 16 + t, from those that the code reads
pub word_from_lem : (w : List ℕ) (t : ℕ) → next_word w (16 + t) ≡ word_from (get_or w (14 + t) 0) (get_or w (9 + t) 0) (get_or w (1 + t) 0) (get_or w t 0)
unfolding next_word word_from
word_from_lem w t =
    let a : 16 + t - 2 ≡ 14 + t = omega arith in
    let b : 16 + t - 7 ≡ 9 + t = omega arith in
    let c : 16 + t - 15 ≡ 1 + t = omega arith in
    let d : 16 + t - 16 ≡ t = omega arith in
    rw (a, b, c, d)

-- ---- the block's words

-- the turn j of the loop that stores them
pub word_turn : (p : List ℕ) (at : ℕ) (d w : List ℕ) (x j : ℕ) → w ≡ sets d 0 (table j (λ t. be4 p (at + t * 4))) → x ≡ be4 p (at + j * 4)
    → set w j x ≡ sets d 0 (table (j + 1) (λ t. be4 p (at + t * 4)))
word_turn p at d w x j a b = rw (a, b) (rw zero-add at (sets_table d 0 j (λ t. be4 p (at + t * 4))))

pub length_block_words : (p : List ℕ) (at : ℕ) → length (block_words p at) ≡ 16
unfolding block_words
length_block_words p at = length_table 16 _

-- sixteen words in front of zeros
words_front : (v : List ℕ) → length v ≡ 16 → sets (replicate 64 0) 0 v ≡ v ++ replicate 48 0
words_front v e =
    let h : 0 + length v ≤ length (replicate {A = ℕ} 64 0) = omega (arith, e) in
    sets-eq v (replicate 64 0) 0 h ∙ rw (zero-add, e)

-- the end of that loop
pub words_done : (p : List ℕ) (at : ℕ) (w : List ℕ) (j : ℕ) → j ≡ 16 → w ≡ sets (replicate 64 0) 0 (table j (λ t. be4 p (at + t * 4)))
    → w ≡ extended 0 (block_words p at) ++ replicate 48 0
unfolding extended block_words
words_done p at w j e a = a ∙ rw e (words_front (block_words p at) (length_block_words p at))

-- ---- the other words

pub length_extended : (n : ℕ) (v : List ℕ) → length v ≡ 16 → length (extended n v) ≡ 16 + n
unfolding extended longer
length_extended zero v e = e
length_extended (suc n) v e = length-append (extended n v) _ ∙ rw (length_extended n v e) (omega arith)

-- the next word does not depend on what follows
next_front : (w z : List ℕ) (u : ℕ) → length w ≡ 16 + u → next_word (w ++ z) (16 + u) ≡ next_word w (length w)
unfolding next_word
next_front w z u e =
    let a : 16 + u - 2 < length w = omega arith in
    let b : 16 + u - 7 < length w = omega arith in
    let c : 16 + u - 15 < length w = omega arith in
    let d : 16 + u - 16 < length w = omega arith in
    rw (get_or-append w z 0 _ a, get_or-append w z 0 _ b, get_or-append w z 0 _ c, get_or-append w z 0 _ d, e)

-- one word more in place of the first zero
stored_front : (w : List ℕ) (u r : ℕ) → length w ≡ 16 + u → stored (w ++ replicate (suc r) 0) u ≡ longer w ++ replicate r 0
unfolding stored longer
stored_front w u r e =
    set_at w 0 (replicate r 0) _ (16 + u) e ∙ rw (next_front w (0 ∷ replicate r 0) u e) (sym (append_snoc w _ (replicate r 0)))

-- ---- the words that the code stores, one after the other

pub four_stored : (w x y z r : List ℕ) (t : ℕ) → x ≡ stored w t → y ≡ stored x (t + 1) → z ≡ stored y (t + 2) → r ≡ stored z (t + 3)
    → r ≡ stored_from 4 w t
unfolding stored_from
four_stored w x y z r t a b c d = let e : t + 0 ≡ t = add-zero t in cc

module _ (v : List ℕ) (h : length v ≡ 16) where
  stored_extended : (u : ℕ) → u < 48 → stored (extended u v ++ replicate (48 - u) 0) u ≡ extended (suc u) v ++ replicate (48 - suc u) 0
  unfolding extended
  stored_extended u b =
      let e : 48 - u ≡ suc (48 - suc u) = omega arith in
      rw e (stored_front (extended u v) u (48 - suc u) (length_extended u v h))

  stored_from_extended : (n t : ℕ) → t + n ≤ 48 → stored_from n (extended t v ++ replicate (48 - t) 0) t ≡ extended (t + n) v ++ replicate (48 - (t + n)) 0
  unfolding stored_from
  stored_from_extended zero t b = rw add-zero
  stored_from_extended (suc n) t b =
      ap (λ (l : List ℕ). stored l (t + n)) (stored_from_extended n t (omega arith)) ∙ stored_extended (t + n) (omega arith) ∙ rw add-suc

  -- the turn q of the loop that stores them
  pub store_turn : (w u : List ℕ) (q : ℕ) → q < 12 → w ≡ extended (q * 4) v ++ replicate (48 - q * 4) 0 → u ≡ stored_from 4 w (q * 4)
      → u ≡ extended ((q + 1) * 4) v ++ replicate (48 - (q + 1) * 4) 0
  store_turn w u q b a c =
      let e : (q + 1) * 4 ≡ q * 4 + 4 = omega arith in
      c ∙ ap (λ (l : List ℕ). stored_from 4 l (q * 4)) a ∙ stored_from_extended 4 (q * 4) (omega arith) ∙ rw e
