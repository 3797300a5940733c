-- The padding as the code stores it, one byte 128, zeros and the length, is the standard's. Assumes nothing.
use Rattle.std.proofs.Common.{◌≡◌, ℕ, zero, suc, ◌+◌, ◌-◌, ◌*◌, ◌/◌, ◌%◌, ◌<◌, ◌≤◌, Bool, true, false, eqb, List, [], ◌∷◌, ◌++◌, length, take, replicate, sym, refl, ap, ◌∙◌, append_assoc, arith, length-append, length-take-le, take_at, drop_at, eqb-true}
use lib.ListN.{length-replicate, replicate-append-replicate}
use lib.Seq.{sets, sets-eq, length-sets}
use borrow.Author.Tests.{eqb-false}
use Rattle.area.specs.Area.{pick}
use Rattle.area.specs.Numbers.{bytes8}
use Rattle.area.proofs.Numbers.{length_bytes8}
use Rattle.sha256.specs.declared.State.{State}
use Rattle.sha256.specs.Padding.{first_from, zero_bits, binary, octets, one_and_zeros, padding, padded}
use Rattle.sha256.specs.Hash.{hashed, concatenated, hash_of, digest_of}
use Rattle.sha256.specs.Steps.{block_count, zeros, laid}

-- ---- the number of zero bits

-- the search finds the solution d, if it lies among the n numbers from k on
found : (l d : ℕ) → (l + 1 + d) % 512 ≡ 448 → d < 512 → (k n : ℕ) → k ≤ d → d < k + n → first_from l k n ≡ d
unfolding first_from pick
found l d e b k zero a c = absurd (omega arith)
found l d e b k (suc n) a c = step (eqb ((l + 1 + k) % 512) 448) refl (λ (g : suc k ≤ d). found l d e b (suc k) n g (omega arith))
  where
    step : (t : Bool) → eqb ((l + 1 + k) % 512) 448 ≡ t → (suc k ≤ d → first_from l (suc k) n ≡ d) → pick t k (first_from l (suc k) n) ≡ d
    step true q more = let f : (l + 1 + k) % 512 ≡ 448 = eqb-true _ _ q in omega arith
    step false q more = let f : (l + 1 + k) % 512 ≡ 448 → ⊥ = eqb-false _ _ q in more (omega arith)

-- how many bytes of zeros follow the byte 128, for n bytes
unfoldable gap : ℕ → ℕ
gap n = block_count n * 64 - 9 - n

gap_adds : (n : ℕ) → n + 1 + gap n + 8 ≡ block_count n * 64
unfolding gap block_count
gap_adds n = omega arith

zero_bits_gap : (n : ℕ) → zero_bits (n * 8) ≡ 7 + gap n * 8
unfolding zero_bits gap block_count
zero_bits_gap n = found (n * 8) (7 + gap n * 8) (omega arith) (omega arith) 0 512 (omega arith) (omega arith)

-- ---- its bits as bytes

octets_zeros : (z : ℕ) → octets z (replicate (z * 8) 0) ≡ replicate z 0
unfolding octets binary
octets_zeros zero = refl
octets_zeros (suc z) =
    let e : suc z * 8 ≡ 8 + z * 8 = omega arith in
    rw (e, ← replicate-append-replicate {A = ℕ} 8 (z * 8) 0) (ap (λ (l : List ℕ). 0 ∷ l) (octets_zeros z))

octets_one : (z : ℕ) → octets (suc z) (1 ∷ replicate (7 + z * 8) 0) ≡ 128 ∷ replicate z 0
unfolding octets binary
octets_one z = rw (← replicate-append-replicate {A = ℕ} 7 (z * 8) 0) (ap (λ (l : List ℕ). 128 ∷ l) (octets_zeros z))

length_ones : (z : ℕ) → suc (length (replicate {A = ℕ} (7 + z * 8) 0)) / 8 ≡ suc z
length_ones z = rw length-replicate (omega arith)

padding_gap : (n : ℕ) → padding (n * 8) ≡ (128 ∷ replicate (gap n) 0) ++ bytes8 (n * 8)
unfolding padding one_and_zeros
padding_gap n = rw (zero_bits_gap n, length_ones (gap n), octets_one (gap n))

-- ---- the stores

-- a store over a part of the same length
replaced : (p q s vs : List ℕ) (i : ℕ) → length p ≡ i → length q ≡ length vs → sets (p ++ (q ++ s)) i vs ≡ p ++ (vs ++ s)
replaced p q s vs i e f =
    let g : length (p ++ (q ++ s)) ≡ length p + (length q + length s) = simp length-append in
    let h : i + length vs ≤ length (p ++ (q ++ s)) = omega arith in
    let k : length (p ++ q) ≡ i + length vs = length-append p q ∙ rw (e, f) in
    sets-eq vs (p ++ (q ++ s)) i h ∙ rw (take_at p (q ++ s) i e, ← append_assoc p q s, drop_at (p ++ q) s (i + length vs) k) (append_assoc p vs s)

-- the message, the byte 128 and the number x at the end of z bytes of zeros, in an area of zeros that goes on for r bytes
laid_front : (m : List ℕ) (z r x : ℕ)
    → sets (sets (sets (replicate (length m + suc (z + (8 + r))) 0) 0 m) (length m) (128 ∷ [])) (length m + 1 + z) (bytes8 x)
    ≡ (m ++ ((128 ∷ replicate z 0) ++ bytes8 x)) ++ replicate r 0
laid_front m z r x =
    let n = length m in
    let a : ◌≡◌ {A = List ℕ} (replicate (n + suc (z + (8 + r))) 0) (replicate n 0 ++ (0 ∷ (replicate z 0 ++ (replicate 8 0 ++ replicate r 0))))
    = simp replicate-append-replicate (sym (replicate-append-replicate n (suc (z + (8 + r))) 0)) in
    let k : length (m ++ (128 ∷ replicate z 0)) ≡ n + 1 + z = simp (length-append, length-replicate) (omega arith) in
    ap (λ (l : List ℕ). sets (sets (sets l 0 m) n (128 ∷ [])) (n + 1 + z) (bytes8 x)) a
    ∙ rw (
      replaced [] (replicate n 0) (0 ∷ (replicate z 0 ++ (replicate 8 0 ++ replicate r 0))) m 0 refl (length-replicate n 0),
      replaced m (0 ∷ []) (replicate z 0 ++ (replicate 8 0 ++ replicate r 0)) (128 ∷ []) n refl refl,
      ← append_assoc m (128 ∷ replicate z 0) (replicate 8 0 ++ replicate r 0),
      replaced (m ++ (128 ∷ replicate z 0)) (replicate 8 0) (replicate r 0) (bytes8 x) (n + 1 + z) k (sym (length_bytes8 x)),
    )
    (simp append_assoc)

zeros_as : (n : ℕ) → n ≡ 320 → zeros ≡ replicate n 0
unfolding zeros
zeros_as n e = rw e

block_count_bound : (n : ℕ) → n ≤ 256 → block_count n * 64 ≤ 320
unfolding block_count
block_count_bound n h = omega arith

-- what the code stores is the padded message with zeros after it
laid_padded : (m : List ℕ) → length m ≤ 256 → laid m ≡ padded m ++ replicate (320 - block_count (length m) * 64) 0
unfolding laid padded
laid_padded m h =
    let n = length m in
    let r = 320 - block_count n * 64 in
    let q : n + suc (gap n + (8 + r)) ≡ 320 = omega (arith, gap_adds n, block_count_bound n h) in
    let i : block_count n * 64 - 8 ≡ n + 1 + gap n = omega (arith, gap_adds n) in
    rw (zeros_as _ q, i, padding_gap n) (laid_front m (gap n) r (n * 8))

-- ---- the padded message

pub length_padded : (m : List ℕ) → length (padded m) ≡ block_count (length m) * 64
unfolding padded
length_padded m = rw (padding_gap (length m)) (simp (length-append, length-replicate, length_bytes8) (omega (arith, gap_adds (length m))))

-- the blocks that the code hashes are the padded message
pub blocks_padded : (m : List ℕ) → length m ≤ 256 → take (block_count (length m) * 64) (laid m) ≡ padded m
blocks_padded m h = rw (laid_padded m h) (take_at (padded m) _ (block_count (length m) * 64) (length_padded m))

-- the area has room for the blocks
pub laid_room : (m a : List ℕ) → length m ≤ 256 → a ≡ laid m → (length m + 72) / 64 * 64 ≤ length a
unfolding laid zeros
laid_room m a h e = rw e (simp length-sets (omega arith))

pub laid_taken : (m a : List ℕ) → length m ≤ 256 → a ≡ laid m → (length m + 72) / 64 * 64 ≡ length (take ((length m + 72) / 64 * 64) a)
laid_taken m a h e = let k : (length m + 72) / 64 * 64 ≤ length a = laid_room m a h e in sym (length-take-le ((length m + 72) / 64 * 64) a k)

-- the code's digest is the standard's
pub digest_law : (m a r : List ℕ) (s : State) → length m ≤ 256 → a ≡ laid m → s ≡ hashed ((length m + 72) / 64) (take ((length m + 72) / 64 * 64) a)
    → r ≡ concatenated s → r ≡ digest_of m
unfolding digest_of hash_of block_count
digest_law m a r s h b c d =
    let e : length (padded m) / 64 ≡ (length m + 72) / 64 = omega (arith, length_padded m) in
    let f : take ((length m + 72) / 64 * 64) a ≡ padded m = rw b (blocks_padded m h) in
    rw e (cc)
