-- What the decoder reads and writes: a byte of each block, and a stripe in its place in the value. Assumes nothing.
use mathlib.Core.Path.{◌≡◌, refl, sym, ap, ap₂, ◌∙◌}
use mathlib.Core.Bool.{Bool, true, false}
use lib.Dec.{leb}
use borrow.Author.Tests.{leb-true, leb-false}
use mathlib.Core.List.{List, ◌++◌}
use Prim.Native.Nat.{ℕ, suc, ◌+◌, ◌-◌, ◌*◌, ◌<◌, ◌≤◌, min}
use native.Mathlib.Nat.{suc-mul, mul-le-mul_right, mul_comm}
use native.Mathlib.Omega.{arith}
use lib.ListN.{length, get_or, take, drop, replicate, length-append}
use lib.Seq.{take-nil, take-append-le, sets, take_all, take_at, take-append-add, length-take-le}
use Rattle.area.specs.Area.{joined}
use Rattle.area.proofs.Fills.{length_table, get_d_table, joined_snoc, length_joined}
use Rattle.area.proofs.Sets.{sets_append}
use Rattle.blocks.specs.Poly.{through}
use Rattle.blocks.specs.Code.{block_length, row, value_of}
use Rattle.blocks.proofs.Polynomials.{through_length}
use Rattle.blocks.proofs.Stripes.{fits}

-- ---- byte r of each block

pub index_below : (i n r b : ℕ) → i < n → r < b → i * b + r < n * b
index_below i n r b h k = omega (arith, suc-mul i b, mul-le-mul_right {m = suc i} {n = n} b h)

pub index_small : (i n r b : ℕ) → i < n → r < b → n ≤ 8 → b ≤ 256 → i * b + r < 2048
index_small i n r b h k l m = omega (arith, index_below i n r b h k, mul-le-mul_right {m = n} {n = 8} b l)

pub row_length : (k b : ℕ) (w : List ℕ) (r : ℕ) → length (row k b w r) ≡ k
unfolding row
row_length k b w r = length_table k _

pub row_at_lem : (k b : ℕ) (w : List ℕ) (r i : ℕ) → i < k → get_or (row k b w r) i 0 ≡ get_or w (i * b + r) 0
unfolding row
row_at_lem k b w r i h = get_d_table k _ i 0 h

-- what was written at the front of a list reads back
pub front_back : (d e : List ℕ) (n : ℕ) → n ≤ length d → length e ≡ length (take n d) → take n (e ++ drop n d) ≡ e
front_back d e n h k = take_at e (drop n d) n (k ∙ length-take-le n d h)

abbrev pub zeros : ℕ → List ℕ
zeros n = replicate n 0

-- ---- a stripe in its place in the value

pub through_row_length : (js w : List ℕ) (b r : ℕ) → length (through js (row (length js) b w r)) ≡ length js
through_row_length js w b r = through_length js (row (length js) b w r) (sym (row_length (length js) b w r))

-- stripe r of the value of L bytes that is decoded
unfoldable pub stripes : List ℕ → ℕ → List ℕ → ℕ → List ℕ
stripes js L w r = through js (row (length js) (block_length L (length js)) w r)

pub length_value_of : (js w : List ℕ) (L : ℕ) → 0 < length js → length (value_of js L w) ≡ L
unfolding value_of
length_value_of js w L h =
    let b : ℕ = block_length L (length js) in
    let f : ℕ → List ℕ = λ r. through js (row (length js) b w r) in
    length-take-le L (joined f 0 b)
    (omega (arith, length_joined f (length js) 0 b (through_row_length js w b), fits L (length js) h, mul_comm b (length js)))

-- the first L bytes of the stripes before stripe r, and of one more
take_joined : (f : ℕ → List ℕ) (k L r : ℕ) → ((j : ℕ) → length (f j) ≡ k) → r * k ≤ L
    → take L (joined f 0 (r + 1)) ≡ joined f 0 r ++ take (L - r * k) (f r)
take_joined f k L r e h =
    let n : L ≡ length (joined f 0 r) + (L - r * k) = omega (arith, length_joined f k 0 r e) in
    let z : 0 + r ≡ r = omega arith in
    ap₂ (λ m l. take m l) n (joined_snoc f 0 r ∙ ap (λ m. joined f 0 r ++ f m) z)
    ∙ take-append-add (joined f 0 r) (f r) (L - r * k)

take_all_joined : (f : ℕ → List ℕ) (k L r : ℕ) → ((j : ℕ) → length (f j) ≡ k) → r * k ≤ L → take L (joined f 0 r) ≡ joined f 0 r
take_all_joined f k L r e h = take_all L (joined f 0 r) (omega (arith, length_joined f k 0 r e))

-- the turn r of a loop that stores the stripes of a value of L bytes
pub stripe_turn : (f : ℕ → List ℕ) (k L r : ℕ) (d l : List ℕ) → ((j : ℕ) → length (f j) ≡ k) → r * k ≤ L → l ≡ sets d 0 (take L (joined f 0 r))
    → sets l (r * k) (take (L - r * k) (f r)) ≡ sets d 0 (take L (joined f 0 (r + 1)))
stripe_turn f k L r d l e h p =
    let n : r * k ≡ 0 + length (joined f 0 r) = omega (arith, length_joined f k 0 r e) in
    let s : List ℕ = take (L - r * k) (f r) in
    ap (λ u. sets u (r * k) s) (p ∙ ap (sets d 0) (take_all_joined f k L r e h))
    ∙ ap (λ m. sets (sets d 0 (joined f 0 r)) m s) n
    ∙ sym (ap (sets d 0) (take_joined f k L r e h) ∙ sets_append d 0 (joined f 0 r) s)

-- as many bytes of a stripe as the value has left
pub stripe_part : (p : List ℕ) (k m : ℕ) → length p ≡ k → take (min k m) p ≡ take m p
stripe_part p k m e = cases (leb k m) refl
  where
    cases : (b : Bool) → leb k m ≡ b → take (min k m) p ≡ take m p
    cases true q =
        let h : k ≤ m = leb-true k m q in
        take_all (min k m) p (omega arith) ∙ sym (take_all m p (omega arith))
    cases false q =
        let h : m < k = leb-false k m q in
        let n : min k m ≡ m = omega arith in
        ap (λ x. take x p) n

-- no stripe is stored yet
pub value_start : (f : ℕ → List ℕ) (L : ℕ) (d : List ℕ) → d ≡ sets d 0 (take L (joined f 0 0))
unfolding joined
value_start f L d = sym (ap (sets d 0) (take-nil L))

-- of e, which was written at the front of a local array d, as many bytes as the value has left
pub part_read : (d e : List ℕ) (k m n : ℕ) → k ≤ length d → length e ≡ length (take k d) → n ≡ min k m → take n (e ++ drop k d) ≡ take m e
part_read d e k m n h l q =
    let len : length e ≡ k = l ∙ length-take-le k d h in
    take-append-le n e (drop k d) (omega arith) ∙ ap (λ x. take x e) q ∙ stripe_part e k m len

pub part_length : (d e : List ℕ) (k m n : ℕ) → k ≤ length d → length e ≡ length (take k d) → n ≡ min k m → length (take n (e ++ drop k d)) ≡ n
part_length d e k m n h l q = length-take-le n (e ++ drop k d) (omega (arith, length-append e (drop k d), length-take-le k d h))
