-- Decoding any k different blocks of a value gives the value, and values of the same length with the same encoding are equal. Upper layers cite these laws,
-- with those on lengths and bytes, and open no definition. Assumes nothing.
use mathlib.Core.Path.{◌≡◌, refl, sym, ap, ap₂, ◌∙◌, subst}
use mathlib.Core.List.{List, [], ◌∷◌, ◌++◌, map}
use Prim.Native.Nat.{ℕ, zero, suc, ◌+◌, ◌-◌, ◌*◌, ◌<◌, ◌≤◌}
use native.Mathlib.Nat.{suc-mul, zero-mul, zero-add, mul_comm, mul-le-mul_right}
use native.Mathlib.Omega.{arith}
use lib.ListN.{length, get_or, take, drop, replicate, length-take, length-append, length-drop, length-replicate, get_or-append}
use lib.Seq.{take-add, drop-drop, take_all, take_at, get_or-append-add}
use Rattle.area.specs.Area.{Bytes, part, table_from, table, joined}
use Rattle.area.proofs.Numbers.{Bytes-append, Bytes-take, Bytes-drop}
use Rattle.blocks.specs.Poly.{eval, through, All, Distinct}
use Rattle.blocks.specs.Code.{block_length, padded, stripe, block_byte, block_of, encoded, row, value_of, blocks_of}
use Rattle.blocks.proofs.Polynomials.{through_bytes}
use Rattle.blocks.proofs.Interpolation.{recovers}
use Rattle.blocks.proofs.Stripes.{length_block_of, block_at, fits}
use Rattle.blocks.proofs.ByteLists.{Bytes-zeros, Bytes-joined, take_joined, part_joined}

-- ---- byte r of each block

from_next : (f : ℕ → ℕ) (i n : ℕ) → table_from f (suc i) n ≡ table_from (λ x. f (suc x)) i n
unfolding table_from
from_next f i zero = refl
from_next f i (suc n) = ap (λ (l : List ℕ). f (suc i) ∷ l) (from_next f (suc i) n)

from_same : (f g : ℕ → ℕ) → ((x : ℕ) → f x ≡ g x) → (i n : ℕ) → table_from f i n ≡ table_from g i n
unfolding table_from
from_same f g e i zero = refl
from_same f g e i (suc n) = ap₂ ◌∷◌ (e i) (from_same f g e (suc i) n)

row_cons : (k b r : ℕ) (u w : List ℕ) → length u ≡ b → r < b → row (suc k) b (u ++ w) r ≡ get_or u r 0 ∷ row k b w r
unfolding row table table_from
row_cons k b r u w e h =
    ap₂ ◌∷◌ (ap (λ (n : ℕ). get_or (u ++ w) n 0) first ∙ get_or-append u w 0 r (subst (λ (n : ℕ). r < n) (sym e) h))
    (from_next (λ i. get_or (u ++ w) (i * b + r) 0) 0 k ∙ from_same _ _ next 0 k)
  where
    first : zero * b + r ≡ r
    first = ap (λ (n : ℕ). n + r) (zero-mul b) ∙ zero-add r

    next : (x : ℕ) → get_or (u ++ w) (suc x * b + r) 0 ≡ get_or w (x * b + r) 0
    next x =
        let e' : suc x * b + r ≡ length u + (x * b + r) = omega (arith, suc-mul x b, e) in
        ap (λ (n : ℕ). get_or (u ++ w) n 0) e' ∙ get_or-append-add u w (x * b + r) 0

row_none : (b r : ℕ) → row 0 b [] r ≡ []
unfolding row table table_from
row_none b r = refl

row_blocks : (k b r : ℕ) (v js : List ℕ) → b ≡ block_length (length v) k → r < b
    → row (length js) b (blocks_of k v js) r ≡ map (eval (stripe k (padded (k * b) v) r)) js
unfolding blocks_of block_byte
row_blocks k b r v [] e h = row_none b r
row_blocks k b r v (j ∷ js) e h =
    row_cons (length js) b r (block_of k v j) (blocks_of k v js) (length_block_of k v j ∙ sym e) h
    ∙ ap₂ ◌∷◌
    (block_at k v j r (subst (λ (n : ℕ). r < n) e h) ∙ ap (λ (n : ℕ). eval (stripe k (padded (k * n) v) r) j) (sym e))
    (row_blocks k b r v js e h)

-- ---- the stripes, joined

joined_same : (f g : ℕ → List ℕ) (b i n : ℕ) → ((r : ℕ) → r < b → f r ≡ g r) → i + n ≤ b → joined f i n ≡ joined g i n
unfolding joined
joined_same f g b i zero e h = refl
joined_same f g b i (suc n) e h =
    ap₂ ◌++◌ (e i (omega arith)) (joined_same f g b (suc i) n e (omega arith))

joined_stripes : (k : ℕ) (w : List ℕ) (i n : ℕ) → joined (stripe k w) i n ≡ take (n * k) (drop (i * k) w)
unfolding joined stripe
joined_stripes k w i zero = sym (ap (λ (m : ℕ). take m (drop (i * k) w)) (zero-mul k))
joined_stripes k w i (suc n) =
    let e : suc i * k ≡ i * k + k = suc-mul i k in
    let f : k + n * k ≡ suc n * k = omega (arith, suc-mul n k) in
    ap (λ (l : List ℕ). take k (drop (i * k) w) ++ l)
    (joined_stripes k w (suc i) n ∙ ap (take (n * k)) (ap (λ (m : ℕ). drop m w) e ∙ sym (drop-drop k (i * k) w)))
    ∙ sym (take-add k (n * k) (drop (i * k) w))
    ∙ ap (λ (m : ℕ). take m (drop (i * k) w)) f

stripe_bytes : (k n r : ℕ) (v : List ℕ) → Bytes v → Bytes (stripe k (padded n v) r)
unfolding stripe padded
stripe_bytes k n r v h =
    Bytes-take k (drop (r * k) (v ++ replicate (n - length v) 0))
    (Bytes-drop (r * k) (v ++ replicate (n - length v) 0) (Bytes-append v (replicate (n - length v) 0) h (Bytes-zeros (n - length v))))

padded_length : (n : ℕ) (v : List ℕ) → length v ≤ n → length (padded n v) ≡ n
unfolding padded
padded_length n v h = simp (length-append, length-replicate) (omega arith)

stripe_length : (k b r : ℕ) (v : List ℕ) → length v ≤ k * b → r < b → length (stripe k (padded (k * b) v) r) ≡ k
unfolding stripe
stripe_length k b r v h l =
    simp (length-take, length-drop, padded_length)
    (omega (arith, padded_length (k * b) v h, suc-mul r k, mul-le-mul_right {m = suc r} {n = b} k l, mul_comm k b))

whole : (k b : ℕ) (v : List ℕ) → length v ≤ k * b → take (length v) (take (b * k) (drop (0 * k) (padded (k * b) v))) ≡ v
unfolding padded
whole k b v h =
    ap (λ (n : ℕ). take (length v) (take (b * k) (drop n (v ++ replicate (k * b - length v) 0)))) (zero-mul k)
    ∙ ap (take (length v)) (take_all (b * k) (v ++ replicate (k * b - length v) 0) (omega (arith, padded_length', mul_comm k b)))
    ∙ take_at v (replicate (k * b - length v) 0) (length v) refl
  where
    padded_length' : length (v ++ replicate (k * b - length v) 0) ≡ k * b
    padded_length' = simp (length-append, length-replicate) (omega arith)

decoded_all_lem : (js v : List ℕ) → 0 < length js → Bytes js → Distinct js → Bytes v
    → value_of js (length v) (blocks_of (length js) v js) ≡ v
unfolding value_of
decoded_all_lem js v h hj d hv =
    let k : ℕ = length js in
    let b : ℕ = block_length (length v) k in
    let w : List ℕ = padded (k * b) v in
    let f : length v ≤ k * b = fits (length v) k h in
    ap (take (length v))
    (joined_same (λ r. through js (row k b (blocks_of k v js) r)) (stripe k w) b 0 b
    (λ r l. ap (through js) (row_blocks k b r v js refl l) ∙ recovers js (stripe k w r) hj (stripe_bytes k (k * b) r v hv) d (stripe_length k b r v f l))
    (omega arith)
    ∙ joined_stripes k w 0 b)
    ∙ whole k b v f

-- ---- the laws to cite

-- any k different numbers: the value comes back
pub decoded : (js v : List ℕ) (k L : ℕ) → length js ≡ k → length v ≡ L → 0 < k → Bytes js → Distinct js → Bytes v → value_of js L (blocks_of k v js) ≡ v
decoded js v k L e l h hj d hv =
    ap₂ (λ x y. value_of js y (blocks_of x v js)) (sym e) (sym l) ∙ decoded_all_lem js v (omega arith) hj d hv

pub Bytes-value_of : (js : List ℕ) (L : ℕ) (w : List ℕ) → Bytes (value_of js L w)
unfolding value_of
Bytes-value_of js L w =
    let b : ℕ = block_length L (length js) in
    Bytes-take L (joined (λ r. through js (row (length js) b w r)) 0 b)
    (Bytes-joined (λ r. through js (row (length js) b w r)) 0 b (λ r l. through_bytes js (row (length js) b w r)))

pub length_blocks_of : (k : ℕ) (v js : List ℕ) → length (blocks_of k v js) ≡ length js * block_length (length v) k
unfolding blocks_of
length_blocks_of k v [] = sym (zero-mul (block_length (length v) k))
length_blocks_of k v (j ∷ js) =
    length-append (block_of k v j) (blocks_of k v js)
    ∙ omega (arith, length_block_of k v j, length_blocks_of k v js, suc-mul (length js) (block_length (length v) k))

-- block i + 1 in the encoding
pub part_encoded : (n k i : ℕ) (v : List ℕ) → i < n → part (encoded n k v) (i * block_length (length v) k) (block_length (length v) k) ≡ block_of k v (1 + i)
unfolding encoded
part_encoded n k i v h = part_joined (block_of k v) (block_length (length v) k) 1 i n (length_block_of k v) h

-- ---- the encoding determines the value

-- i, i + 1, ..: k numbers
abbrev counted : ℕ → ℕ → List ℕ
counted i k = table_from (λ j. j) i k

counted_length : (i k : ℕ) → length (counted i k) ≡ k
unfolding table_from
counted_length i zero = refl
counted_length i (suc k) = ap suc (counted_length (suc i) k)

counted_bytes : (i k : ℕ) → i + k ≤ 256 → Bytes (counted i k)
unfolding table_from
counted_bytes i zero h = tt
counted_bytes i (suc k) h = (omega arith, counted_bytes (suc i) k (omega arith))

counted_other : (x i k : ℕ) → x < i → All (λ z. z ≡ x → ⊥) (counted i k)
unfolding table_from
counted_other x i zero h = tt
counted_other x i (suc k) h = (λ e. omega arith, counted_other x (suc i) k (omega arith))

counted_distinct : (i k : ℕ) → Distinct (counted i k)
unfolding table_from
counted_distinct i zero = tt
counted_distinct i (suc k) = (counted_other i (suc i) k (omega arith), counted_distinct (suc i) k)

counted_blocks : (k : ℕ) (v : List ℕ) (i n : ℕ) → blocks_of k v (counted i n) ≡ joined (block_of k v) i n
unfolding blocks_of joined table_from
counted_blocks k v i zero = refl
counted_blocks k v i (suc n) = ap (λ l. block_of k v i ++ l) (counted_blocks k v (suc i) n)

-- the first k blocks of the encoding give the value
from_front : (n k : ℕ) (v : List ℕ) → 0 < k → k ≤ n → n < 256 → Bytes v
    → value_of (counted 1 k) (length v) (take (k * block_length (length v) k) (encoded n k v)) ≡ v
unfolding encoded
from_front n k v h l m hv =
    ap (value_of (counted 1 k) (length v)) (take_joined (block_of k v) (block_length (length v) k) 1 k n (length_block_of k v) l ∙ sym (counted_blocks k v 1 k))
    ∙ decoded (counted 1 k) v k (length v) (counted_length 1 k) refl h (counted_bytes 1 k (omega arith)) (counted_distinct 1 k) hv

pub encoded_injective : (n k : ℕ) (v w : List ℕ) → 0 < k → k ≤ n → n < 256 → length v ≡ length w → Bytes v → Bytes w
    → encoded n k v ≡ encoded n k w → v ≡ w
encoded_injective n k v w h l m e hv hw q =
    sym (from_front n k v h l m hv)
    ∙ ap₂ (λ L c. value_of (counted 1 k) L (take (k * block_length L k) c)) e q
    ∙ from_front n k w h l m hw
