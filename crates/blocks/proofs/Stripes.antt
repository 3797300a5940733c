-- Blocks and stripes: how many there are, where a stripe is in the value, and that the padding need not be stored. Assumes nothing.
use mathlib.Core.Path.{◌≡◌, refl, sym, ap, ap₂, ◌∙◌}
use mathlib.Core.List.{List, [], ◌∷◌, ◌++◌}
use Prim.Native.Nat.{ℕ, zero, suc, ◌+◌, ◌-◌, ◌*◌, ◌/◌, ◌<◌, ◌≤◌, min}
use mathlib.Core.Logic.{inl, inr}
use Rattle.std.proofs.lemmas.Bool.{cases_lt}
use native.Mathlib.Numerals.{add-one}
use native.Mathlib.Nat.{suc-mul, mul-le-mul, le-div_iff_mul-le, mul-le-mul_left, mul-one, mul_comm, div-lt_iff_lt-mul, lt-suc_self}
use native.Mathlib.Omega.{arith}
use lib.ListN.{length, get_or, take, drop, set, replicate, length-drop}
use lib.Seq.{sets, drop-append-le, take_all}
use Rattle.area.specs.Area.{table, joined}
use Rattle.area.proofs.Fills.{length_table, get_d_table, joined_snoc, length_joined, sets_table}
use Rattle.area.proofs.Sets.{sets_append, room}
use Rattle.field.specs.Field.{◌⊕◌, ◌⊗◌}
use Rattle.field.proofs.Sum as X
use Rattle.field.proofs.Ring as R
use Rattle.blocks.specs.Poly.{eval}
use Rattle.blocks.specs.Code.{block_length, padded, stripe, block_byte, block_of}

-- ---- lengths

-- a value fits its stripes
pub fits : (L k : ℕ) → 0 < k → L ≤ k * block_length L k
unfolding block_length
fits L k h =
    let q : ℕ = (L + (k - 1)) / k in
    let l : L + (k - 1) < suc q * k = (div-lt_iff_lt-mul h).0 (lt-suc_self q) in
    omega (arith, l, suc-mul q k, mul_comm k q)

-- a stripe of the value starts in the value
pub starts : (L k r : ℕ) → 0 < k → r < block_length L k → r * k < L
unfolding block_length
starts L k r h l = omega (arith, suc-mul r k, (le-div_iff_mul-le {x = suc r} {y = L + (k - 1)} h).0 l)

pub block_small : (L k : ℕ) → 0 < k → block_length L k ≤ L
block_small L k h = go (block_length L k) refl
  where
    go : (b : ℕ) → block_length L k ≡ b → block_length L k ≤ L
    go zero e = omega arith
    go (suc q) e = omega (arith, starts L k q h (omega arith), mul-le-mul_left {m = 1} {n = k} q h, mul-one q)

pub length_block_of : (k : ℕ) (v : List ℕ) (j : ℕ) → length (block_of k v j) ≡ block_length (length v) k
unfolding block_of
length_block_of k v j = length_table (block_length (length v) k) _

-- ---- zeros after the coefficients do not count

zeros_eval : (k n x : ℕ) → eval (take k (replicate n 0)) x ≡ 0
unfolding eval
zeros_eval zero n x = refl
zeros_eval (suc k) zero x = refl
zeros_eval (suc k) (suc n) x = X.zero_l _ ∙ ap (◌⊗◌ x) (zeros_eval k n x) ∙ R.zero_right x

behind : (v : List ℕ) (k n x : ℕ) → eval (take k (v ++ replicate n 0)) x ≡ eval (take k v) x
unfolding eval
behind v zero n x = refl
behind [] (suc k) n x = zeros_eval (suc k) n x
behind (a ∷ v) (suc k) n x = ap (λ (u : ℕ). a ⊕ x ⊗ u) (behind v k n x)

pub stripe_eval : (v : List ℕ) (k n r x : ℕ) → r * k ≤ length v → eval (stripe k (padded n v) r) x ≡ eval (take k (drop (r * k) v)) x
unfolding stripe padded
stripe_eval v k n r x h =
    ap (λ (l : List ℕ). eval (take k l) x) (drop-append-le (r * k) v (replicate (n - length v) 0) h)
    ∙ behind (drop (r * k) v) k (n - length v) x

-- the part of the value that a stripe holds
pub part_full : (v : List ℕ) (s k : ℕ) → take (s + k - s) (drop s v) ≡ take k (drop s v)
part_full v s k =
    let e : s + k - s ≡ k = omega arith in
    ap (λ (n : ℕ). take n (drop s v)) e

pub part_short : (v : List ℕ) (s k : ℕ) → length v ≤ s + k → take (length v - s) (drop s v) ≡ take k (drop s v)
part_short v s k h =
    take_all (length v - s) (drop s v) (simp length-drop (omega arith))
    ∙ sym (take_all k (drop s v) (simp length-drop (omega arith)))

pub stripe_value : (v : List ℕ) (k r x e : ℕ) → r * k ≤ length v → e ≡ min (length v) (r * k + k)
    → eval (take (e - r * k) (drop (r * k) v)) x ≡ block_byte k v x r
unfolding block_byte
stripe_value v k r x e h m =
    ap (λ (l : List ℕ). eval l x) (elim (cases_lt (length v) (r * k + k)) [
      | inl l ↦
          let w : e - r * k ≡ length v - r * k = omega arith in
          ap (λ (n : ℕ). take n (drop (r * k) v)) w ∙ part_short v (r * k) k (omega arith)
      | inr l ↦
          let w : e - r * k ≡ r * k + k - r * k = omega arith in
          ap (λ (n : ℕ). take n (drop (r * k) v)) w ∙ part_full v (r * k) k
    ])
    ∙ sym (stripe_eval v k (k * block_length (length v) k) r x h)

-- ---- the turns of the loops that store

-- the turn r of a loop that stores a table
pub table_turn : (f : ℕ → ℕ) (at r s : ℕ) (d l : List ℕ) → l ≡ sets d at (table r f) → s ≡ f r → set l (at + r) s ≡ sets d at (table (r + 1) f)
table_turn f at r s d l p q = ap₂ (λ u x. set u (at + r) x) p q ∙ sets_table d at r f

-- the turn i of a loop that stores lists of length w end to end
pub joined_turn : (f : ℕ → List ℕ) (w i : ℕ) (d l : List ℕ) → ((j : ℕ) → length (f j) ≡ w) → l ≡ sets d 0 (joined f 1 i)
    → sets l (i * w) (f (i + 1)) ≡ sets d 0 (joined f 1 (i + 1))
joined_turn f w i d l e h =
    let n : i * w ≡ 0 + length (joined f 1 i) = omega (arith, length_joined f w 1 i e) in
    let m : i + 1 ≡ 1 + i = omega arith in
    ap₂ (λ u v. sets u (i * w) (f v)) h m
    ∙ ap (λ k. sets (sets d 0 (joined f 1 i)) k (f (1 + i))) n
    ∙ sym (ap (sets d 0) (joined_snoc f 1 i) ∙ sets_append d 0 (joined f 1 i) (f (1 + i)))

pub block_at : (k : ℕ) (v : List ℕ) (j r : ℕ) → r < block_length (length v) k → get_or (block_of k v j) r 0 ≡ block_byte k v j r
unfolding block_of
block_at k v j r h = get_d_table (block_length (length v) k) _ r 0 h

-- ---- the places of the blocks

-- the place of block i is i blocks from the front, and there is room for it
pub place_fits : (at i n b o : ℕ) → at ≡ i * b → i < n → n * b ≤ o → at + b ≤ o
place_fits at i n b o e h f = omega (arith, room i n b h)

pub next_place : (at i b : ℕ) → at ≡ i * b → at + b ≡ (i + 1) * b
next_place at i b e = rw (add-one, suc-mul) (omega arith)

pub product_small : (n b : ℕ) → n ≤ 10 → b ≤ 256 → n * b ≤ 2560
product_small n b h l = mul-le-mul h l
