-- Lists of bytes made from others; the front and a part of lists that lie end to end. Assumes nothing.
use mathlib.Core.Path.{◌≡◌, sym, ap, ◌∙◌}
use mathlib.Core.List.{List, ◌++◌}
use Prim.Native.Nat.{ℕ, zero, suc, ◌+◌, ◌*◌, ◌<◌, ◌≤◌}
use native.Mathlib.Nat.{not-suc-le-zero, suc-mul, zero-mul, add-zero, add-suc, suc-add}
use native.Mathlib.Omega.{arith}
use lib.Dec.{lit<}
use lib.ListN.{length, take, drop, replicate}
use lib.Seq.{take-append-add, drop-append-add, take-append-le, take_all}
use Rattle.area.specs.Area.{Bytes, part, table_from, table, joined}
use Rattle.area.proofs.Numbers.{Bytes-append}

pub Bytes-zeros : (n : ℕ) → Bytes (replicate n 0)
Bytes-zeros zero = tt
Bytes-zeros (suc n) = (lit< tt, Bytes-zeros n)

Bytes-table_from : (f : ℕ → ℕ) (i n : ℕ) → ((j : ℕ) → f j < 256) → Bytes (table_from f i n)
unfolding table_from
Bytes-table_from f i zero h = tt
Bytes-table_from f i (suc n) h = (h i, Bytes-table_from f (suc i) n h)

pub Bytes-table : (n : ℕ) (f : ℕ → ℕ) → ((j : ℕ) → f j < 256) → Bytes (table n f)
unfolding table
Bytes-table n f h = Bytes-table_from f 0 n h

pub Bytes-joined : (f : ℕ → List ℕ) (i n : ℕ) → ((j : ℕ) → j < i + n → Bytes (f j)) → Bytes (joined f i n)
unfolding joined
Bytes-joined f i zero h = tt
Bytes-joined f i (suc n) h = Bytes-append (f i) (joined f (suc i) n) (h i (omega arith)) (Bytes-joined f (suc i) n (λ j k. h j (omega arith)))

-- ---- lists of length w, end to end

-- the first k of n lists
pub take_joined : (f : ℕ → List ℕ) (w i k n : ℕ) → ((j : ℕ) → length (f j) ≡ w) → k ≤ n → take (k * w) (joined f i n) ≡ joined f i k
unfolding joined
take_joined f w i zero n e h = ap (λ m. take m (joined f i n)) (zero-mul w)
take_joined f w i (suc k) zero e h = absurd (not-suc-le-zero h)
take_joined f w i (suc k) (suc n) e h =
    let m : suc k * w ≡ length (f i) + k * w = omega (arith, suc-mul k w, e i) in
    ap (λ x. take x (f i ++ joined f (suc i) n)) m ∙ take-append-add (f i) (joined f (suc i) n) (k * w)
    ∙ ap (λ l. f i ++ l) (take_joined f w (suc i) k n e (omega arith))

-- list j of n lists
pub part_joined : (f : ℕ → List ℕ) (w i j n : ℕ) → ((x : ℕ) → length (f x) ≡ w) → j < n → part (joined f i n) (j * w) w ≡ f (i + j)
unfolding joined
part_joined f w i j zero e h = absurd (not-suc-le-zero h)
part_joined f w i zero (suc n) e h =
    let z : zero * w ≡ 0 = zero-mul w in
    let l : w ≤ length (f i) = omega (arith, e i) in
    ap (λ x. part (f i ++ joined f (suc i) n) x w) z ∙ take-append-le w (f i) (joined f (suc i) n) l ∙ take_all w (f i) (omega (arith, e i))
    ∙ ap f (sym (add-zero i))
part_joined f w i (suc j) (suc n) e h =
    let m : suc j * w ≡ length (f i) + j * w = omega (arith, suc-mul j w, e i) in
    ap (λ x. take w (drop x (f i ++ joined f (suc i) n))) m ∙ ap (take w) (drop-append-add (f i) (joined f (suc i) n) (j * w))
    ∙ part_joined f w (suc i) j n e (omega arith) ∙ ap f (suc-add i j ∙ sym (add-suc i j))
