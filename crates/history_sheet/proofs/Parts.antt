-- Parts of lists that lie end to end. Assumes nothing.
use mathlib.Core.Path.{◌≡◌, sym, ap, ◌∙◌}
use mathlib.Core.List.{List, ◌++◌}
use Prim.Native.Nat.{ℕ, zero, suc, ◌+◌, ◌*◌, ◌<◌, ◌≤◌}
use native.Mathlib.Nat.{add-zero, suc-mul}
use native.Mathlib.Omega.{arith}
use lib.ListN.{length, get_or, take, drop, length-drop}
use lib.Seq.{take-append-le, drop-append-le, drop-append-add, get_or-take, get_or-drop}
use Rattle.area.specs.Area.{part, joined}

-- a part of the first of two lists, and of the second
pub part_left : (a b : List ℕ) (c v : ℕ) → c + v ≤ length a → part (a ++ b) c v ≡ part a c v
part_left a b c v h =
    let g : c ≤ length a = omega arith in
    let l : v ≤ length (drop c a) = (let d = length-drop c a in omega arith) in
    ap (take v) (drop-append-le c a b g) ∙ take-append-le v (drop c a) b l

pub part_right : (a b : List ℕ) (n c v : ℕ) → length a ≡ n → part (a ++ b) (n + c) v ≡ part b c v
part_right a b n c v e = ap (take v) (ap (λ k. drop (k + c) (a ++ b)) (sym e) ∙ drop-append-add a b c)

-- a part of one of several lists of width w
pub part_joined : (f : ℕ → List ℕ) (w i n k c v : ℕ) → ((j : ℕ) → i ≤ j → j < i + n → length (f j) ≡ w) → k < n → c + v ≤ w
    → part (joined f i n) (k * w + c) v ≡ part (f (i + k)) c v
unfolding joined
part_joined f w i zero k c v e h g = absurd (omega arith)
part_joined f w i (suc n) zero c v e h g =
    let l = e i (omega arith) (omega arith) in
    let z : 0 * w + c ≡ c = omega arith in
    ap (λ x. part (f i ++ joined f (suc i) n) x v) z
    ∙ part_left (f i) (joined f (suc i) n) c v (omega arith)
    ∙ ap (λ x. part (f x) c v) (sym (add-zero i))
part_joined f w i (suc n) (suc k) c v e h g =
    let l = e i (omega arith) (omega arith) in
    let z : suc k * w + c ≡ w + (k * w + c) = rw suc-mul (omega arith) in
    let y : suc i + k ≡ i + suc k = omega arith in
    ap (λ x. part (f i ++ joined f (suc i) n) x v) z
    ∙ part_right (f i) (joined f (suc i) n) w (k * w + c) v l
    ∙ part_joined f w (suc i) n k c v (λ j a b. e j (omega arith) (omega arith)) (omega arith) g
    ∙ ap (λ x. part (f x) c v) y

-- an element is a part
pub element : (l : List ℕ) (i : ℕ) → get_or l i 0 ≡ get_or (part l i 1) 0 0
element l i = sym (get_or-take 1 (drop i l) 0 0 (omega arith) ∙ get_or-drop i l 0 0 ∙ ap (λ k. get_or l k 0) (add-zero i))
