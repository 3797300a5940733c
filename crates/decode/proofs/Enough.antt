-- What is kept is enough: longer numbers or blocks are refused with 9, or with 1 to 3 before it, and so is what is kept of them. Assumes nothing.
use Prim.Native.Nat.{ℕ, ◌*◌, ◌<◌, ◌≤◌}
use native.Mathlib.Nat.{mul-le-mul_right}
use native.Mathlib.Omega.{arith}
use mathlib.Core.Path.{◌≡◌, refl, sym, ap, ◌∙◌}
use mathlib.Core.Bool.{Bool, true, false}
use mathlib.Core.List.{List, []}
use lib.Dec.{eqb, leb}
use lib.ListN.{length, take, length-take}
use lib.Seq.{take_all}
use borrow.Author.Tests.{leb-true, leb-false}
use Rattle.blocks.specs.declared.Params.{Params}
use Rattle.blocks.specs.declared.Fault.{Fault}
use Rattle.std.specs.Prelude.{Ok, Err}
use Rattle.blocks.specs.Params.{Coded, fault, demand, and_then, params_test, Bounded}
use Rattle.blocks.specs.Code.{block_length}
use Rattle.blocks.specs.Calls.{Outcome, numbers_fit, written, decode_test, decoding}
use Rattle.blocks.proofs.Parameters.{bounds, differs, lacks}
use Rattle.blocks.proofs.Stripes.{block_small}
use Rattle.decode.specs.Kept.{numbers_kept, bytes_kept, DecodesAll}

-- a demand before one that is refused for the same reason
either : (b : Bool) (f : Fault) → demand b f (Err f) ≡ Err f
unfolding demand
either true f = refl
either false f = refl

-- ---- the tests after those of the parameters

abbrev rest : Params → List ℕ → ℕ → ℕ → Coded
rest g js len room =
    demand (leb g.k (length js)) (fault 9)
    (demand (leb (length js) g.n) (fault 9)
    (demand (eqb len (length js * block_length g.size g.k)) (fault 9)
    (demand (numbers_fit g.n js) (fault 9) (demand (leb g.size room) (fault 10) (Ok tt)))))

many : (g : Params) (js : List ℕ) (len room : ℕ) → Bounded g → 10 < length js → rest g js len room ≡ Err (fault 9)
many g js len room b h =
    let m : g.n < length js = omega (arith, b.servers_high) in
    ap (demand (leb g.k (length js)) (fault 9)) (lacks (length js) g.n (fault 9) _ m) ∙ either _ (fault 9)

-- a bound on the bytes that several blocks have
most : (g : Params) (m : ℕ) → Bounded g → m ≤ g.n → m * block_length g.size g.k ≤ 2560
most g m b h =
    let y = block_small g.size g.k b.blocks_low in
    let t : m ≤ 10 = omega (arith, b.servers_high) in
    omega (arith, mul-le-mul_right (block_length g.size g.k) t, y, b.size_high)

long_or_many : (g : Params) (js : List ℕ) (len : ℕ) (later : Coded) → Bounded g → 2560 < len → (c : Bool) → leb (length js) g.n ≡ c
    → demand c (fault 9) (demand (eqb len (length js * block_length g.size g.k)) (fault 9) later) ≡ Err (fault 9)
unfolding demand
long_or_many g js len later b h true e =
    let m = most g (length js) b (leb-true (length js) g.n e) in
    differs len (length js * block_length g.size g.k) (fault 9) later (λ q. omega (arith, q, m, h))
long_or_many g js len later b h false e = refl

long : (g : Params) (js : List ℕ) (len room : ℕ) → Bounded g → 2560 < len → rest g js len room ≡ Err (fault 9)
long g js len room b h = ap (demand (leb g.k (length js)) (fault 9)) (long_or_many g js len _ b h (leb (length js) g.n) refl) ∙ either _ (fault 9)

-- ---- the outcome

-- the outcome for lists that are too long to be decoded
abbrev too_long : Params → List ℕ → Outcome
too_long g out = written (and_then (params_test g) (Err (fault 9))) out []

refused : (g : Params) (p later third : Coded) (out v : List ℕ) → (p ≡ (Ok tt) → later ≡ Err (fault 9))
    → written (and_then (and_then p later) third) out v ≡ written (and_then p (Err (fault 9))) out []
unfolding and_then written
refused g (Ok _) later third out v h = ap (λ x. written (and_then x third) out v) (h refl)
refused g (Err f) later third out v h = refl

many_refused : (g : Params) (js w out : List ℕ) → 10 < length js → decoding g js w out ≡ too_long g out
unfolding decoding decode_test
many_refused g js w out h = refused g (params_test g) _ _ out _ (λ e. many g js (length w) (length out) (bounds g e) h)

long_refused : (g : Params) (js w out : List ℕ) → 2560 < length w → decoding g js w out ≡ too_long g out
unfolding decoding decode_test
long_refused g js w out h = refused g (params_test g) _ _ out _ (λ e. long g js (length w) (length out) (bounds g e) h)

-- ---- what is kept, m numbers and l bytes

module _ (m l : ℕ) (hm : 10 < m) (hl : 2560 < l) (g : Params) (js w out : List ℕ) where
  enough : (a b : Bool) → leb (length js) 10 ≡ a → leb (length w) 2560 ≡ b → decoding g (take m js) (take l w) out ≡ decoding g js w out
  enough true true e f =
      let x : length js ≤ m = let y = leb-true (length js) 10 e in omega (arith, y, hm) in
      let z : length w ≤ l = let y = leb-true (length w) 2560 f in omega (arith, y, hl) in
      ap (λ u. decoding g u (take l w) out) (take_all m js x) ∙ ap (λ u. decoding g js u out) (take_all l w z)
  enough false b e f =
      let x : 10 < length js = leb-false (length js) 10 e in
      let y = length-take m js in
      many_refused g (take m js) (take l w) out (omega (arith, x, y, hm)) ∙ sym (many_refused g js w out x)
  enough true false e f =
      let x : 2560 < length w = leb-false (length w) 2560 f in
      let y = length-take l w in
      long_refused g (take m js) (take l w) out (omega (arith, x, y, hl)) ∙ sym (long_refused g js w out x)

numbers_enough : 10 < numbers_kept
unfolding numbers_kept
numbers_enough = omega arith

bytes_enough : 2560 < bytes_kept
unfolding bytes_kept
bytes_enough = omega arith

pub all : (o : Outcome) (g : Params) (numbers blocks out : List ℕ) → o ≡ decoding g numbers blocks out → DecodesAll g numbers blocks out o
unfolding DecodesAll
all o g numbers blocks out e js w a b =
    e ∙ ap (λ u. decoding g u blocks out) a ∙ ap (λ u. decoding g (take numbers_kept js) u out) b
    ∙ enough numbers_kept bytes_kept numbers_enough bytes_enough g js w out (leb (length js) 10) (leb (length w) 2560) refl refl
