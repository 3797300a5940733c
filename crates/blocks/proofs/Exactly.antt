-- Decoding any number of blocks gives the value exactly if they are its blocks. Assumes nothing.
use Prim.Native.Nat.{ℕ, zero, suc, ◌+◌, ◌*◌, ◌<◌, ◌≤◌}
use mathlib.Core.Path.{◌≡◌, refl, sym, ap, ap₂, ◌∙◌, subst}
use mathlib.Core.Bool.{Bool, true, false}
use mathlib.Core.Option.{none, some}
use mathlib.Core.List.{List, [], ◌∷◌, ◌++◌}
use native.Mathlib.Nat.{suc-mul, zero-mul}
use native.Mathlib.Omega.{arith}
use lib.ListN.{length, take}
use lib.Seq.{sets, take-append-add, length-take-le}
use Rattle.area.specs.Area.{Bytes, pick, same}
use Rattle.area.proofs.Tests.{impossible, pick_some}
use Rattle.area.proofs.Same.{same_true, same_refl}
use Rattle.area.proofs.Numbers.{Bytes-take}
use Rattle.blocks.specs.declared.Params.{Params}
use Rattle.area.specs.Responses.{turned_down, gives}
use Rattle.std.specs.Prelude.{Ok}
use Rattle.blocks.specs.Params.{Coded, fault, demand, and_then}
use Rattle.blocks.specs.Poly.{All, Distinct}
use Rattle.blocks.specs.Code.{block_length, block_of, value_of, blocks_of, candidate, agree, decoded_all}
use Rattle.blocks.specs.Calls.{Outcome, told, written, decode_test, agree_test, decoding}
use Rattle.blocks.specs.Exact.{BlocksOf, Given, Called, Exact}
use Rattle.blocks.proofs.Numbers.{numbers_facts}
use Rattle.blocks.proofs.CallLaws.{Decodes, decodes}
use Rattle.blocks.proofs.Stripes.{length_block_of}
use Rattle.blocks.proofs.Values.{length_value_of}
use Rattle.blocks.proofs.RoundTrip.{decoded, Bytes-value_of}
pub use Rattle.blocks.proofs.RoundTrip.{length_blocks_of}

-- ---- the first m numbers

all_take : (P : ℕ → Type 0) (m : ℕ) (js : List ℕ) → All P js → All P (take m js)
all_take P zero js h = tt
all_take P (suc m) [] h = tt
all_take P (suc m) (j ∷ js) h = (h.0, all_take P m js h.1)

pub distinct_take : (m : ℕ) (js : List ℕ) → Distinct js → Distinct (take m js)
distinct_take zero js h = tt
distinct_take (suc m) [] h = tt
distinct_take (suc m) (j ∷ js) h = (all_take _ m js h.0, distinct_take m js h.1)

-- their blocks come first
pub blocks_take : (k : ℕ) (v : List ℕ) (m : ℕ) (js : List ℕ) → m ≤ length js
    → take (m * block_length (length v) k) (blocks_of k v js) ≡ blocks_of k v (take m js)
unfolding blocks_of
blocks_take k v zero js h = ap (λ (n : ℕ). take n (blocks_of k v js)) (zero-mul (block_length (length v) k))
blocks_take k v (suc m) [] h = absurd (omega arith)
blocks_take k v (suc m) (j ∷ js) h =
    let b : ℕ = block_length (length v) k in
    let e : suc m * b ≡ length (block_of k v j) + m * b = omega (arith, suc-mul m b, length_block_of k v j) in
    ap (λ (n : ℕ). take n (block_of k v j ++ blocks_of k v js)) e
    ∙ take-append-add (block_of k v j) (blocks_of k v js) (m * b)
    ∙ ap (λ (l : List ℕ). block_of k v j ++ l) (blocks_take k v m js (omega arith))

-- ---- the candidate

taken : (k L : ℕ) (js w : List ℕ) → Given k L js w → length (take k js) ≡ k
taken k L js w h = length-take-le k js h.enough

pub candidate_length : (k L : ℕ) (js w : List ℕ) → Given k L js w → length (candidate k L js w) ≡ L
unfolding candidate
candidate_length k L js w h = length_value_of (take k js) (take (k * block_length L k) w) L (omega (arith, taken k L js w h, h.one))

pub candidate_bytes : (k L : ℕ) (js w : List ℕ) → Bytes (candidate k L js w)
unfolding candidate
candidate_bytes k L js w = Bytes-value_of (take k js) L (take (k * block_length L k) w)

-- if w holds the blocks of v, the candidate is v
pub candidate_is : (k L : ℕ) (js w v : List ℕ) → Given k L js w → BlocksOf k L js w v → candidate k L js w ≡ v
unfolding candidate
candidate_is k L js w v h x =
    ap (λ (l : List ℕ). value_of (take k js) L (take (k * block_length L k) l)) (sym x.blocks)
    ∙ ap (λ (n : ℕ). value_of (take k js) L (take (k * block_length n k) (blocks_of k v js))) (sym x.long)
    ∙ ap (value_of (take k js) L) (blocks_take k v k js h.enough)
    ∙ decoded (take k js) v k L (taken k L js w h) x.long h.one (Bytes-take k js h.numbers) (distinct_take k js h.different) x.bytes

-- ---- decoding

picked_none : (b : Bool) (c : List ℕ) → pick b (some c) none ≡ none → b ≡ false
unfolding pick
picked_none true c e = impossible (cc e)
picked_none false c e = refl

pub given_is : (k L : ℕ) (js w v : List ℕ) → Given k L js w → decoded_all k L js w ≡ some v → BlocksOf k L js w v
unfolding decoded_all agree
given_is k L js w v h e =
    let p = pick_some (agree k L js w) (candidate k L js w) v e in
    record {
      long = subst (λ (l : List ℕ). length l ≡ L) p.1 (candidate_length k L js w h);
      bytes = subst Bytes p.1 (candidate_bytes k L js w);
      blocks = subst (λ (l : List ℕ). blocks_of k l js ≡ w) p.1 (same_true _ _ p.0);
    }

-- blocks of one value agree
agrees : (k L : ℕ) (js w v : List ℕ) → Given k L js w → BlocksOf k L js w v → agree k L js w ≡ true
unfolding agree
agrees k L js w v h x = ap₂ same (ap (λ (l : List ℕ). blocks_of k l js) (candidate_is k L js w v h x) ∙ x.blocks) refl ∙ same_refl w

pub is_given : (k L : ℕ) (js w v : List ℕ) → Given k L js w → BlocksOf k L js w v → decoded_all k L js w ≡ some v
unfolding decoded_all pick
is_given k L js w v h x = ap₂ (λ (b : Bool) (l : List ℕ). pick b (some l) none) (agrees k L js w v h x) (candidate_is k L js w v h x)

pub none_has : (k L : ℕ) (js w : List ℕ) → Given k L js w → decoded_all k L js w ≡ none → (v : List ℕ) → BlocksOf k L js w v → ⊥
none_has k L js w h e v x = impossible (cc (sym e ∙ is_given k L js w v h x))

-- blocks that agree are the candidate's
stand : (k L : ℕ) (js w : List ℕ) → Given k L js w → agree k L js w ≡ true → BlocksOf k L js w (candidate k L js w)
unfolding agree
stand k L js w h a = record { long = candidate_length k L js w h; bytes = candidate_bytes k L js w; blocks = same_true _ _ a }

by_agree : (k L : ℕ) (js w : List ℕ) → Given k L js w → (b : Bool) → agree k L js w ≡ b
    → ((v : List ℕ) → BlocksOf k L js w v → ⊥) → decoded_all k L js w ≡ none
unfolding decoded_all pick
by_agree k L js w h true a f = absurd (f (candidate k L js w) (stand k L js w h a))
by_agree k L js w h false a f = ap (λ (b : Bool). pick b (some (candidate k L js w)) none) a

pub has_none : (k L : ℕ) (js w : List ℕ) → Given k L js w → ((v : List ℕ) → BlocksOf k L js w v → ⊥) → decoded_all k L js w ≡ none
has_none k L js w h f = by_agree k L js w h (agree k L js w) refl f

-- ---- the call

module _ (g : Params) (js w out : List ℕ) (e : decode_test g js (length w) (length out) ≡ Ok tt) where
  value : List ℕ
  value = candidate g.k g.size js w

  given : Given g.k g.size js w
  given =
      let d : Decodes g js (length w) (length out) = decodes g js (length w) (length out) e in
      let n : g.n < 256 = omega (arith, d.within.servers_high) in
      let f : Bytes js × Distinct js = numbers_facts g.n js n d.numbered in
      record { one = d.within.blocks_low; enough = d.enough; numbers = f.0; different = f.1; whole = d.whole }

  outcome_by : Coded → Bool → Outcome
  outcome_by t b = written (and_then t (demand b (fault 21) (Ok tt))) out value

  valued : agree g.k g.size js w ≡ true → decoding g js w out ≡ told (gives tt) (sets out 0 value)
  unfolding decoding agree_test written and_then demand value outcome_by
  valued a = ap₂ outcome_by e a

  turned : agree g.k g.size js w ≡ false → decoding g js w out ≡ told (turned_down 21) out
  unfolding decoding agree_test written and_then demand value outcome_by
  turned a = ap₂ outcome_by e a

  answers : (v : List ℕ) → BlocksOf g.k g.size js w v → decoding g js w out ≡ told (gives tt) (sets out 0 v)
  unfolding value
  answers v x =
      valued (agrees g.k g.size js w v given x)
      ∙ ap (λ (l : List ℕ). told (gives tt) (sets out 0 l)) (candidate_is g.k g.size js w v given x)

  answered : (b : Bool) → agree g.k g.size js w ≡ b → (decoding g js w out).answer ≡ gives tt
      → (v : List ℕ) × BlocksOf g.k g.size js w v × (decoding g js w out ≡ told (gives tt) (sets out 0 v))
  unfolding value
  answered true a h = (value, stand g.k g.size js w given a, valued a)
  answered false a h = impossible (cc (sym (ap (λ o. o.answer) (turned a)) ∙ h))

  disagrees : (b : Bool) → agree g.k g.size js w ≡ b → ((v : List ℕ) → BlocksOf g.k g.size js w v → ⊥)
      → decoding g js w out ≡ told (turned_down 21) out
  disagrees true a f = absurd (f (candidate g.k g.size js w) (stand g.k g.size js w given a))
  disagrees false a f = turned a

  disagreed : (decoding g js w out).answer ≡ turned_down 21 → (v : List ℕ) → BlocksOf g.k g.size js w v → ⊥
  disagreed h v x = impossible (cc (sym h ∙ ap (λ o. o.answer) (answers v x)))

  called : Called g js w out
  called = record { answers = answers; answered = answered _ refl; disagrees = disagrees _ refl; disagreed = disagreed }

pub exact : Exact
exact = record { any = decoded; given_is = given_is; is_given = is_given; none_has = none_has; has_none = has_none; called = called }
