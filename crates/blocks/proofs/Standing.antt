-- Blocks compared with those of a value, one after the other: the turns of the loop. Assumes nothing.
use Prim.Native.Nat.{ℕ, suc, ◌+◌, ◌*◌, ◌<◌, ◌≤◌}
use mathlib.Core.Path.{◌≡◌, refl, sym, ap, ap₂, ◌∙◌}
use mathlib.Core.Bool.{Bool, true, false, not}
use mathlib.Core.List.{List, [], ◌∷◌, ◌++◌}
use native.Mathlib.Nat.{suc-mul, mul-le-mul_right}
use native.Mathlib.Numerals.{add-one}
use native.Mathlib.Omega.{arith}
use lib.ListN.{length, get_or, take, drop, length-drop, drop_of_length-le, take-append-drop}
use lib.Seq.{drop-cons, drop-drop, length-take-le, take_at, sets, length-sets}
use borrow.Author.Tests.{eq-eqb, not-true, not-false}
use Rattle.area.specs.Area.{part, same}
use Rattle.area.proofs.Same.{same_true, same_false}
use Rattle.area.proofs.Sets.{part_sets_same}
use Rattle.blocks.specs.Code.{block_length, block_of, blocks_of}
use Rattle.blocks.proofs.Parameters.{refuted}
use Rattle.blocks.proofs.Stripes.{length_block_of, block_small}

-- two lists with the same front are compared by what follows it
same_front : (a x y : List ℕ) → same (a ++ x) (a ++ y) ≡ same x y
unfolding same
same_front [] x y = refl
same_front (u ∷ a) x y = rw (eq-eqb u u refl) (same_front a x y)

-- lists whose fronts have the same length and differ are not the same
front_differs : (a b x y : List ℕ) (n : ℕ) → length a ≡ n → length b ≡ n → same b a ≡ false → same (a ++ x) (b ++ y) ≡ false
front_differs a b x y n la lb e =
    sym (refuted (same (a ++ x) (b ++ y)) (λ t.
    let q : a ++ x ≡ b ++ y = same_true (a ++ x) (b ++ y) t in
    let f : a ≡ b = sym (take_at a x n la) ∙ ap (take n) q ∙ take_at b y n lb in
    same_false b a e (sym f)))

-- the next block comes before the rest
block_rest : (k : ℕ) (v js : List ℕ) (i : ℕ) → i < length js → blocks_of k v (drop i js) ≡ block_of k v (get_or js i 0) ++ blocks_of k v (drop (suc i) js)
unfolding blocks_of
block_rest k v js i h = ap (blocks_of k v) (drop-cons js i 0 h)

rest_split : (w : List ℕ) (at b : ℕ) → drop at w ≡ part w at b ++ drop (at + b) w
rest_split w at b =
    sym (take-append-drop b (drop at w)) ∙ ap (λ l. part w at b ++ l) (drop-drop b at w)

part_length : (js w : List ℕ) (i at b : ℕ) → i < length js → at ≡ i * b → length w ≡ length js * b → length (part w at b) ≡ b
part_length js w i at b h e l =
    length-take-le b (drop at w) (omega (arith, length-drop at w, suc-mul i b, mul-le-mul_right {m = suc i} {n = length js} b h))

pub place_in : (js w : List ℕ) (i at b : ℕ) → i < length js → at ≡ i * b → length w ≡ length js * b → at + b ≤ length w
place_in js w i at b h e l = omega (arith, suc-mul i b, mul-le-mul_right {m = suc i} {n = length js} b h)

module _ (k : ℕ) (v js w : List ℕ) (i at : ℕ) (h : i < length js) (e : at ≡ i * block_length (length v) k)
    (l : length w ≡ length js * block_length (length v) k) (r : Bool)
    (p : r ≡ same (part w at (block_length (length v) k)) (block_of k v (get_or js i 0))) where
  pub stand_turn : not r ≡ false → same (blocks_of k v (drop i js)) (drop at w) ≡ same (blocks_of k v (drop (i + 1) js)) (drop (at + block_length (length v) k) w)
  stand_turn t =
      let b : ℕ = block_length (length v) k in
      let q : part w at b ≡ block_of k v (get_or js i 0) = same_true _ _ (sym p ∙ not-false r t) in
      ap₂ same (block_rest k v js i h) (rest_split w at b ∙ ap (λ x. x ++ drop (at + b) w) q)
      ∙ same_front (block_of k v (get_or js i 0)) (blocks_of k v (drop (suc i) js)) (drop (at + b) w)
      ∙ ap (λ m. same (blocks_of k v (drop m js)) (drop (at + b) w)) (sym (add-one i))

  pub stand_out : not r ≡ true → same (blocks_of k v (drop i js)) (drop at w) ≡ false
  stand_out t =
      let b : ℕ = block_length (length v) k in
      ap₂ same (block_rest k v js i h) (rest_split w at b)
      ∙ front_differs (block_of k v (get_or js i 0)) (part w at b) (blocks_of k v (drop (suc i) js)) (drop (at + b) w) b (length_block_of k v (get_or js i 0))
      (part_length js w i at b h e l) (sym p ∙ not-true r t)

pub stand_end : (k : ℕ) (v js w : List ℕ) (i at b : ℕ) → length js ≤ i → i ≤ length js → at ≡ i * b → length w ≡ length js * b
    → same (blocks_of k v (drop i js)) (drop at w) ≡ true
unfolding blocks_of same
stand_end k v js w i at b h m e l =
    let i' : i ≡ length js = omega arith in
    let n : length w ≤ at = omega (arith, ap (λ x. x * b) i') in
    rw (drop_of_length-le js, drop_of_length-le w)

-- ---- a block stored in the front of a buffer of 256 bytes

module _ (k : ℕ) (v : List ℕ) (j b : ℕ) (d d' : List ℕ) (h : 0 < k) (l : length v ≤ 256) (e : b ≡ block_length (length v) k) (z : length d ≡ 256)
    (p : d' ≡ sets d 0 (block_of k v j)) where
  pub buffer_room : b ≤ length d'
  buffer_room = omega (arith, ap length p, length-sets d 0 (block_of k v j), block_small (length v) k h)

  pub buffer_front : take b d' ≡ block_of k v j
  buffer_front =
      let n : b ≡ length (block_of k v j) = e ∙ sym (length_block_of k v j) in
      ap₂ take n p ∙ part_sets_same d 0 (block_of k v j) (omega (arith, block_small (length v) k h))

  pub buffer_length : b ≡ length (take b d')
  buffer_length = sym (length-take-le b d' buffer_room)

  -- what is at a place, compared with it
  pub stands : (w : List ℕ) (at : ℕ) (r : Bool) → r ≡ same (part w at (length (take b d'))) (take b d')
      → r ≡ same (part w at (block_length (length v) k)) (block_of k v j)
  stands w at r q = q ∙ ap₂ (λ m x. same (part w at m) x) (sym buffer_length ∙ e) buffer_front
