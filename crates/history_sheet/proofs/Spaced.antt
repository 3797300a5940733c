-- Pieces with a space after each, stored one after the other, and as a line that is filled with spaces. Assumes nothing.
use mathlib.Core.Path.{◌≡◌, refl, sym, ap, ◌∙◌}
use mathlib.Core.List.{List, [], ◌∷◌, ◌++◌, append_assoc}
use Prim.Native.Nat.{ℕ, suc, ◌+◌, ◌-◌}
use native.Mathlib.Omega.{arith}
use lib.ListN.{length, set, replicate, length-append}
use lib.Seq.{sets}
use Rattle.area.proofs.Sets.{sets_snoc, sets_next}
use Rattle.history_text.specs.Printed.{join}
use Rattle.history_sheet.specs.Sheet.{line_columns, filled}
use Rattle.history_sheet.specs.Stages.{spaced}

-- ---- stores one after the other

-- a byte after what is stored
pub put_last : (d : List ℕ) (at w : ℕ) (vs : List ℕ) (c : ℕ) → length vs ≡ w → set (sets d at vs) (at + w) c ≡ sets d at (vs ++ (c ∷ []))
put_last d at w vs c e = ap (λ i. set (sets d at vs) (at + i) c) (sym e) ∙ sym (sets_snoc d at vs c)

-- a list after what is stored
pub put_next : (d : List ℕ) (at w : ℕ) (a b : List ℕ) {x y : List ℕ} → x ≡ sets d at a → length a ≡ w → y ≡ sets x (at + w) b → y ≡ sets d at (a ++ b)
put_next d at w a b p e q = q ∙ ap (λ l. sets l (at + w) b) p ∙ sets_next d at a b w e

-- ---- pieces

pub spaced_append : (a b : List (List ℕ)) → spaced (a ++ b) ≡ spaced a ++ spaced b
unfolding spaced
spaced_append [] b = refl
spaced_append (x ∷ a) b = ap (λ l. x ++ 32 ∷ l) (spaced_append a b) ∙ sym (append_assoc x (32 ∷ spaced a) (spaced b))

spaced_one : (x : List ℕ) → spaced (x ∷ []) ≡ x ++ (32 ∷ [])
unfolding spaced
spaced_one x = refl

-- pieces that take their columns
abbrev pub Columned : List ℕ → List (List ℕ) → Type 0
Columned [] [] = Unit {0}
Columned [] (x ∷ pieces) = ⊥
Columned (w ∷ ws) [] = ⊥
Columned (w ∷ ws) (x ∷ pieces) = (length x ≡ w) × Columned ws pieces

-- pieces are stored from index at on, and take n bytes
pub record Put (d : List ℕ) (at : ℕ) (pieces : List (List ℕ)) (n : ℕ) (o : List ℕ) : Type 0 where
  pub is : o ≡ sets d at (spaced pieces)
  pub size : length (spaced pieces) ≡ n

pub first_piece : (d o : List ℕ) (at v : ℕ) (x : List ℕ) → length x ≡ v → o ≡ sets d at (x ++ (32 ∷ [])) → Put d at (x ∷ []) (v + 1) o
first_piece d o at v x e p = record {
  is = p ∙ ap (sets d at) (sym (spaced_one x));
  size = ap length (spaced_one x) ∙ length-append x (32 ∷ []) ∙ ap (λ k. k + 1) e;
}

pub next_piece : {d o y : List ℕ} {at n : ℕ} {pieces : List (List ℕ)} (v : ℕ) (x : List ℕ) → Put d at pieces n o → length x ≡ v
    → y ≡ sets o (at + n) (x ++ (32 ∷ [])) → Put d at (pieces ++ (x ∷ [])) (n + (v + 1)) y
next_piece {d = d} {at = at} {n = n} {pieces = pieces} v x P e q =
    let s = spaced_append pieces (x ∷ []) ∙ ap (λ l. spaced pieces ++ l) (spaced_one x) in
    let l = length-append (spaced pieces) (x ++ (32 ∷ [])) in
    let k = length-append x (32 ∷ []) in
    let size = P.size in
    record {
      is = put_next d at n (spaced pieces) (x ++ (32 ∷ [])) P.is P.size q ∙ ap (sets d at) (sym s);
      size = ap length s ∙ (let z : length (spaced pieces ++ (x ++ (32 ∷ []))) ≡ n + (v + 1) = omega arith in z);
    }

-- ---- a line

join_spaced : (x : List ℕ) (pieces : List (List ℕ)) (t : List ℕ) → join 32 (x ∷ pieces) ++ 32 ∷ t ≡ spaced (x ∷ pieces) ++ t
unfolding join spaced
join_spaced x [] t = sym (append_assoc x (32 ∷ []) t)
join_spaced x (y ∷ pieces) t =
    append_assoc x (32 ∷ join 32 (y ∷ pieces)) (32 ∷ t) ∙ ap (λ l. x ++ 32 ∷ l) (join_spaced y pieces t) ∙ sym (append_assoc x (32 ∷ spaced (y ∷ pieces)) t)

length_join : (x : List ℕ) (pieces : List (List ℕ)) → length (join 32 (x ∷ pieces)) + 1 ≡ length (spaced (x ∷ pieces))
length_join x pieces =
    sym (length-append (join 32 (x ∷ pieces)) (32 ∷ [])) ∙ ap length (join_spaced x pieces [])
    ∙ length-append (spaced (x ∷ pieces)) [] ∙ (let z : length (spaced (x ∷ pieces)) + 0 ≡ length (spaced (x ∷ pieces)) = omega arith in z)

-- pieces that take n columns with their spaces, and k columns that are left, fill a line
pub line_filled : (x : List ℕ) (pieces : List (List ℕ)) (n k : ℕ) → length (spaced (x ∷ pieces)) ≡ n → n + k ≡ line_columns
    → filled (join 32 (x ∷ pieces)) ≡ spaced (x ∷ pieces) ++ replicate k 32
unfolding filled
line_filled x pieces n k e h =
    let l = length_join x pieces in
    let z : line_columns - length (join 32 (x ∷ pieces)) ≡ suc k = omega arith in
    ap (λ m. join 32 (x ∷ pieces) ++ replicate m 32) z ∙ join_spaced x pieces (replicate k 32)
