-- Cutting a line at its columns gives the fields that it was made of. Assumes nothing.
use mathlib.Core.Path.{◌≡◌, refl, sym, ap, ap₂, ◌∙◌}
use mathlib.Core.Bool.{true}
use mathlib.Core.List.{List, [], ◌∷◌, ◌++◌, append_assoc, map}
use Prim.Native.Nat.{ℕ, zero, suc, ◌+◌, ◌-◌, ◌<◌}
use native.Mathlib.Omega.{arith}
use lib.Dec.{eqb}
use lib.ListN.{length, take, drop, replicate}
use lib.Seq.{take_at, drop-append-add}
use borrow.Author.Tests.{eq-eqb, ne_eqb}
use Rattle.area.specs.Area.{pick}
use Rattle.order.proofs.Picks.{pick_yes, pick_no}
use Rattle.order.proofs.Lists.{by_test}
use Rattle.order.specs.declared.operation.Operation.{Operation}
use Rattle.history_text.specs.Decimals.{are_digits, value_from, value_of, decimal}
use Rattle.history_text.specs.Printed.{kind_of, numbers_in, fields_of, InWidth}
use Rattle.history_text.proofs.Decimals.{digit_is, digits_cons, digits_all, value_decimal}
use Rattle.history_text.proofs.Forms.{are_fields}
use Rattle.history_sheet.specs.Sheet.{aligned, columns, aligned_all, filled, operation_line}
use Rattle.history_sheet.specs.Stages.{spaced}
use Rattle.history_sheet.specs.Board.{cut, trimmed, fields_in, place_of, operation_of}
use Rattle.history_sheet.proofs.Spaced.{Columned}
use Rattle.history_sheet.proofs.Lines.{columned, line_spaced}

-- ---- cutting

cut_spaced : (ws : List ℕ) (pieces : List (List ℕ)) (t : List ℕ) → Columned ws pieces → cut ws (spaced pieces ++ t) ≡ pieces
unfolding cut spaced
cut_spaced [] [] t h = refl
cut_spaced [] (x ∷ pieces) t h = absurd h
cut_spaced (w ∷ ws) [] t h = absurd h
cut_spaced (w ∷ ws) (x ∷ pieces) t h =
    let e = append_assoc x (32 ∷ spaced pieces) t in
    ap₂ (λ a b. a ∷ b)
    (ap (take w) e ∙ take_at x (32 ∷ (spaced pieces ++ t)) w h.0)
    (ap (λ l. cut ws (drop (w + 1) l)) e
    ∙ ap (λ k. cut ws (drop (k + 1) (x ++ 32 ∷ (spaced pieces ++ t)))) (sym h.0)
    ∙ ap (cut ws) (drop-append-add x (32 ∷ (spaced pieces ++ t)) 1)
    ∙ cut_spaced ws pieces t h.1)

-- ---- fields without the spaces before them

trimmed_cons : (c : ℕ) (t : List ℕ) → trimmed (c ∷ t) ≡ pick (eqb c 32) (trimmed t) (c ∷ t)
unfolding trimmed
trimmed_cons c t = refl

trimmed_spaces : (n : ℕ) (t : List ℕ) → trimmed (replicate n 32 ++ t) ≡ trimmed t
trimmed_spaces zero t = refl
trimmed_spaces (suc n) t = trimmed_cons 32 (replicate n 32 ++ t) ∙ sym (pick_yes _ _ _ refl (eq-eqb 32 32 refl) refl) ∙ trimmed_spaces n t

trimmed_other : (c : ℕ) (t : List ℕ) → (c ≡ 32 → ⊥) → trimmed (c ∷ t) ≡ c ∷ t
trimmed_other c t h = trimmed_cons c t ∙ sym (pick_no _ _ _ refl (ne_eqb c 32 h) refl)

trimmed_digits : (t : List ℕ) → are_digits t ≡ true → trimmed t ≡ t
unfolding trimmed
trimmed_digits [] d = refl
trimmed_digits (c ∷ t) d = let low = (digit_is c (digits_cons c t d).0).low in trimmed_other c t (λ e. omega arith)

trimmed_aligned : (w : ℕ) (t : List ℕ) → trimmed t ≡ t → trimmed (aligned w t) ≡ t
unfolding aligned
trimmed_aligned w t e = trimmed_spaces (w - length t) t ∙ e

trimmed_kind : (a : Operation) → trimmed (kind_of a) ≡ kind_of a
unfolding kind_of pick
trimmed_kind a = by_test a.write (λ t. rw t (trimmed_other 87 [] (λ e. omega arith))) (λ t. rw t (trimmed_other 82 [] (λ e. omega arith)))

-- texts that do not begin with a space
abbrev Bare : List (List ℕ) → Type 0
Bare [] = Unit {0}
Bare (t ∷ ts) = (trimmed t ≡ t) × Bare ts

abbrev Long : List ℕ → List (List ℕ) → Type 0
Long [] [] = Unit {0}
Long [] (t ∷ ts) = ⊥
Long (w ∷ ws) [] = ⊥
Long (w ∷ ws) (t ∷ ts) = Long ws ts

trimmed_all : (ws : List ℕ) (ts : List (List ℕ)) → Long ws ts → Bare ts → map trimmed (aligned_all ws ts) ≡ ts
unfolding aligned_all
trimmed_all [] [] l b = refl
trimmed_all [] (t ∷ ts) l b = absurd l
trimmed_all (w ∷ ws) [] l b = absurd l
trimmed_all (w ∷ ws) (t ∷ ts) l b = ap₂ (λ x y. x ∷ y) (trimmed_aligned w t b.0) (trimmed_all ws ts l b.1)

bare_numbers : (xs : List ℕ) → Bare (map decimal xs)
bare_numbers [] = tt
bare_numbers (x ∷ xs) = (trimmed_digits (decimal x) (digits_all x), bare_numbers xs)

-- ---- the line of an operation

module _ (place : ℕ) (a : Operation) (p : place < 1000) (h : InWidth a) where
  fields : fields_in (operation_line place a) ≡ decimal place ∷ fields_of a
  unfolding fields_in columns fields_of
  fields =
      ap (λ l. map trimmed (cut columns l)) (line_spaced a h place p)
      ∙ ap (map trimmed) (cut_spaced columns (aligned_all columns (decimal place ∷ fields_of a)) _ (columned a h place p))
      ∙ trimmed_all columns (decimal place ∷ fields_of a) tt (trimmed_digits (decimal place) (digits_all place), (trimmed_kind a, bare_numbers (numbers_in a)))

  pub line_place : place_of (fields_in (operation_line place a)) ≡ place
  unfolding place_of
  line_place = ap place_of fields ∙ value_decimal place (omega arith)

  pub line_operation : operation_of (fields_in (operation_line place a)) ≡ a
  unfolding operation_of
  line_operation = ap operation_of fields ∙ (are_fields a h).1

-- ---- a line of spaces

blank_place : place_of (fields_in (filled [])) ≡ 0
unfolding place_of fields_in columns cut filled trimmed pick value_of value_from
blank_place = refl

pub free_place : (line : List ℕ) → line ≡ filled [] → place_of (fields_in line) ≡ 0
free_place line e = ap (λ l. place_of (fields_in l)) e ∙ blank_place
