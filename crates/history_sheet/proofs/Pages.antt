-- Pages: lines end to end, and the stores of the code. Assumes nothing.
use mathlib.Core.Path.{◌≡◌, refl, sym, ap, ap₂, subst, ◌∙◌}
use mathlib.Core.List.{List, [], ◌∷◌, ◌++◌}
use Prim.Native.Nat.{ℕ, zero, suc, ◌+◌, ◌-◌, ◌*◌, ◌/◌, ◌<◌, ◌≤◌, min}
use native.Mathlib.Nat.{add-zero, zero-add, add-suc, suc-add}
use native.Mathlib.Omega.{arith}
use lib.Dec.{eqb, ltb}
use lib.ListN.{length, get_or, length-append}
use lib.Seq.{sets}
use borrow.Author.Tests.{lt-ltb, le-ltb, ltb-true, ltb-false, eq-eqb, ne_eqb}
use Rattle.area.specs.Area.{joined}
use Rattle.area.proofs.Fills.{joined_snoc, joined_split, length_lines, length_table, get_d_table}
use Rattle.order.proofs.Picks.{pick_yes, pick_no}
use Rattle.order.proofs.Lists.{by_test}
use Rattle.order.specs.Histories.{no_operation}
use Rattle.order.specs.declared.operation.Operation.{Operation}
use Rattle.history_text.specs.Decimals.{decimal}
use Rattle.history_text.specs.Printed.{InWidth}
use Rattle.history_sheet.specs.Sheet.{line_columns, on_page, page_size, pages_of, aligned, filled, operation_line, ended, place_line, page_of}
use Rattle.history_sheet.specs.Stages.{named, named_all, Named}
use Rattle.history_sheet.specs.Board.{Fits}
use Rattle.history_sheet.proofs.Columns.{length_decimal, length_aligned}
use Rattle.history_sheet.proofs.Spaced.{put_next}
use Rattle.history_sheet.proofs.Lines.{length_operation, length_blank}

-- ---- lists end to end

joined_agree : {A : Type 0} (f g : ℕ → List A) (i k n : ℕ) → ((j : ℕ) → j < n → f (i + j) ≡ g (k + j)) → joined f i n ≡ joined g k n
unfolding joined
joined_agree f g i k zero e = refl
joined_agree f g i k (suc n) e =
    ap₂ (λ x l. x ++ l) (rw (add-zero, add-zero) at (e 0 (omega arith)))
    (joined_agree f g (suc i) (suc k) n (λ j h. rw (suc-add, suc-add, ← add-suc, ← add-suc) (e (suc j) (omega arith))))

-- a loop that stores lists of the same length: its start, a turn, and its end
pub no_lines : (f : ℕ → List ℕ) (i : ℕ) (d : List ℕ) (at : ℕ) → d ≡ sets d at (joined f i 0)
unfolding joined
no_lines f i d at = refl

pub all_lines : (f : ℕ → List ℕ) (i j n : ℕ) (d o : List ℕ) (at : ℕ) → o ≡ sets d at (joined f i j) → j ≡ n → o ≡ sets d at (joined f i n)
all_lines f i j n d o at p e = p ∙ ap (λ k. sets d at (joined f i k)) e

pub turn : (f : ℕ → List ℕ) (w i j : ℕ) (d o y : List ℕ) (at : ℕ) → ((k : ℕ) → i ≤ k → k < i + j → length (f k) ≡ w)
    → o ≡ sets d at (joined f i j) → y ≡ sets o (at + j * w) (f (i + j)) → y ≡ sets d at (joined f i (j + 1))
turn f w i j d o y at e p q =
    put_next d at (j * w) (joined f i j) (f (i + j)) p (length_lines f w i j e) q ∙ ap (sets d at) (sym (joined_snoc f i j))

-- the same from the front of the area on
pub turn_front : (f : ℕ → List ℕ) (w j : ℕ) (d o y : List ℕ) → ((k : ℕ) → k < j → length (f k) ≡ w)
    → o ≡ sets d 0 (joined f 0 j) → y ≡ sets o (j * w) (f j) → y ≡ sets d 0 (joined f 0 (j + 1))
turn_front f w j d o y e p q =
    turn f w 0 j d o y 0 (λ k a b. e k (omega arith)) p (q ∙ ap₂ (λ i k. sets o i (f k)) (sym (zero-add (j * w))) (sym (zero-add j)))

-- ---- how many pages

pub no_operations : (n : ℕ) → n ≡ 0 → (1 ≡ pages_of n) × (1 ≤ 2)
unfolding pages_of
no_operations n e = (pick_yes _ _ _ refl (eq-eqb n 0 e) refl, omega arith)

pub some_operations : (n : ℕ) → (n ≡ 0 → ⊥) → n ≤ 64 → ((n + 58) / on_page ≡ pages_of n) × ((n + 58) / on_page ≤ 2)
unfolding pages_of
some_operations n e h = (pick_no _ _ _ refl (ne_eqb n 0 e) refl, omega arith)

-- each page but the first begins before the last operation
pub pages_begin : (n r : ℕ) → r ≡ pages_of n → r * on_page ≤ n + on_page
unfolding pages_of
pages_begin n r e =
    by_test (eqb n 0)
    (λ t. let z = e ∙ sym (pick_yes _ _ _ refl t refl) in omega arith)
    (λ t. let z : r ≡ (n + 58) / on_page = e ∙ sym (pick_no _ _ _ refl t refl) in omega arith)

-- the number of a page has one digit
pub one_digit : (p : ℕ) → p < 9 → length (decimal (p + 1)) ≤ 1
one_digit p h = length_decimal 0 (p + 1) (omega arith)

pub number_fits_lem : (p : ℕ) → p < 9 → length (decimal (p + 1)) ≤ line_columns
number_fits_lem p h = let l = one_digit p h in omega arith

-- ---- the lines of a page

pub place_used : (row : List Operation) (i : ℕ) → i < length row → place_line row i ≡ ended (operation_line (i + 1) (get_or row i no_operation))
unfolding place_line
place_used row i h = ap ended (sym (pick_yes _ _ _ refl (lt-ltb i (length row) h) refl))

pub place_free : (row : List Operation) (i : ℕ) → length row ≤ i → place_line row i ≡ ended (filled [])
unfolding place_line
place_free row i h = ap ended (sym (pick_no _ _ _ refl (le-ltb i (length row) h) refl))

module _ (row : List Operation) (F : Fits row) where
  pub length_place : (i : ℕ) → length (place_line row i) ≡ 73
  length_place i =
      by_test (ltb i (length row))
      (λ t.
      let h = ltb-true i (length row) t in
      let few = F.few in
      ap length (place_used row i h) ∙ length_operation (get_or row i no_operation) (F.widths i h) (i + 1) (omega arith))
      (λ t. ap length (place_free row i (ltb-false i (length row) t)) ∙ length_blank)

  pub length_page : (p : ℕ) → p < 9 → length (page_of row p) ≡ page_size
  unfolding page_of ended
  length_page p h =
      let n = length_lines (place_line row) 73 (on_page * p) on_page (λ j a b. length_place j) in
      let d = length_aligned line_columns (decimal (p + 1)) (number_fits_lem p h) in
      let a = length-append (joined (place_line row) (on_page * p) on_page) (aligned line_columns (decimal (p + 1)) ++ (10 ∷ [])) in
      let b = length-append (aligned line_columns (decimal (p + 1))) (10 ∷ []) in
      omega arith

-- ---- the operations that line numbers name

module _ (rows : List Operation) (lines : List ℕ) (m : ℕ) (N : Named rows lines m) where
  pub named_count : length (named_all rows lines m) ≡ m
  unfolding named_all
  named_count = length_table m (named rows lines)

  pub named_at : (i : ℕ) → i < m → get_or (named_all rows lines m) i no_operation ≡ named rows lines i
  unfolding named_all
  named_at i h = get_d_table m (named rows lines) i no_operation h

  abbrev line_at : ℕ → List ℕ
  line_at i = ended (operation_line (i + 1) (named rows lines i))

  pub named_line : (i : ℕ) → i < m → length (line_at i) ≡ 73
  named_line i h = let few = N.few in length_operation (named rows lines i) (N.widths i h) (i + 1) (omega arith)

  -- the lines of a page: those of its operations, and lines of spaces
  page_lines : (first count : ℕ) → count ≡ min on_page (m - first) → first ≤ m
      → joined (place_line (named_all rows lines m)) first on_page ≡ joined line_at first count ++ joined (λ i. ended (filled [])) 0 (on_page - count)
  page_lines first count e h =
      let row = named_all rows lines m in
      let n = named_count in
      let z : on_page ≡ count + (on_page - count) = omega arith in
      ap (joined (place_line row) first) z
      ∙ joined_split (place_line row) first count (on_page - count)
      ∙ ap₂ (λ x y. x ++ y)
      (joined_agree (place_line row) line_at first first count (λ j g.
      let k : first + j < length row = omega arith in
      place_used row (first + j) k ∙ ap (λ a. ended (operation_line (first + j + 1) a)) (named_at (first + j) (omega arith))))
      (joined_agree (place_line row) (λ i. ended (filled [])) (first + count) 0 (on_page - count) (λ j g. place_free row (first + count + j) (omega arith)))

  -- the stores of a page
  pub page_put : (p count : ℕ) → count ≡ min on_page (m - on_page * p) → on_page * p ≤ m → (d o₁ o₂ o₃ : List ℕ) (at : ℕ)
      → o₁ ≡ sets d at (joined line_at (on_page * p) count)
      → o₂ ≡ sets o₁ (at + count * 73) (joined (λ i. ended (filled [])) 0 (on_page - count))
      → o₃ ≡ sets o₂ (at + on_page * 73) (aligned line_columns (decimal (p + 1)) ++ (10 ∷ []))
      → o₃ ≡ sets d at (page_of (named_all rows lines m) p)
  unfolding page_of ended
  page_put p count e h d o₁ o₂ o₃ at e₁ e₂ e₃ =
      let first = on_page * p in
      let l₁ = length_lines line_at 73 first count (λ j a b. named_line j (omega arith)) in
      let l₂ = length_lines (λ i. ended (filled [])) 73 0 (on_page - count) (λ j a b. length_blank) in
      let k = page_lines first count e h in
      let l : length (joined (place_line (named_all rows lines m)) first on_page) ≡ on_page * 73 =
      ap length k ∙ length-append (joined line_at first count) (joined (λ i. ended (filled [])) 0 (on_page - count))
      ∙ (let z : length (joined line_at first count) + length (joined (λ i. ended (filled [])) 0 (on_page - count)) ≡ on_page * 73 = omega arith in z) in
      put_next d at (on_page * 73) (joined (place_line (named_all rows lines m)) first on_page) (aligned line_columns (decimal (p + 1)) ++ (10 ∷ []))
      (put_next d at (count * 73) (joined line_at first count) (joined (λ i. ended (filled [])) 0 (on_page - count)) e₁ l₁ e₂ ∙ ap (sets d at) (sym k)) l e₃

  pub named_fewer : (k : ℕ) → k ≤ m → Named rows lines k
  named_fewer k h =
      let few = N.few in
      record {
        few = omega arith;
        low = λ i g. N.low i (omega arith);
        high = λ i g. N.high i (omega arith);
        widths = λ i g. N.widths i (omega arith);
      }

  pub named_fits : Fits (named_all rows lines m)
  named_fits =
      let n = named_count in
      let few = N.few in
      record { few = omega arith; widths = λ i h. let k : i < m = omega arith in subst InWidth (sym (named_at i k)) (N.widths i k) }
