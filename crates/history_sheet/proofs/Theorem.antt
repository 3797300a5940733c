-- What is proved of sheets (specs/Board.antt): their size and newlines, that each line reads back, that a sheet determines the row, and that each operation
-- is on it once. Assumes nothing.
use mathlib.Core.Path.{◌≡◌, refl, sym, ap, ◌∙◌}
use mathlib.Core.List.{List, [], ◌∷◌}
use Prim.Native.Nat.{ℕ, ◌+◌, ◌*◌, ◌/◌, ◌%◌, ◌<◌, ◌≤◌}
use native.Mathlib.Nat.{zero-add}
use native.Mathlib.Omega.{arith}
use lib.Dec.{eqb, ltb}
use lib.ListN.{length, get_or}
use lib.Seq.{take_at, ext_get_or}
use borrow.Author.Tests.{ltb-true, ltb-false, eqb-true}
use Rattle.area.specs.Area.{pick, part, joined}
use Rattle.area.proofs.Fills.{length_lines}
use Rattle.order.proofs.Picks.{pick_yes, pick_no}
use Rattle.order.proofs.Lists.{by_test}
use Rattle.order.proofs.Arranged.{the_row, size, row_is_row}
use Rattle.order.specs.Histories.{no_operation}
use Rattle.order.specs.Orders.{Row, in_place}
use Rattle.order.specs.declared.operation.Operation.{Operation}
use Rattle.history_text.specs.Decimals.{decimal}
use Rattle.history_text.specs.Printed.{AllInWidth}
use Rattle.history_sheet.specs.Sheet.{line_columns, on_page, page_size, pages_of, aligned, filled, operation_line, ended, place_line, page_of, sheet_of}
use Rattle.history_sheet.specs.Laying.{in_order}
use Rattle.history_sheet.specs.Board.{line_on, line_for, fields_in, place_of, operation_of, Fits, Theorem}
use Rattle.history_sheet.proofs.Columns.{length_aligned}
use Rattle.history_sheet.proofs.Lines.{line_whole, blank_whole}
use Rattle.history_sheet.proofs.Pages.{place_used, place_free, length_place, length_page, number_fits_lem}
use Rattle.history_sheet.proofs.Layings.{order_length, order_at, order_fits}
use Rattle.history_sheet.proofs.Parts.{part_left, part_right, part_joined, element}
use Rattle.history_sheet.proofs.Fields.{line_place, line_operation, free_place}

-- ---- pages

pages_few : (n : ℕ) → n ≤ 64 → pages_of n ≤ 2
unfolding pages_of
pages_few n h =
    by_test (eqb n 0)
    (λ t. let z = pick_yes (eqb n 0) 1 ((n + 58) / on_page) refl t refl in omega arith)
    (λ t. let z = pick_no (eqb n 0) 1 ((n + 58) / on_page) refl t refl in omega arith)

-- every operation has a page
page_there : (n i : ℕ) → i < n → i / on_page < pages_of n
unfolding pages_of
page_there n i h =
    by_test (eqb n 0)
    (λ t. let e = eqb-true n 0 t in absurd (omega arith))
    (λ t. let z = pick_no (eqb n 0) 1 ((n + 58) / on_page) refl t refl in omega arith)

-- ---- a line and its newline

ended_front : (x : List ℕ) → length x ≡ 72 → part (ended x) 0 72 ≡ x
unfolding ended
ended_front x e = take_at x (10 ∷ []) 72 e

ended_last : (x : List ℕ) → length x ≡ 72 → part (ended x) 72 1 ≡ 10 ∷ []
unfolding ended
ended_last x e = part_right x (10 ∷ []) 72 0 1 e

-- ---- one sheet

module _ (row : List Operation) (F : Fits row) where
  lengths : (q : ℕ) → 0 ≤ q → q < 0 + pages_of (length row) → length (page_of row q) ≡ page_size
  lengths q a b = let p = pages_few (length row) F.few in length_page row F q (omega arith)

  sheet_size : length (sheet_of row) ≡ pages_of (length row) * page_size
  unfolding sheet_of
  sheet_size = length_lines (page_of row) page_size 0 (pages_of (length row)) lengths

  -- a part of a page, and a part of a line on it
  page_part : (q c v : ℕ) → q < pages_of (length row) → c + v ≤ page_size → part (sheet_of row) (q * page_size + c) v ≡ part (page_of row q) c v
  unfolding sheet_of
  page_part q c v h g =
      part_joined (page_of row) page_size 0 (pages_of (length row)) q c v lengths h g ∙ ap (λ x. part (page_of row x) c v) (zero-add q)

  lines_size : (q : ℕ) → length (joined (place_line row) (on_page * q) on_page) ≡ on_page * 73
  lines_size q = length_lines (place_line row) 73 (on_page * q) on_page (λ j a b. length_place row F j)

  place_part : (q l c v : ℕ) → l < on_page → c + v ≤ 73 → part (page_of row q) (l * 73 + c) v ≡ part (place_line row (on_page * q + l)) c v
  unfolding page_of
  place_part q l c v h g =
      let n = lines_size q in
      part_left (joined (place_line row) (on_page * q) on_page) (ended (aligned line_columns (decimal (q + 1)))) (l * 73 + c) v (omega arith)
      ∙ part_joined (place_line row) 73 (on_page * q) on_page l c v (λ j a b. length_place row F j) h g

  number_part : (q c v : ℕ) → part (page_of row q) (on_page * 73 + c) v ≡ part (ended (aligned line_columns (decimal (q + 1)))) c v
  unfolding page_of
  number_part q c v =
      part_right (joined (place_line row) (on_page * q) on_page) (ended (aligned line_columns (decimal (q + 1)))) (on_page * 73) c v (lines_size q)

  -- ---- newlines

  place_last : (i : ℕ) → part (place_line row i) 72 1 ≡ 10 ∷ []
  place_last i =
      by_test (ltb i (length row))
      (λ t.
      let h = ltb-true i (length row) t in
      let few = F.few in
      ap (λ x. part x 72 1) (place_used row i h) ∙ ended_last _ (line_whole (get_or row i no_operation) (F.widths i h) (i + 1) (omega arith)))
      (λ t. ap (λ x. part x 72 1) (place_free row i (ltb-false i (length row) t)) ∙ ended_last (filled []) blank_whole)

  page_last : (q l : ℕ) → q < 9 → l < 60 → part (page_of row q) (l * 73 + 72) 1 ≡ 10 ∷ []
  page_last q l h g =
      by_test (ltb l on_page)
      (λ t. place_part q l 72 1 (ltb-true l on_page t) (omega arith) ∙ place_last (on_page * q + l))
      (λ t.
      let k = ltb-false l on_page t in
      let e : l * 73 + 72 ≡ on_page * 73 + 72 = omega arith in
      ap (λ x. part (page_of row q) x 1) e ∙ number_part q 72 1
      ∙ ended_last (aligned line_columns (decimal (q + 1))) (length_aligned line_columns (decimal (q + 1)) (number_fits_lem q h)))

  sheet_newlines : (r : ℕ) → r < pages_of (length row) * 60 → get_or (sheet_of row) (73 * r + 72) 0 ≡ 10
  sheet_newlines r h =
      let p = pages_few (length row) F.few in
      let q = r / 60 in
      let l = r % 60 in
      let b : q < pages_of (length row) = omega arith in
      let e : 73 * r + 72 ≡ q * page_size + (l * 73 + 72) = omega arith in
      element (sheet_of row) (73 * r + 72)
      ∙ ap (λ x. get_or (part (sheet_of row) x 1) 0 0) e
      ∙ ap (λ x. get_or x 0 0) (page_part q (l * 73 + 72) 1 b (omega arith) ∙ page_last q l (omega arith) (omega arith))

  -- ---- the number of each page

  page_number : (q : ℕ) → q < pages_of (length row) → line_on (sheet_of row) (60 * q + 59) ≡ aligned line_columns (decimal (q + 1))
  page_number q h =
      let p = pages_few (length row) F.few in
      let e : 73 * (60 * q + 59) ≡ q * page_size + (on_page * 73 + 0) = omega arith in
      ap (λ x. part (sheet_of row) x 72) e
      ∙ page_part q (on_page * 73 + 0) 72 h (omega arith)
      ∙ number_part q 0 72
      ∙ ended_front (aligned line_columns (decimal (q + 1))) (length_aligned line_columns (decimal (q + 1)) (number_fits_lem q (omega arith)))

  -- ---- the line of each place

  line_read : (i : ℕ) → i / on_page < pages_of (length row) → line_on (sheet_of row) (line_for i) ≡ part (place_line row i) 0 72
  line_read i h =
      let q = i / on_page in
      let l = i % on_page in
      let e : 73 * line_for i ≡ q * page_size + (l * 73 + 0) = omega arith in
      let k : on_page * q + l ≡ i = omega arith in
      ap (λ x. part (sheet_of row) x 72) e
      ∙ page_part q (l * 73 + 0) 72 h (omega arith)
      ∙ place_part q l 0 72 (omega arith) (omega arith)
      ∙ ap (λ x. part (place_line row x) 0 72) k

  line_used : (i : ℕ) → i < length row → line_on (sheet_of row) (line_for i) ≡ operation_line (i + 1) (get_or row i no_operation)
  line_used i h =
      let few = F.few in
      line_read i (page_there (length row) i h)
      ∙ ap (λ x. part x 0 72) (place_used row i h)
      ∙ ended_front _ (line_whole (get_or row i no_operation) (F.widths i h) (i + 1) (omega arith))

  line_free : (i : ℕ) → length row ≤ i → i / on_page < pages_of (length row) → line_on (sheet_of row) (line_for i) ≡ filled []
  line_free i g h = line_read i h ∙ ap (λ x. part x 0 72) (place_free row i g) ∙ ended_front (filled []) blank_whole

  reads_back : (i : ℕ) → i < length row
      → (place_of (fields_in (line_on (sheet_of row) (line_for i))) ≡ i + 1)
      × (operation_of (fields_in (line_on (sheet_of row) (line_for i))) ≡ get_or row i no_operation)
  reads_back i h =
      let few = F.few in
      let a = get_or row i no_operation in
      let p : i + 1 < 1000 = omega arith in (
        ap (λ l. place_of (fields_in l)) (line_used i h) ∙ line_place (i + 1) a p (F.widths i h),
        ap (λ l. operation_of (fields_in l)) (line_used i h) ∙ line_operation (i + 1) a p (F.widths i h),
      )

-- ---- two sheets

module _ (a b : List Operation) (A : Fits a) (B : Fits b) (e : sheet_of a ≡ sheet_of b) where
  same_pages : pages_of (length a) ≡ pages_of (length b)
  same_pages = let x = sheet_size a A in let y = sheet_size b B in let z = ap length e in omega arith

  -- the line for the first place after those of a is spaces on the sheet of a, and an operation's on the sheet of b
  not_shorter : length a < length b → ⊥
  not_shorter h =
      let n = length a in
      let p = page_there (length b) n h in
      let s = same_pages in
      let free = free_place (line_on (sheet_of a) (line_for n)) (line_free a A n (omega arith) (omega arith)) in
      let used = (reads_back b B n h).0 in
      let z : ◌≡◌ {A = ℕ} 0 (n + 1) = sym free ∙ ap (λ l. place_of (fields_in (line_on l (line_for n)))) e ∙ used in
      omega arith

alike : (a b : List Operation) → Fits a → Fits b → sheet_of a ≡ sheet_of b → a ≡ b
alike a b A B e =
    let n : length a ≡ length b =
    by_test (ltb (length a) (length b))
    (λ t. absurd (not_shorter a b A B e (ltb-true _ _ t)))
    (λ t. by_test (ltb (length b) (length a))
    (λ u. absurd (not_shorter b a B A (sym e) (ltb-true _ _ u)))
    (λ u. let x = ltb-false (length a) (length b) t in let y = ltb-false (length b) (length a) u in omega arith)) in
    ext_get_or no_operation a b n (λ i h.
    let k : i < length b = omega arith in
    sym (reads_back a A i h).1 ∙ ap (λ l. operation_of (fields_in (line_on l (line_for i)))) e ∙ (reads_back b B i k).1)

-- ---- the theorem

stands_once : (ops : List Operation) → AllInWidth ops → length ops ≤ 64
    → (row : List ℕ) × Row ops row
    × ((p : ℕ) → p < length row → operation_of (fields_in (line_on (sheet_of (in_order ops)) (line_for p))) ≡ in_place ops row p)
stands_once ops w few = (
  the_row ops,
  row_is_row ops,
  (λ p h.
      let s = size ops in
      let n = order_length ops in
      (reads_back (in_order ops) (order_fits ops w few) p (omega arith)).1 ∙ order_at ops p (omega arith)),
)

pub theorem : Theorem
unfolding pages_of pick
theorem = record {
  size = sheet_size;
  newlines = sheet_newlines;
  numbered = page_number;
  back = reads_back;
  determines = alike;
  once = stands_once;
  empty = refl;
  full = (refl, refl);
}
