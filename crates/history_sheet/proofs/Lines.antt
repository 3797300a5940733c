-- The line of an operation: its fields take their columns, and the stores of the code make it. Assumes nothing.
use mathlib.Core.Path.{◌≡◌, refl, sym, ap, subst, ◌∙◌}
use mathlib.Core.List.{List, [], ◌∷◌, ◌++◌}
use Prim.Native.Nat.{ℕ, ◌+◌, ◌<◌, ◌≤◌}
use native.Mathlib.Omega.{arith}
use lib.ListN.{length, set, replicate, length-append}
use lib.Seq.{sets}
use Rattle.area.specs.Area.{pick}
use Rattle.order.specs.declared.operation.Operation.{Operation}
use Rattle.history_text.specs.Decimals.{decimal}
use Rattle.history_text.specs.Lines.{widths}
use Rattle.history_text.specs.Printed.{join, kind_of, fields_of, InWidth}
use Rattle.history_sheet.specs.Sheet.{aligned, columns, aligned_all, filled, operation_line, ended}
use Rattle.history_sheet.specs.Stages.{spaced}
use Rattle.history_sheet.proofs.Columns.{length_decimal, length_aligned}
use Rattle.history_sheet.proofs.Spaced.{put_last, put_next, spaced_append, Columned, Put, first_piece, next_piece, line_filled}

-- ---- the columns that numbers take

column : (w n : ℕ) → length (decimal n) ≤ w → length (aligned w (decimal n)) ≡ w
column w n h = length_aligned w (decimal n) h

pub place_fits : (n : ℕ) → n < 1000 → length (decimal n) ≤ 3
place_fits n h = length_decimal 2 n (omega arith)

pub half_fits : (n : ℕ) → n ≤ 4294967295 → length (decimal n) ≤ 10
half_fits n h = length_decimal 9 n (omega arith)

pub time_fits : (n : ℕ) → n ≤ 18446744073709551615 → length (decimal n) ≤ 20
time_fits n h = length_decimal 19 n (omega arith)

pub client_fits : (n : ℕ) → n ≤ 8 → length (decimal n) ≤ 1
client_fits n h = length_decimal 0 n (omega arith)

-- ---- an operation in its widths

module _ (a : Operation) (h : InWidth a) where
  pub start_fits : length (decimal a.start) ≤ 10
  unfolding widths
  start_fits = half_fits a.start h.0

  pub end_fits : length (decimal a.end) ≤ 10
  unfolding widths
  end_fits = half_fits a.end h.1.0

  pub stamp_fits : length (decimal a.time) ≤ 20
  unfolding widths
  stamp_fits = time_fits a.time h.1.1.0

  pub writer_fits : length (decimal a.writer) ≤ 1
  unfolding widths
  writer_fits = client_fits a.writer h.1.1.1.0

  pub sequence_fits : length (decimal a.sequence) ≤ 10
  unfolding widths
  sequence_fits = half_fits a.sequence h.1.1.1.1.0

  pub caller_fits : length (decimal a.caller) ≤ 1
  unfolding widths
  caller_fits = client_fits a.caller h.1.1.1.1.1.0

  -- ---- the fields, each with a space after it

  abbrev front : ℕ → List (List ℕ)
  front place = aligned 3 (decimal place) ∷ kind_of a ∷ aligned 10 (decimal a.start) ∷ aligned 10 (decimal a.end) ∷ []

  abbrev back : List (List ℕ)
  back = aligned 20 (decimal a.time) ∷ aligned 1 (decimal a.writer) ∷ aligned 10 (decimal a.sequence) ∷ aligned 1 (decimal a.caller) ∷ []

  kind_one : length (kind_of a) ≡ 1
  unfolding kind_of
  kind_one = refl

  kind_spaced : {c : ℕ} → c ≡ pick a.write 87 82 → c ∷ 32 ∷ [] ≡ kind_of a ++ (32 ∷ [])
  unfolding kind_of
  kind_spaced e = ap (λ k. k ∷ 32 ∷ []) e

  interval_pieces : (place : ℕ) → place < 1000 → (d o₁ o₂ o₃ o₄ : List ℕ) (at : ℕ)
      → o₁ ≡ sets d at (aligned 3 (decimal place) ++ (32 ∷ []))
      → o₂ ≡ sets o₁ (at + 4) (pick a.write 87 82 ∷ 32 ∷ [])
      → o₃ ≡ sets o₂ (at + 6) (aligned 10 (decimal a.start) ++ (32 ∷ []))
      → o₄ ≡ sets o₃ (at + 17) (aligned 10 (decimal a.end) ++ (32 ∷ []))
      → Put d at (front place) 28 o₄
  interval_pieces place p d o₁ o₂ o₃ o₄ at e₁ e₂ e₃ e₄ =
      let P = first_piece d o₁ at 3 (aligned 3 (decimal place)) (column 3 place (place_fits place p)) e₁ in
      let Q = next_piece 1 (kind_of a) P kind_one (e₂ ∙ ap (sets o₁ (at + 4)) (kind_spaced refl)) in
      let R = next_piece 10 (aligned 10 (decimal a.start)) Q (column 10 a.start start_fits) e₃ in
      next_piece 10 (aligned 10 (decimal a.end)) R (column 10 a.end end_fits) e₄

  stamp_pieces : (d o₁ o₂ o₃ o₄ : List ℕ) (at : ℕ)
      → o₁ ≡ sets d at (aligned 20 (decimal a.time) ++ (32 ∷ []))
      → o₂ ≡ sets o₁ (at + 21) (aligned 1 (decimal a.writer) ++ (32 ∷ []))
      → o₃ ≡ sets o₂ (at + 23) (aligned 10 (decimal a.sequence) ++ (32 ∷ []))
      → o₄ ≡ sets o₃ (at + 34) (aligned 1 (decimal a.caller) ++ (32 ∷ []))
      → Put d at back 36 o₄
  stamp_pieces d o₁ o₂ o₃ o₄ at e₁ e₂ e₃ e₄ =
      let P = first_piece d o₁ at 20 (aligned 20 (decimal a.time)) (column 20 a.time stamp_fits) e₁ in
      let Q = next_piece 1 (aligned 1 (decimal a.writer)) P (column 1 a.writer writer_fits) e₂ in
      let R = next_piece 10 (aligned 10 (decimal a.sequence)) Q (column 10 a.sequence sequence_fits) e₃ in
      next_piece 1 (aligned 1 (decimal a.caller)) R (column 1 a.caller caller_fits) e₄

  pub interval_put : (place : ℕ) → place < 1000 → (d o₁ o₂ o₃ o₄ : List ℕ) (at : ℕ)
      → o₁ ≡ sets d at (aligned 3 (decimal place) ++ (32 ∷ []))
      → o₂ ≡ sets o₁ (at + 4) (pick a.write 87 82 ∷ 32 ∷ [])
      → o₃ ≡ sets o₂ (at + 6) (aligned 10 (decimal a.start) ++ (32 ∷ []))
      → o₄ ≡ sets o₃ (at + 17) (aligned 10 (decimal a.end) ++ (32 ∷ []))
      → o₄ ≡ sets d at (spaced (front place))
  interval_put place p d o₁ o₂ o₃ o₄ at e₁ e₂ e₃ e₄ = (interval_pieces place p d o₁ o₂ o₃ o₄ at e₁ e₂ e₃ e₄).is

  pub stamp_put : (d o₁ o₂ o₃ o₄ : List ℕ) (at : ℕ)
      → o₁ ≡ sets d at (aligned 20 (decimal a.time) ++ (32 ∷ []))
      → o₂ ≡ sets o₁ (at + 21) (aligned 1 (decimal a.writer) ++ (32 ∷ []))
      → o₃ ≡ sets o₂ (at + 23) (aligned 10 (decimal a.sequence) ++ (32 ∷ []))
      → o₄ ≡ sets o₃ (at + 34) (aligned 1 (decimal a.caller) ++ (32 ∷ []))
      → o₄ ≡ sets d at (spaced back)
  stamp_put d o₁ o₂ o₃ o₄ at e₁ e₂ e₃ e₄ = (stamp_pieces d o₁ o₂ o₃ o₄ at e₁ e₂ e₃ e₄).is

  front_size : (place : ℕ) → place < 1000 → length (spaced (front place)) ≡ 28
  front_size place p = (interval_pieces place p [] _ _ _ _ 0 refl refl refl refl).size

  back_size : length (spaced back) ≡ 36
  back_size = (stamp_pieces [] _ _ _ _ 0 refl refl refl refl).size

  -- ---- the line

  fields_are : (place : ℕ) → aligned_all columns (decimal place ∷ fields_of a) ≡ front place ++ back
  unfolding aligned_all columns fields_of aligned kind_of
  fields_are place = refl

  pub columned : (place : ℕ) → place < 1000 → Columned columns (aligned_all columns (decimal place ∷ fields_of a))
  unfolding columns
  columned place p =
      subst (Columned columns) (sym (fields_are place)) (
        column 3 place (place_fits place p),
        (
          kind_one,
          (
            column 10 a.start start_fits,
            (
              column 10 a.end end_fits,
              (
                column 20 a.time stamp_fits,
                (column 1 a.writer writer_fits, (column 10 a.sequence sequence_fits, (column 1 a.caller caller_fits, tt))),
              ),
            ),
          ),
        ),
      )

  pieces_size : (place : ℕ) → place < 1000 → length (spaced (front place ++ back)) ≡ 64
  pieces_size place p =
      let s = spaced_append (front place) back in
      let l = length-append (spaced (front place)) (spaced back) in
      let f = front_size place p in
      let b = back_size in
      ap length s ∙ (let z : length (spaced (front place) ++ spaced back) ≡ 64 = omega arith in z)

  pub line_spaced : (place : ℕ) → place < 1000 → operation_line place a ≡ spaced (aligned_all columns (decimal place ∷ fields_of a)) ++ replicate 8 32
  unfolding operation_line
  line_spaced place p =
      ap (λ l. filled (join 32 l)) (fields_are place)
      ∙ line_filled (aligned 3 (decimal place)) _ 64 8 (pieces_size place p) refl
      ∙ ap (λ l. spaced l ++ replicate 8 32) (sym (fields_are place))

  line_is : (place : ℕ) → place < 1000 → operation_line place a ≡ (spaced (front place) ++ spaced back) ++ replicate 8 32
  line_is place p =
      line_spaced place p ∙ ap (λ l. spaced l ++ replicate 8 32) (fields_are place) ∙ ap (λ l. l ++ replicate 8 32) (spaced_append (front place) back)

  pub line_whole : (place : ℕ) → place < 1000 → length (operation_line place a) ≡ 72
  line_whole place p =
      let l = length-append (spaced (front place)) (spaced back) in
      let k = length-append (spaced (front place) ++ spaced back) (replicate 8 32) in
      let f = front_size place p in
      let b = back_size in
      ap length (line_is place p) ∙ (let z : length ((spaced (front place) ++ spaced back) ++ replicate 8 32) ≡ 72 = omega arith in z)

  pub length_operation : (place : ℕ) → place < 1000 → length (ended (operation_line place a)) ≡ 73
  unfolding ended
  length_operation place p = length-append (operation_line place a) (10 ∷ []) ∙ ap (λ n. n + 1) (line_whole place p)

  pub operation_put : (place : ℕ) → place < 1000 → (d o₁ o₂ o₃ : List ℕ) (at : ℕ)
      → o₁ ≡ sets d at (spaced (front place))
      → o₂ ≡ sets o₁ (at + 28) (spaced back)
      → o₃ ≡ sets o₂ (at + 64) (replicate 8 32)
      → set o₃ (at + 72) 10 ≡ sets d at (ended (operation_line place a))
  unfolding ended
  operation_put place p d o₁ o₂ o₃ at e₁ e₂ e₃ =
      let l = length-append (spaced (front place)) (spaced back) in
      let f = front_size place p in
      let b = back_size in
      let n : length (spaced (front place) ++ spaced back) ≡ 64 = omega arith in
      let whole : o₃ ≡ sets d at (operation_line place a) =
      put_next d at 64 (spaced (front place) ++ spaced back) (replicate 8 32) (put_next d at 28 (spaced (front place)) (spaced back) e₁ f e₂) n e₃
      ∙ ap (sets d at) (sym (line_is place p)) in
      ap (λ o. set o (at + 72) 10) whole ∙ put_last d at 72 (operation_line place a) 10 (line_whole place p)

-- ---- a line of spaces

blank_is : filled [] ≡ replicate 72 32
unfolding filled
blank_is = refl

pub blank_whole : length (filled []) ≡ 72
blank_whole = ap length blank_is

pub length_blank : length (ended (filled [])) ≡ 73
unfolding ended
length_blank = length-append (filled []) (10 ∷ []) ∙ ap (λ n. n + 1) blank_whole

pub blank_put : (d o : List ℕ) (at : ℕ) → o ≡ sets d at (replicate 72 32) → set o (at + 72) 10 ≡ sets d at (ended (filled []))
unfolding ended
blank_put d o at e = ap (λ l. set l (at + 72) 10) (e ∙ ap (sets d at) (sym blank_is)) ∙ put_last d at 72 (filled []) 10 blank_whole
