-- What `lay` answers, by the answer to the history: the operations that the line numbers name are those in the order found. And no two answers of the code
-- have the same response (`laid_injective`). Assumes nothing.
use mathlib.Core.Path.{◌≡◌, refl, sym, ap, ap₂, subst, ◌∙◌}
use mathlib.Core.List.{List, [], ◌∷◌, ◌++◌, append_assoc, append-nil}
use Prim.Native.Nat.{ℕ, zero, suc, ◌+◌, ◌-◌, ◌*◌, ◌<◌, ◌≤◌}
use native.Mathlib.Nat.{add-zero}
use native.Mathlib.Numerals.{add-one}
use native.Mathlib.Omega.{arith}
use lib.ListN.{length, get_or, take, set, length-set, length-map, get_or-map}
use lib.Seq.{sets, take-suc-set, get_or-take, ext_get_or}
use borrow.Author.Tests.{lt-ltb, le-ltb, ltb-false}
use Rattle.area.specs.Area.{joined}
use Rattle.area.specs.Responses.{Response, turned_down, gives, is_turned_down}
use Rattle.area.proofs.Tests.{pick_not}
use Rattle.area.proofs.Sets.{part_sets_same}
use Rattle.order.specs.Histories.{row_of, line_numbers, blank, no_operation}
use Rattle.order.specs.Histories.{has_order, no_order, judge_response, Judgement, judgement, refused, offending, ordered, judged}
use Rattle.order.specs.Orders.{Line, in_place}
use Rattle.order.specs.declared.operation.Operation.{Operation}
use Rattle.order.specs.declared.operation.Entry.{Entry}
use Rattle.std.proofs.Common.{Result, Ok, Err}
use Rattle.frame.specs.declared.Refusal.{Refusal}
use Rattle.frame.specs.Refusals.{number_of}
use Rattle.order.specs.declared.judge.Fault.{Fault}
use Rattle.order.specs.declared.judge.Fault.TheVariants.{Offending, Refused}
use Rattle.order.specs.declared.judge.Verdict.{Verdict}
use Rattle.order.proofs.Picks.{pick_yes, pick_no}
use Rattle.order.proofs.Less.{true_false}
use Rattle.order.proofs.Rows.{no_entry, row_length}
use Rattle.order.proofs.Arranged.{the_row, size, stands, row_is_row}
use Rattle.order.proofs.Judgements.{is_order, first}
use Rattle.history_row.specs.Rows.{none, added, added_all}
use Rattle.history_row.specs.declared.History.{History}
use Rattle.history_row.proofs.Laws.{added_fits}
use Rattle.history_text.specs.Lines.{Lines, Records, Malformed, lines_of, answer_of}
use Rattle.history_text.specs.Readings.{reading_of, answer_by}
use Rattle.history_text.specs.Printed.{InWidth, AllInWidth}
use Rattle.history_text.proofs.Readings.{answer_reading}
use Rattle.history_text.proofs.Texts.{only_printed}
use Rattle.history_sheet.specs.Sheet.{page_size, pages_of, page_of, sheet_of}
use Rattle.history_sheet.specs.Laying.{SheetResult, pages_laid, unordered, laid_response, outcome, in_order, laid_out, laying_by, laying_of, laying}
use Rattle.history_sheet.specs.Stages.{named, named_all, Named}
use Rattle.history_sheet.specs.Board.{Fits}
use Rattle.history_sheet.proofs.Pages.{named_count, named_at}

-- ---- responses

-- the answer of the code that has a response
unfoldable laid_with : Response SheetResult → Result ℕ Fault
laid_with (turned_down x) = Err (Refused x)
laid_with (gives (pages_laid n)) = Ok n
laid_with (gives (unordered a b)) = Err (Offending (record { earlier = a; later = b }))

laid_back : (x : Result ℕ Fault) → laid_with (laid_response x) ≡ x
unfolding laid_with
laid_back (Ok n) = refl
laid_back (Err (Offending p)) = refl
laid_back (Err (Refused x)) = refl

-- no two answers of the code have the same response
pub laid_injective : (x y : Result ℕ Fault) → laid_response x ≡ laid_response y → x ≡ y
laid_injective x y e = sym (laid_back x) ∙ ap laid_with e ∙ laid_back y

-- ---- room for a sheet

pub sheet_short : (row : List Operation) (out : List ℕ) (m pages : ℕ) → length row ≡ m → pages ≡ pages_of m → length out < pages * page_size
    → outcome (turned_down 10) out ≡ laid_out row out
unfolding laid_out
sheet_short row out m pages n e h =
    let p : pages ≡ pages_of (length row) = e ∙ ap pages_of (sym n) in
    pick_yes _ _ _ refl (lt-ltb _ _ (subst (λ k. length out < k * page_size) p h)) refl

pub sheet_laid : (row : List Operation) (out o : List ℕ) (m pages : ℕ) → length row ≡ m → pages ≡ pages_of m → pages * page_size ≤ length out
    → o ≡ sets out 0 (joined (page_of row) 0 pages) → outcome (gives (pages_laid pages)) o ≡ laid_out row out
unfolding laid_out sheet_of
sheet_laid row out o m pages n e h q =
    let p : pages ≡ pages_of (length row) = e ∙ ap pages_of (sym n) in
    pick_no _ _ _ refl (le-ltb _ _ (subst (λ k. k * page_size ≤ length out) p h))
    (ap₂ outcome (ap (λ k. gives (pages_laid k)) p) (q ∙ ap (λ k. sets out 0 (joined (page_of row) 0 k)) p))

-- ---- operations added to a history

all_added : (h : History) (ops : List Operation) → length h.rows ≡ 64 → h.count + length ops ≤ 64
    → take (h.count + length ops) (added_all h ops).rows ≡ take h.count h.rows ++ ops
unfolding added_all
all_added h [] e l = rw add-zero (sym (append-nil (take h.count h.rows)))
all_added h (a ∷ ops) e l =
    let g : h.count < 64 = omega arith in
    let i : h.count < length h.rows = omega arith in
    let k : History = record { rows = set h.rows h.count a; count = h.count + 1 } in
    let n : h.count + suc (length ops) ≡ h.count + 1 + length ops = omega arith in
    let s : take (h.count + 1) (set h.rows h.count a) ≡ take h.count h.rows ++ (a ∷ []) =
    rw (add-one h.count) (take-suc-set h.rows h.count a i) in
    ap (λ x. take x (added_all (added h a) ops).rows) n
    ∙ ap (λ x. take (h.count + 1 + length ops) (added_all x ops).rows) (added_fits h a g)
    ∙ all_added k ops (length-set h.rows h.count a ∙ e) (omega arith)
    ∙ ap (λ x. x ++ ops) s
    ∙ append_assoc (take h.count h.rows) (a ∷ []) ops

history_rows : (ops : List Operation) → length ops ≤ 64 → take (length ops) (added_all none ops).rows ≡ ops
unfolding none
history_rows ops h =
    (let z : length ops ≡ 0 + length ops = omega arith in ap (λ n. take n (added_all none ops).rows) z) ∙ all_added none ops refl (omega arith)

-- ---- the answer to a history that has an order

answer_of_lem : {v w : Judgement} → v ≡ w → v.answer ≡ w.answer
answer_of_lem e = ap (λ (v : Judgement). v.answer) e

module _ (ops : List Operation) (m : ℕ) (e : (judged ops).answer ≡ gives (has_order m)) where
  not_refused : (x : ℕ) → refused x ≡ judged ops → ⊥
  unfolding refused is_order
  not_refused x q = true_false refl (sym (ap is_order (answer_of_lem q ∙ e)))

  not_offending : (a b : ℕ) → offending a b ≡ judged ops → ⊥
  unfolding offending is_order
  not_offending a b q = true_false refl (sym (ap is_order (answer_of_lem q ∙ e)))

  ordered_only : (length ops ≤ 64) × (ordered ops ≡ judged ops)
  unfolding judged
  ordered_only =
      let p = pick_not _ _ _ (judged ops) (not_refused 18) refl in
      let q = pick_not _ _ _ (judged ops) (not_refused 18) p.1 in
      let r = pick_not _ _ _ (judged ops) (not_refused 19) q.1 in
      let s = pick_not _ _ _ (judged ops) (not_offending _ _) r.1 in
      (ltb-false 64 (length ops) p.0, s.1)

  ordered_all : m ≡ length ops
  unfolding first ordered
  ordered_all = ap first (sym e ∙ answer_of_lem (sym ordered_only.1))

-- ---- the operations in the order found

wide_at : (ops : List Operation) (i : ℕ) → AllInWidth ops → i < length ops → InWidth (get_or ops i no_operation)
wide_at [] i w h = absurd (omega arith)
wide_at (a ∷ ops) zero w h = w.0
wide_at (a ∷ ops) (suc i) w h = wide_at ops i w.1 (omega arith)

module _ (ops : List Operation) where
  pub order_length : length (in_order ops) ≡ length ops
  unfolding in_order
  order_length = length-map (row_of ops) (λ e. e.operation) ∙ row_length ops

  pub order_at : (i : ℕ) → i < length ops → get_or (in_order ops) i no_operation ≡ in_place ops (the_row ops) i
  unfolding in_order
  order_at i h =
      get_or-map (λ (e : Entry). e.operation) (row_of ops) i no_entry ∙ sym (stands ops i (let s = size ops in omega arith))

  pub order_fits : AllInWidth ops → length ops ≤ 64 → Fits (in_order ops)
  order_fits w few =
      let n = order_length in
      record {
        few = omega arith;
        widths = λ i h.
            let k : i < length ops = omega arith in
            let l = (row_is_row ops).lines i (let s = size ops in omega arith) in
            let low = l.0 in
            let high = l.1 in
            subst InWidth (sym (order_at i k)) (wide_at ops (get_or (the_row ops) i 0 - 1) w (omega arith));
      }

-- they are the operations that the line numbers name
module _ (ops rows : List Operation) (lines : List ℕ) (m : ℕ) (w : AllInWidth ops) (few : length ops ≤ 64) (n : m ≡ length ops)
    (r : take m rows ≡ ops) (l : lines ≡ sets blank 0 (line_numbers (row_of ops))) where
  numbers : (i : ℕ) → i < m → get_or lines i 0 ≡ get_or (the_row ops) i 0
  unfolding blank
  numbers i h =
      let s = size ops in
      let fits : 0 + length (the_row ops) ≤ length blank = omega arith in
      let k : i < length (the_row ops) = omega arith in
      ap (λ x. get_or x i 0) l
      ∙ sym (get_or-take (length (the_row ops)) (sets blank 0 (the_row ops)) i 0 k)
      ∙ ap (λ x. get_or x i 0) (part_sets_same blank 0 (the_row ops) fits)

  line_of : (i : ℕ) → i < m → Line ops (get_or lines i 0)
  line_of i h = let s = size ops in subst (Line ops) (sym (numbers i h)) ((row_is_row ops).lines i (omega arith))

  named_is : (i : ℕ) → i < m → named rows lines i ≡ in_place ops (the_row ops) i
  unfolding named
  named_is i h =
      let q = line_of i h in
      let low = q.0 in
      let high = q.1 in
      let k : get_or lines i 0 - 1 < m = omega arith in
      sym (get_or-take m rows (get_or lines i 0 - 1) no_operation k)
      ∙ ap₂ (λ x y. get_or x (y - 1) no_operation) r (numbers i h)

  named_there : Named rows lines m
  named_there = record {
    few = omega arith;
    low = λ i h. (line_of i h).0;
    high = λ i h. let q = (line_of i h).1 in omega arith;
    widths = λ i h.
        let q = line_of i h in
        let low = q.0 in
        let high = q.1 in
        let e = numbers i h in
        subst InWidth (sym (named_is i h)) (wide_at ops (get_or (the_row ops) i 0 - 1) w (omega arith));
  }

  named_order : named_all rows lines m ≡ in_order ops
  named_order =
      let c = named_count rows lines m named_there in
      let o = order_length ops in
      ext_get_or no_operation (named_all rows lines m) (in_order ops) (omega arith)
      (λ i h.
      let k : i < m = omega arith in
      named_at rows lines m named_there i k ∙ named_is i k ∙ sym (order_at ops i (omega arith)))

-- ---- the outcome

-- what `lay` needs to know where the history has an order
pub record Ready (h : History) (v : Judgement) (m : ℕ) (l : Lines) : Type 0 where
  pub there : Named h.rows v.lines m
  pub lays : (out : List ℕ) → laid_out (named_all h.rows v.lines m) out ≡ laying_of l out

module _ (x : Result History Refusal) (v : Judgement) where
  answered : (l : Lines) → x ≡ reading_of l → v ≡ answer_by x → v ≡ answer_of l
  answered l e q = q ∙ ap answer_by e ∙ answer_reading l

  malformed_answer : v ≡ answer_of Malformed → v.answer ≡ turned_down 18
  unfolding answer_of refused
  malformed_answer e = answer_of_lem e

  pair_laid : (l : Lines) (a b : ℕ) (out : List ℕ) → x ≡ reading_of l → v ≡ answer_by x → v.answer ≡ gives (no_order a b)
      → outcome (gives (unordered a b)) out ≡ laying_of l out
  unfolding answer_of laying_of laying_by is_turned_down
  pair_laid (Records ops) a b out e q t = sym (ap (λ y. laying_by y ops out) (answer_of_lem (sym (answered (Records ops) e q)) ∙ t))
  pair_laid Malformed a b out e q t = absurd (true_false refl (ap is_turned_down (sym (malformed_answer (answered Malformed e q)) ∙ t)))

  refusal_laid : (l : Lines) (n : ℕ) (out : List ℕ) → x ≡ reading_of l → v ≡ answer_by x → v.answer ≡ turned_down n
      → outcome (turned_down n) out ≡ laying_of l out
  unfolding answer_of laying_of laying_by
  refusal_laid (Records ops) n out e q t = sym (ap (λ y. laying_by y ops out) (answer_of_lem (sym (answered (Records ops) e q)) ∙ t))
  refusal_laid Malformed n out e q t = ap (λ y. laying_by y [] out) (sym t ∙ malformed_answer (answered Malformed e q))

module _ (h : History) (v : Judgement) where
  ready : (l : Lines) → ((ops : List Operation) → l ≡ Records ops → AllInWidth ops) → (m : ℕ)
      → Ok h ≡ reading_of l → v ≡ answer_by (Ok h) → v.answer ≡ gives (has_order m) → Ready h v m l
  unfolding reading_of answer_of laying_of laying_by ordered is_order
  ready (Records ops) w m e q a =
      let j : v ≡ judged ops = answered (Ok h) v (Records ops) e q in
      let b : (judged ops).answer ≡ gives (has_order m) = answer_of_lem (sym j) ∙ a in
      let o = ordered_only ops m b in
      let n = ordered_all ops m b in
      let g : h ≡ added_all none ops = cc in
      let r : take m h.rows ≡ ops = ap₂ (λ k (z : History). take k z.rows) n g ∙ history_rows ops o.0 in
      let s : v.lines ≡ sets blank 0 (line_numbers (row_of ops)) = ap (λ (y : Judgement). y.lines) (j ∙ sym o.1) in
      record {
        there = named_there ops h.rows v.lines m (w ops refl) o.0 n r s;
        lays = λ out.
            ap (λ row. laid_out row out) (named_order ops h.rows v.lines m (w ops refl) o.0 n r s)
            ∙ sym (ap (λ y. laying_by y ops out) b);
      }
  ready Malformed w m e q a = absurd (true_false refl (sym (ap is_order (sym (malformed_answer (Ok h) v (answered (Ok h) v Malformed e q)) ∙ a))))

module _ (text : List ℕ) where
  -- a text that is not read
  pub text_unread : (why : Refusal) (out : List ℕ) → Err why ≡ reading_of (lines_of text) → outcome (turned_down (number_of why)) out ≡ laying text out
  unfolding laying answer_by refused
  text_unread why out e = refusal_laid (Err why) (refused (number_of why)) (lines_of text) (number_of why) out e refl refl

-- by the answer of the code
module _ (h : History) (v : Verdict) (text : List ℕ) (e : Ok h ≡ reading_of (lines_of text)) (q : judgement v ≡ answer_by (Ok h)) where
  pub text_fault : (f : Fault) (out : List ℕ) → v.answer ≡ Err f → outcome (laid_response (Err f)) out ≡ laying text out
  unfolding laying
  text_fault (Offending p) out t = pair_laid (Ok h) (judgement v) (lines_of text) p.earlier p.later out e q (ap judge_response t)
  text_fault (Refused x) out t = refusal_laid (Ok h) (judgement v) (lines_of text) x out e q (ap judge_response t)

  pub text_ready : (m : ℕ) → v.answer ≡ Ok m → Ready h (judgement v) m (lines_of text)
  text_ready m a = ready h (judgement v) (lines_of text) (λ ops s. (only_printed text ops s).0) m e q (ap judge_response a)

  pub text_laid : (m : ℕ) → v.answer ≡ Ok m → (r : Response SheetResult) (out o : List ℕ)
      → outcome r o ≡ laid_out (named_all h.rows v.lines m) out → outcome r o ≡ laying text out
  unfolding laying
  text_laid m a r out o p = p ∙ (text_ready m a).lays out
