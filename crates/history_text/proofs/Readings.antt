-- The turns and the end of the loop that reads a text, and the answer to what was read. Assumes nothing.
use Rattle.std.proofs.Common.{Option, None}
use Rattle.history_text.specs.ReadLines.{line_with}
use mathlib.Core.Path.{◌≡◌, refl, sym, ap, ◌∙◌}
use mathlib.Core.List.{List}
use Prim.Native.Nat.{ℕ, zero, suc, ◌+◌, ◌-◌, ◌<◌, ◌≤◌}
use native.Mathlib.Omega.{arith}
use lib.ListN.{length, drop, drop_of_length-le}
use lib.Seq.{drop-drop}
use Rattle.order.specs.Histories.{Judgement}
use Rattle.order.specs.declared.operation.Operation.{Operation}
use Rattle.std.proofs.Common.{Result, Ok, Err}
use Rattle.frame.specs.declared.Refusal.{Refusal}
use Rattle.frame.specs.declared.Refusal.TheVariants.{Record}
use Rattle.history_row.specs.Rows.{none, added, added_all}
use Rattle.history_row.specs.declared.History.{History}
use Rattle.history_row.proofs.Laws.{verdict_row}
use Rattle.history_text.specs.Lines.{Lines, Records, Malformed, record_then, lines_of, answer_of, answer_to}
use Rattle.history_text.specs.ReadLines.{operation_of, lines_read}
use Rattle.history_text.specs.Readings.{reading_of, answer_by}
use Rattle.history_text.specs.declared.line.Line.{Line}
use Rattle.history_text.proofs.Lines.{then_record, then_none, lines_at, lines_none}
use Rattle.history_text.proofs.Link.{read_says}

-- what is read in the end, from a history so far and the lines that are left
unfoldable pub final : History → Lines → Result History Refusal
final h (Records ops) = Ok (added_all h ops)
final h Malformed = Err Record

final_none : (l : Lines) → final none l ≡ reading_of l
unfolding final reading_of
final_none (Records ops) = refl
final_none Malformed = refl

final_record : (h k : History) (a : Operation) (l : Lines) → k ≡ added h a → final h (record_then a l) ≡ final k l
unfolding final record_then added_all
final_record h k a (Records ops) e = ap (λ z. Ok (added_all z ops)) (sym e)
final_record h k a Malformed e = refl

pub final_start : (h : History) (s : List ℕ) → h ≡ none → final h (lines_read (length s) (drop 0 s)) ≡ reading_of (lines_of s)
final_start h s e =
    ap (λ k. final k (lines_read (length s) s)) e ∙ final_none (lines_read (length s) s) ∙ ap reading_of (read_says (length s) s (omega arith))

-- a malformed line
pub final_bad : (h : History) (n at : ℕ) (s : List ℕ) {r : Option Line} → at < length s → length s - at ≤ n → r ≡ operation_of (drop at s) → r ≡ None
    → final h (lines_read n (drop at s)) ≡ Err Record
unfolding final
final_bad h zero at s l g e t = absurd (omega arith)
final_bad h (suc n) at s l g e t = ap (final h) (lines_at n at s l ∙ then_none _ _ _ (sym e ∙ t))

-- one more line
final_more : (h k : History) (n at u : ℕ) (s : List ℕ) (a : Operation) {r : Option Line} → at < length s → length s - at ≤ suc n
    → r ≡ operation_of (drop at s) → r ≡ line_with a u → k ≡ added h a → final k (lines_read n (drop (at + u) s)) ≡ final h (lines_read (suc n) (drop at s))
final_more h k n at u s a l g e t q =
    ap (λ x. final k (lines_read n x)) (sym (drop-drop u at s))
    ∙ sym (ap (final h) (lines_at n at s l ∙ then_record _ _ _ a u (sym e ∙ t)) ∙ final_record h k a (lines_read n (drop u (drop at s))) q)

-- a turn of the loop: some bound on the number of lines is enough for what is left
pub final_next : (h k : History) (n at u : ℕ) (s : List ℕ) (a : Operation) {r : Option Line} {v : Result History Refusal} → at < length s → length s - at ≤ n
    → 1 ≤ u → u ≤ length s - at → r ≡ operation_of (drop at s) → r ≡ line_with a u → k ≡ added h a → final h (lines_read n (drop at s)) ≡ v
    → (m : ℕ) × (length s - (at + u) ≤ m) × (final k (lines_read m (drop (at + u) s)) ≡ v)
final_next h k zero at u s a l g p b e t q i = absurd (omega arith)
final_next h k (suc n) at u s a l g p b e t q i = (n, omega arith, final_more h k n at u s a l g e t q ∙ i)

-- the end
pub final_end : (h : History) (n at : ℕ) (s : List ℕ) → length s ≤ at → final h (lines_read n (drop at s)) ≡ Ok h
unfolding final added_all
final_end h n at s l = ap (λ t. final h (lines_read n t)) (drop_of_length-le s l) ∙ ap (final h) (lines_none n)

-- ---- the answer

-- the answer to what is read of lines is that to the lines
pub answer_reading : (l : Lines) → answer_by (reading_of l) ≡ answer_of l
unfolding reading_of answer_of answer_by
answer_reading (Records ops) = verdict_row ops
answer_reading Malformed = refl

pub answer_text : (s : List ℕ) (x : Result History Refusal) (v : Judgement) → x ≡ reading_of (lines_of s) → v ≡ answer_by x → v ≡ answer_to s
unfolding answer_to
answer_text s x v e q = q ∙ ap answer_by e ∙ answer_reading (lines_of s)
