-- The code reads a text as Lines.antt says it (`read_says`). Assumes nothing.
use Rattle.std.proofs.Common.{Option, Some, None}
use Rattle.history_text.specs.ReadLines.{line_with}
use mathlib.Core.Path.{◌≡◌, refl, sym, ap, subst, ◌∙◌}
use mathlib.Core.Bool.{true, false}
use mathlib.Core.List.{List, [], ◌∷◌, ◌++◌, append_assoc}
use Prim.Native.Nat.{ℕ, zero, suc, ◌≤◌}
use native.Mathlib.Omega.{arith}
use lib.ListN.{length, drop, length-append}
use Rattle.order.proofs.Picks.{pick_no}
use Rattle.order.proofs.Lists.{by_test}
use Rattle.order.specs.declared.operation.Operation.{Operation}
use Rattle.area.specs.Area.{pick, same}
use Rattle.history_text.specs.Lines.{split, is_formed, record_of, Records, Malformed, record_then, records_of, lines_of}
use Rattle.history_text.specs.Printed.{join, fields_of, printed}
use Rattle.history_text.specs.ReadLines.{operation_of, lines_read}
use Rattle.history_text.specs.declared.line.Line.{Line}
use Rattle.history_text.proofs.Lines.{then_record, then_none, lines_at, lines_none}
use Rattle.history_text.proofs.Pieces.{pieces, join_split, join_more, join_one}
use Rattle.history_text.proofs.Forms.{formed_printed, says_printed}
use Rattle.history_text.proofs.ReadsBack.{line_reads_back}
use Rattle.history_text.proofs.Converse.{SaysLine, line_says}

unfoldable is_record : Option Line → Type 0
is_record (Some l) = Unit {0}
is_record None = ⊥

not_bad : (a : Operation) (u : ℕ) → line_with a u ≡ None → ⊥
unfolding is_record
not_bad a u e = subst is_record e tt

by_line : {X : Type 0} (r : Option Line) → ((a : Operation) (u : ℕ) → r ≡ line_with a u → X) → (r ≡ None → X) → X
by_line (Some l) f g = f l.operation l.used refl
by_line None f g = g refl

-- ---- a text that the code does not read

pub records_other : (line next : List ℕ) (lines : List (List ℕ)) → is_formed (split 32 line) ≡ false → records_of (line ∷ next ∷ lines) ≡ Malformed
unfolding records_of
records_other line next lines e = sym (pick_no _ _ _ refl e refl)

records_rest : (c : ℕ) (t : List ℕ) → records_of ((c ∷ t) ∷ []) ≡ Malformed
unfolding records_of same pick
records_rest c t = refl

records_none : records_of ([] ∷ []) ≡ Records []
unfolding records_of same pick
records_none = refl

-- a text whose first line says a record is read
formed_read : (line next : List ℕ) (lines : List (List ℕ)) (text : List ℕ) → split 10 text ≡ line ∷ next ∷ lines → is_formed (split 32 line) ≡ true
    → (u : ℕ) × (operation_of text ≡ line_with (record_of (split 32 line)) u)
formed_read line next lines text e f =
    let p = formed_printed line f in
    let rest = join 10 (next ∷ lines) in
    let a = record_of (split 32 line) in
    let whole : text ≡ printed a ++ rest =
    sym (join_split 10 text) ∙ ap (join 10) e ∙ join_more 10 line next lines ∙ sym (append_assoc line (10 ∷ []) rest) ∙ ap (λ l. l ++ rest) p.1 in
    (length (printed a), ap operation_of whole ∙ line_reads_back a rest p.0)

malformed_pieces : (c : ℕ) (t : List ℕ) (line : List ℕ) (lines : List (List ℕ)) → operation_of (c ∷ t) ≡ None → split 10 (c ∷ t) ≡ line ∷ lines
    → records_of (line ∷ lines) ≡ Malformed
malformed_pieces c t line [] b e =
    let q : c ∷ t ≡ line = sym (join_split 10 (c ∷ t)) ∙ ap (join 10) e ∙ join_one 10 line in
    ap (λ l. records_of (l ∷ [])) (sym q) ∙ records_rest c t
malformed_pieces c t line (next ∷ lines) b e =
    by_test (is_formed (split 32 line))
    (λ f. let r = formed_read line next lines (c ∷ t) e f in absurd (not_bad _ r.0 (sym r.1 ∙ b)))
    (λ f. records_other line next lines f)

malformed_says : (c : ℕ) (t : List ℕ) → operation_of (c ∷ t) ≡ None → lines_of (c ∷ t) ≡ Malformed
unfolding lines_of
malformed_says c t b = let w = pieces 10 (c ∷ t) in ap records_of w.is ∙ malformed_pieces c t w.first w.others b w.is

-- ---- every text

pub none_says : lines_of [] ≡ Records []
unfolding lines_of split
none_says = records_none

filled : (a : Operation) → 1 ≤ length (printed a)
unfolding printed
filled a = let e = length-append (join 32 (fields_of a)) (10 ∷ []) in omega (arith, e)

pub read_says : (n : ℕ) (text : List ℕ) → length text ≤ n → lines_read n text ≡ lines_of text
read_says zero [] h = lines_none 0 ∙ sym none_says
read_says zero (c ∷ t) h = absurd (omega arith)
read_says (suc n) [] h = lines_none (suc n) ∙ sym none_says
read_says (suc n) (c ∷ t) h =
    let text = c ∷ t in
    by_line (operation_of text)
    (λ a u e.
    let s = subst (SaysLine text) e (line_says text) in
    let rest = drop u text in
    let x = ap length s.1 in
    let y = length-append (printed a) rest in
    let z = filled a in
    let k : length rest ≤ n = omega arith in
    lines_at n 0 text (omega arith)
    ∙ then_record _ _ _ a u e
    ∙ ap (record_then a) (read_says n rest k)
    ∙ sym (ap lines_of s.1 ∙ says_printed a rest s.0))
    (λ e. lines_at n 0 text (omega arith) ∙ then_none _ _ _ e ∙ sym (malformed_says c t e))
