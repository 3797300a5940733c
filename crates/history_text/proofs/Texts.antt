-- Texts and the records that they say: what is printed for records says them (`text_reads_back`), and a text that says records is what is printed for
-- them (`only_printed`). Assumes nothing.
use mathlib.Core.Path.{◌≡◌, refl, sym, ap, subst, ◌∙◌}
use mathlib.Core.List.{List, [], ◌∷◌, ◌++◌, append_assoc}
use Prim.Native.Nat.{ℕ}
use Rattle.area.specs.Area.{pick, same}
use Rattle.order.specs.Histories.{judged}
use Rattle.order.specs.declared.operation.Operation.{Operation}
use Rattle.order.proofs.Lists.{by_test}
use Rattle.history_text.specs.Lines.{split, is_formed, Lines, Records, Malformed, record_then, records_of, lines_of, answer_of, answer_to}
use Rattle.history_text.specs.Printed.{join, printed, printed_all, AllInWidth}
use Rattle.history_text.proofs.Pieces.{pieces, join_split, join_more, join_one}
use Rattle.history_text.proofs.Forms.{formed_printed, says_printed, records_next}
use Rattle.history_text.proofs.Link.{none_says, records_other}

-- ---- what is printed

record_then_lem : (a : Operation) (ops : List Operation) → record_then a (Records ops) ≡ Records (a ∷ ops)
unfolding record_then
record_then_lem a ops = refl

pub says_all : (ops : List Operation) → AllInWidth ops → lines_of (printed_all ops) ≡ Records ops
unfolding printed_all
says_all [] h = none_says
says_all (a ∷ ops) h = says_printed a (printed_all ops) h.0 ∙ ap (record_then a) (says_all ops h.1) ∙ record_then_lem a ops

-- what is printed for a history is answered as the history is judged
pub text_reads_back : (ops : List Operation) → AllInWidth ops → answer_to (printed_all ops) ≡ judged ops
unfolding answer_to answer_of
text_reads_back ops h = ap answer_of (says_all ops h)

-- ---- only what is printed

-- what lines say: records that they are printed for
abbrev Printed : List ℕ → Lines → Type 0
Printed text (Records ops) = AllInWidth ops × (text ≡ printed_all ops)
Printed text Malformed = Unit {0}

printed_none : (rest : List ℕ) → Printed rest (records_of (rest ∷ []))
unfolding records_of same pick printed_all
printed_none [] = (tt, refl)
printed_none (c ∷ rest) = tt

printed_then : (a : Operation) (line text : List ℕ) (l : Lines) → AllInWidth (a ∷ []) → line ++ (10 ∷ []) ≡ printed a → Printed text l
    → Printed (line ++ 10 ∷ text) (record_then a l)
unfolding record_then printed_all
printed_then a line text (Records ops) w e p = ((w.0, p.0), sym (append_assoc line (10 ∷ []) text) ∙ ap (λ l. l ++ text) e ∙ ap (λ l. printed a ++ l) p.1)
printed_then a line text Malformed w e p = tt

printed_pieces : (line : List ℕ) (lines : List (List ℕ)) → Printed (join 10 (line ∷ lines)) (records_of (line ∷ lines))
printed_pieces line [] = subst (λ l. Printed l (records_of (line ∷ []))) (sym (join_one 10 line)) (printed_none line)
printed_pieces line (next ∷ lines) =
    subst (λ l. Printed l (records_of (line ∷ next ∷ lines))) (sym (join_more 10 line next lines))
    (by_test (is_formed (split 32 line))
    (λ f. let p = formed_printed line f in
    subst (Printed _) (sym (records_next line next lines f)) (printed_then _ line _ _ (p.0, tt) p.1 (printed_pieces next lines)))
    (λ f. subst (Printed _) (sym (records_other line next lines f)) tt))

text_printed : (text : List ℕ) → Printed text (lines_of text)
unfolding lines_of
text_printed text =
    let w = pieces 10 text in
    subst (λ l. Printed text (records_of l)) (sym w.is)
    (subst (λ l. Printed l (records_of (w.first ∷ w.others))) (ap (join 10) (sym w.is) ∙ join_split 10 text) (printed_pieces w.first w.others))

-- a text that says records is what is printed for them, and their numbers are in their widths
pub only_printed : (text : List ℕ) (ops : List Operation) → lines_of text ≡ Records ops → AllInWidth ops × (text ≡ printed_all ops)
only_printed text ops e = subst (Printed text) e (text_printed text)
