-- Operations added one after the other to a history by value, and the answer for it. Assumes nothing.
use mathlib.Core.Path.{◌≡◌, refl, sym, ap, ◌∙◌}
use mathlib.Core.List.{List, [], ◌∷◌, ◌++◌, append_assoc, append-nil}
use Prim.Native.Nat.{suc, ◌+◌, ◌<◌, ◌≤◌}
use native.Mathlib.Numerals.{add-one}
use native.Mathlib.Omega.{arith}
use lib.Dec.{ltb}
use lib.ListN.{length, take, set, length-append, length-set}
use lib.Seq.{take-suc-set, length-take-le}
use borrow.Author.Tests.{ltb-true, ltb-false, lt-ltb, le-ltb, lt-leb, le-leb}
use Rattle.area.specs.Area.{pick}
use Rattle.order.specs.Histories.{refused, judged}
use Rattle.order.proofs.Lists.{by_test}
use Rattle.order.specs.declared.operation.Operation.{Operation}
use Rattle.history_row.specs.Rows.{none, added, added_all, verdict_of}
use Rattle.history_row.specs.declared.History.{History}

-- ---- what is gathered is what is judged

pub added_fits : (h : History) (a : Operation) → h.count < 64 → added h a ≡ record { rows = set h.rows h.count a; count = h.count + 1 }
unfolding added pick
added_fits h a l = simp (lt-leb 64 h.count l)

added_full : (h : History) (a : Operation) → 64 ≤ h.count → added h a ≡ record { rows = h.rows; count = 65 }
unfolding added pick
added_full h a l = simp (le-leb 64 h.count l)

pub verdict_large : (h : History) → 64 < h.count → verdict_of h ≡ refused 18
unfolding verdict_of pick
verdict_large h l = simp (lt-ltb 64 h.count l)

pub verdict_small : (h : History) → h.count ≤ 64 → verdict_of h ≡ judged (take h.count h.rows)
unfolding verdict_of pick
verdict_small h l = simp (le-ltb 64 h.count l)

-- more than 64 are refused, however many follow
verdict_over : (h : History) (ops : List Operation) → 64 < h.count → verdict_of (added_all h ops) ≡ refused 18
unfolding added_all
verdict_over h [] l = verdict_large h l
verdict_over h (a ∷ ops) l =
    let g : 64 ≤ h.count = omega arith in
    ap (λ k. verdict_of (added_all k ops)) (added_full h a g) ∙ verdict_over (record { rows = h.rows; count = 65 }) ops (omega arith)

judged_over : (ops : List Operation) → 64 < length ops → judged ops ≡ refused 18
unfolding judged pick
judged_over ops l = simp (lt-ltb 64 (length ops) l)

verdict_added : (h : History) (ops : List Operation) → length h.rows ≡ 64 → h.count ≤ 64
    → verdict_of (added_all h ops) ≡ judged (take h.count h.rows ++ ops)
unfolding added_all
verdict_added h [] e l = verdict_small h l ∙ ap judged (sym (append-nil (take h.count h.rows)))
verdict_added h (a ∷ ops) e l =
    by_test (ltb h.count 64)
    (λ t.
    let g : h.count < 64 = ltb-true h.count 64 t in
    let i : h.count < length h.rows = omega arith in
    let s : take (h.count + 1) (set h.rows h.count a) ≡ take h.count h.rows ++ (a ∷ []) =
    rw (add-one h.count) (take-suc-set h.rows h.count a i) in
    ap (λ k. verdict_of (added_all k ops)) (added_fits h a g)
    ∙ verdict_added (record { rows = set h.rows h.count a; count = h.count + 1 }) ops (length-set h.rows h.count a ∙ e) (omega arith)
    ∙ ap (λ x. judged (x ++ ops)) s
    ∙ ap judged (append_assoc (take h.count h.rows) (a ∷ []) ops))
    (λ t.
    let g : 64 ≤ h.count = ltb-false h.count 64 t in
    let n : length (take h.count h.rows ++ a ∷ ops) ≡ h.count + suc (length ops) =
    length-append (take h.count h.rows) (a ∷ ops) ∙ ap (λ k. k + suc (length ops)) (length-take-le h.count h.rows (omega arith)) in
    ap (λ k. verdict_of (added_all k ops)) (added_full h a g)
    ∙ verdict_over (record { rows = h.rows; count = 65 }) ops (omega arith)
    ∙ sym (judged_over (take h.count h.rows ++ a ∷ ops) (omega arith)))

-- starting from no operations
pub verdict_row : (ops : List Operation) → verdict_of (added_all none ops) ≡ judged ops
unfolding none
verdict_row ops = verdict_added none ops refl (omega arith)
