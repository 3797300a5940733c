-- How long texts can be: a line has at most 60 bytes (`line_long`), so that a text of more than 64 times as many is refused (`long_refused`).
-- Assumes nothing.
use mathlib.Core.Path.{◌≡◌, refl, sym, ap}
use mathlib.Core.List.{List, [], ◌∷◌}
use Prim.Native.Nat.{ℕ, zero, suc, ◌+◌, ◌*◌, ◌/◌, ◌%◌, ◌^◌, ◌<◌, ◌≤◌}
use native.Mathlib.Omega.{arith}
use lib.Dec.{ltb}
use lib.ListN.{length, length-append}
use borrow.Author.Tests.{ltb-true, ltb-false, lt-ltb}
use Rattle.order.specs.Histories.{refused, judged}
use Rattle.order.specs.declared.operation.Operation.{Operation}
use Rattle.order.proofs.Picks.{pick_yes}
use Rattle.order.proofs.Lists.{by_test}
use Rattle.history_text.specs.Decimals.{decimal_of, decimal}
use Rattle.history_text.specs.Lines.{widths, Lines, Records, Malformed, lines_of, answer_of, answer_to}
use Rattle.history_text.specs.Printed.{printed, printed_all, InWidth, AllInWidth}
use Rattle.history_text.proofs.Decimals.{tenth, decimal_none, decimal_small, decimal_large}
use Rattle.history_text.proofs.Shown.{shown, printed_length}
use Rattle.history_text.proofs.Texts.{only_printed}

-- a number below a power of ten has no more digits than that power
pub digits_long : (k d n : ℕ) → n < 10 ^ suc d → length (decimal_of k n) ≤ suc d
digits_long zero d n h = let e = ap length (decimal_none n) in omega arith
digits_long (suc k) zero n h = let g : n < 10 = h in let e = ap length (decimal_small k n g) in omega arith
digits_long (suc k) (suc d) n h =
    by_test (ltb n 10)
    (λ b. let e = ap length (decimal_small k n (ltb-true n 10 b)) in omega arith)
    (λ b.
    let e = ap length (decimal_large k n (ltb-false n 10 b)) in
    let l = length-append (decimal_of k (n / 10)) ((n % 10 + 48) ∷ []) in
    let r = digits_long k d (n / 10) (tenth (suc d) n h) in
    omega arith)

shown_long : (d n c : ℕ) → n < 10 ^ suc d → length (shown n c) ≤ suc (suc d)
unfolding shown decimal
shown_long d n c h = let e = length-append (decimal_of 20 n) (c ∷ []) in let r = digits_long 20 d n h in omega arith

pub line_long : (a : Operation) → InWidth a → length (printed a) ≤ 60
unfolding widths
line_long a h =
    let h₁ = h.0 in
    let h₂ = h.1.0 in
    let h₃ = h.1.1.0 in
    let h₄ = h.1.1.1.0 in
    let h₅ = h.1.1.1.1.0 in
    let h₆ = h.1.1.1.1.1.0 in
    let e = printed_length a in
    let r₁ = shown_long 9 a.start 32 (omega arith) in
    let r₂ = shown_long 9 a.end 32 (omega arith) in
    let r₃ = shown_long 19 a.time 32 (omega arith) in
    let r₄ = shown_long 0 a.writer 32 (omega arith) in
    let r₅ = shown_long 9 a.sequence 32 (omega arith) in
    let r₆ = shown_long 0 a.caller 10 (omega arith) in
    omega arith

all_long : (ops : List Operation) → AllInWidth ops → length (printed_all ops) ≤ 60 * length ops
unfolding printed_all
all_long [] h = omega arith
all_long (a ∷ ops) h =
    let e = length-append (printed a) (printed_all ops) in
    let l = line_long a h.0 in
    let r = all_long ops h.1 in
    omega arith

long_lines : (text : List ℕ) (l : Lines) → lines_of text ≡ l → 3840 < length text → answer_of l ≡ refused 18
unfolding answer_of judged
long_lines text (Records ops) e h =
    let p = only_printed text ops e in
    let x = ap length p.1 in
    let y = all_long ops p.0 in
    let many : 64 < length ops = omega arith in
    sym (pick_yes _ _ _ refl (lt-ltb 64 (length ops) many) refl)
long_lines text Malformed e h = refl

pub long_refused : (text : List ℕ) → 3840 < length text → answer_to text ≡ refused 18
unfolding answer_to
long_refused text h = long_lines text (lines_of text) refl h
