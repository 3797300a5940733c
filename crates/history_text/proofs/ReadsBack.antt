-- The code reads the line that is printed for a record as that record (`line_reads_back`). Assumes nothing.
use Rattle.std.proofs.Common.{Some, None}
use Rattle.history_text.specs.ReadNumbers.{number_with}
use Rattle.history_text.specs.ReadLines.{interval_with, stamp_with, line_with}
use mathlib.Core.Path.{◌≡◌, refl, sym, ap, ap₂, ◌∙◌}
use mathlib.Core.List.{List, [], ◌∷◌, ◌++◌, append_assoc}
use Prim.Native.Nat.{ℕ, zero, suc, ◌+◌, ◌-◌, ◌*◌, ◌/◌, ◌%◌, ◌^◌, ◌<◌, ◌≤◌}
use native.Mathlib.Nat.{pow-suc}
use native.Mathlib.Omega.{arith}
use lib.Dec.{ltb}
use lib.ListN.{length, get_or, drop, length-append}
use lib.Seq.{get_or-append_seam, drop-append_seam, drop-drop}
use borrow.Author.Tests.{ltb-true, ltb-false, le-ltb, le-leb}
use Rattle.area.specs.Area.{pick}
use Rattle.order.proofs.Picks.{pick_no}
use Rattle.order.proofs.Lists.{by_test}
use Rattle.order.specs.declared.operation.Operation.{Operation}
use Rattle.history_text.specs.ReadNumbers.{digit_of, digits_of, number_of, field_of}
use Rattle.history_text.specs.Decimals.{decimal_of, decimal}
use Rattle.history_text.specs.Lines.{widths}
use Rattle.history_text.specs.Printed.{printed, InWidth}
use Rattle.history_text.specs.ReadLines.{kind_at, interval_of, stamp_of, operation_of}
use Rattle.history_text.proofs.Decimals.{decimal_small, decimal_large, below_all, head}
use Rattle.history_text.proofs.Shown.{shown, printed_shown, printed_length}
use Rattle.history_text.proofs.Lines.{line_whole}
use Rattle.history_text.proofs.Laws.{digits_stop, digits_more, number_zero, number_digits, field_found, then_number_lem}

-- ---- digits

digit_of_lem : (n : ℕ) → n < 10 → digit_of (n + 48) ≡ Some n
unfolding digit_of
digit_of_lem n h =
    let a : 48 ≤ n + 48 = omega arith in
    let b : n + 48 ≤ 57 = omega arith in
    let e : n + 48 - 48 ≡ n = omega arith in
    sym (pick_no _ _ _ refl (le-ltb (n + 48) 48 a) (pick_no _ _ _ refl (le-ltb 57 (n + 48) b) (ap (λ k. Some k) (sym e))))

-- one digit read
digit_read : (limit v u d : ℕ) (t : List ℕ) → d < 10 → v * 10 + d ≤ limit → digits_of limit v u ((d + 48) ∷ t) ≡ digits_of limit (v * 10 + d) (u + 1) t
digit_read limit v u d t h l =
    digits_more limit v u 0 d ((d + 48) ∷ t) (omega arith) (sym (digit_of_lem d h)) (sym (le-leb (v * 10 + d) limit l)) refl

digits_none : (n limit u : ℕ) (t : List ℕ) → n < 1 → digits_of limit 0 u (decimal_of 0 n ++ t) ≡ digits_of limit n (u + length (decimal_of 0 n)) t
unfolding decimal_of
digits_none n limit u t h =
    let e : 0 ≡ n = omega arith in
    let f : u ≡ u + 0 = omega arith in
    ap₂ (λ x y. digits_of limit x y t) e f

-- all digits of n read
digits_read : (k n limit u : ℕ) (t : List ℕ) → n < 10 ^ k → n ≤ limit
    → digits_of limit 0 u (decimal_of k n ++ t) ≡ digits_of limit n (u + length (decimal_of k n)) t
digits_read zero n limit u t h l = digits_none n limit u t h
digits_read (suc k) n limit u t h l =
    by_test (ltb n 10)
    (λ b.
    let g : n < 10 = ltb-true n 10 b in
    let e = decimal_small k n g in
    let v : 0 * 10 + n ≡ n = omega arith in
    ap (λ x. digits_of limit 0 u (x ++ t)) e ∙ digit_read limit 0 u n t g (omega arith)
    ∙ ap₂ (λ x y. digits_of limit x y t) v (ap (λ x. u + length x) (sym e)))
    (λ b.
    let g : 10 ≤ n = ltb-false n 10 b in
    let e = decimal_large k n g in
    let p : n < 10 ^ k * 10 = rw pow-suc at h in
    let q : n / 10 < 10 ^ k = omega arith in
    let r : n % 10 < 10 = omega arith in
    let w : n / 10 ≤ limit = omega arith in
    let v : n / 10 * 10 + n % 10 ≡ n = omega arith in
    let m : n / 10 * 10 + n % 10 ≤ limit = omega arith in
    let o : u + length (decimal_of k (n / 10)) + 1 ≡ u + length (decimal_of (suc k) n) =
    (let a = ap length e in let c = length-append (decimal_of k (n / 10)) ((n % 10 + 48) ∷ []) in omega arith) in
    ap (λ x. digits_of limit 0 u (x ++ t)) e
    ∙ ap (digits_of limit 0 u) (append_assoc (decimal_of k (n / 10)) ((n % 10 + 48) ∷ []) t)
    ∙ digits_read k (n / 10) limit u ((n % 10 + 48) ∷ t) q w
    ∙ digit_read limit (n / 10) (u + length (decimal_of k (n / 10))) (n % 10) t r m
    ∙ ap₂ (λ x y. digits_of limit x y t) v o)

-- ---- a number, and a number with the byte after it

number_read : (n limit c : ℕ) (t : List ℕ) → n ≤ limit → limit ≤ 18446744073709551615 → None ≡ digit_of c
    → number_of limit (decimal n ++ c ∷ t) ≡ number_with n (length (decimal n))
unfolding decimal
number_read n limit c t h g d =
    by_test (ltb 0 n)
    (λ b.
    let p : 1 ≤ n = ltb-true 0 n b in
    let w = head 20 n p (below_all n limit h g) in
    let x = w.byte in
    let low = w.low in
    let high = w.high in
    let y : x - 48 < 10 = omega arith in
    let z : x - 48 + 48 ≡ x = omega arith in
    let e : Some (x - 48) ≡ digit_of x = sym (digit_of_lem (x - 48) y) ∙ ap digit_of z in
    sym (ap (λ l. number_of limit (l ++ c ∷ t)) (sym w.is))
    ∙ sym (number_digits limit 0 (x - 48) (x ∷ (w.rest ++ c ∷ t)) (omega arith) (λ q. omega arith) e refl)
    ∙ ap (λ l. digits_of limit 0 0 (l ++ c ∷ t)) (sym w.is)
    ∙ digits_read 20 n limit 0 (c ∷ t) (below_all n limit h g) h
    ∙ digits_stop limit n (0 + length (decimal_of 20 n)) 0 (c ∷ t) (omega arith) d
    ∙ ap (number_with n) (let o : 0 + length (decimal_of 20 n) ≡ length (decimal_of 20 n) = omega arith in o))
    (λ b.
    let p : n ≡ 0 = (let q = ltb-false 0 n b in omega arith) in
    let e : decimal_of 20 n ≡ 48 ∷ [] = ap (decimal_of 20) p ∙ decimal_small 19 0 (omega arith) in
    ap (λ l. number_of limit (l ++ c ∷ t)) e ∙ number_zero limit 0 (48 ∷ c ∷ t) (omega arith) refl
    ∙ ap₂ number_with (sym p) (ap length (sym e)))

field_read : (n limit c : ℕ) (t : List ℕ) → n ≤ limit → limit ≤ 18446744073709551615 → None ≡ digit_of c
    → field_of limit c (shown n c ++ t) ≡ number_with n (length (shown n c))
unfolding shown
field_read n limit c t h g d =
    let a = append_assoc (decimal n) (c ∷ []) t in
    let z : 0 + length (decimal n) ≡ length (decimal n) = omega arith in
    ap (field_of limit c) a
    ∙ sym (field_found limit c 0 n (length (decimal n)) (decimal n ++ c ∷ t) (sym (number_read n limit c t h g d)) refl
    (ap (λ i. get_or (decimal n ++ c ∷ t) i 0) z ∙ get_or-append_seam (decimal n) c t 0))
    ∙ ap (number_with n) (sym (length-append (decimal n) (c ∷ [])))

space : None ≡ digit_of 32
unfolding digit_of pick
space = refl

newline : None ≡ digit_of 10
unfolding digit_of pick
newline = refl

-- ---- the parts of a line, and what follows them

behind_two : (f g t : List ℕ) → drop (length f + length g) (f ++ (g ++ t)) ≡ t
behind_two f g t =
    sym (drop-drop (length g) (length f) (f ++ (g ++ t))) ∙ ap (drop (length g)) (drop-append_seam f (g ++ t)) ∙ drop-append_seam g t

interval_read : (x y : ℕ) (t : List ℕ) → x ≤ 4294967295 → y ≤ 4294967295
    → interval_of (shown x 32 ++ (shown y 32 ++ t)) ≡ interval_with x y (length (shown x 32) + length (shown y 32))
unfolding interval_of
interval_read x y t h g =
    sym (then_number_lem _ _ _ x (length (shown x 32)) (sym (field_read x 4294967295 32 (shown y 32 ++ t) h (omega arith) space)) refl
    (then_number_lem _ _ _ y (length (shown y 32))
    (sym (ap (field_of 4294967295 32) (drop-append_seam (shown x 32) (shown y 32 ++ t)) ∙ field_read y 4294967295 32 t g (omega arith) space)) refl refl))

stamp_read : (m w n : ℕ) (t : List ℕ) → m ≤ 18446744073709551615 → w ≤ 8 → n ≤ 4294967295
    → stamp_of (shown m 32 ++ (shown w 32 ++ (shown n 32 ++ t))) ≡ stamp_with m w n (length (shown m 32) + length (shown w 32) + length (shown n 32))
unfolding stamp_of
stamp_read m w n t h g k =
    let u = shown w 32 ++ (shown n 32 ++ t) in
    let s = shown m 32 ++ u in
    let e : drop (length (shown m 32)) s ≡ u = drop-append_seam (shown m 32) u in
    let f : drop (length (shown m 32) + length (shown w 32)) s ≡ shown n 32 ++ t = behind_two (shown m 32) (shown w 32) (shown n 32 ++ t) in
    sym (then_number_lem _ _ _ m (length (shown m 32)) (sym (field_read m 18446744073709551615 32 u h (omega arith) space)) refl
    (then_number_lem _ _ _ w (length (shown w 32)) (sym (ap (field_of 8 32) e ∙ field_read w 8 32 (shown n 32 ++ t) g (omega arith) space)) refl
    (then_number_lem _ _ _ n (length (shown n 32)) (sym (ap (field_of 4294967295 32) f ∙ field_read n 4294967295 32 t k (omega arith) space)) refl refl)))

behind_stamp : (m w n : ℕ) (t : List ℕ)
    → drop (length (shown m 32) + length (shown w 32) + length (shown n 32)) (shown m 32 ++ (shown w 32 ++ (shown n 32 ++ t))) ≡ t
behind_stamp m w n t =
    sym (drop-drop (length (shown n 32)) (length (shown m 32) + length (shown w 32)) _)
    ∙ ap (drop (length (shown n 32))) (behind_two (shown m 32) (shown w 32) (shown n 32 ++ t)) ∙ drop-append_seam (shown n 32) t

-- ---- a line

kind_of_lem : (a : Operation) → Some a.write ≡ kind_at (pick a.write 87 82)
unfolding kind_at pick
kind_of_lem a = by_test a.write (λ t. rw t) (λ t. rw t)

pub line_reads_back : (a : Operation) (t : List ℕ) → InWidth a → operation_of (printed a ++ t) ≡ line_with a (length (printed a))
unfolding widths
line_reads_back a t h =
    let k = pick {A = ℕ} a.write 87 82 in
    let last = shown a.caller 10 ++ t in
    let tail = shown a.time 32 ++ (shown a.writer 32 ++ (shown a.sequence 32 ++ last)) in
    let u = shown a.start 32 ++ (shown a.end 32 ++ tail) in
    let s = k ∷ 32 ∷ u in
    let i = interval_read a.start a.end tail h.0 h.1.0 in
    let n = length (shown a.start 32) + length (shown a.end 32) in
    let d : drop (0 + 2 + n) s ≡ tail = sym (drop-drop n 2 s) ∙ behind_two (shown a.start 32) (shown a.end 32) tail in
    let p = ap stamp_of d ∙ stamp_read a.time a.writer a.sequence last h.1.1.0 h.1.1.1.0 h.1.1.1.1.0 in
    let m = length (shown a.time 32) + length (shown a.writer 32) + length (shown a.sequence 32) in
    let e : drop (0 + 2 + n + m) s ≡ last = sym (drop-drop m (0 + 2 + n) s) ∙ ap (drop m) d ∙ behind_stamp a.time a.writer a.sequence last in
    let c = ap (field_of 8 10) e ∙ field_read a.caller 8 10 t h.1.1.1.1.1.0 (omega arith) newline in
    ap operation_of (printed_shown a t)
    ∙ sym (line_whole s 0 (omega arith) (kind_of_lem a) refl a.start a.end n a.time a.writer a.sequence m (sym i) refl (sym p) refl (sym c)
    a.caller (length (shown a.caller 10)) refl)
    ∙ ap (line_with a) (sym (printed_length a))
