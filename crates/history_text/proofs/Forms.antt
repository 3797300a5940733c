-- Lines and the records that they say: the line printed for a record says it (`says_printed`), and a line that says a record is the one printed for it
-- (`formed_printed`). Assumes nothing.
use mathlib.Core.Path.{◌≡◌, refl, sym, ap, ap₂, subst, ◌∙◌}
use mathlib.Core.Bool.{Bool, true}
use mathlib.Core.List.{List, [], ◌∷◌, ◌++◌, map, append_assoc}
use Prim.Native.Nat.{ℕ, ◌<◌, ◌≤◌}
use native.Mathlib.Omega.{arith}
use borrow.Author.Tests.{leb-true, le-leb}
use Rattle.area.specs.Area.{pick, same}
use Rattle.area.proofs.Tests.{pick_is, pick_case}
use Rattle.area.proofs.Same.{same_true}
use mathlib.Core.Logic.{⊎_elim}
use Rattle.order.specs.declared.operation.Operation.{Operation}
use Rattle.order.proofs.Picks.{pick_yes}
use Rattle.order.proofs.Lists.{by_test}
use Rattle.order.proofs.StampLaws.{false_true}
use Rattle.history_text.specs.Decimals.{are_digits, value_of, is_plain, is_number, decimal}
use Rattle.history_text.specs.Lines.{split, is_write, is_kind, widths, are_numbers, is_formed, record_with, record_of, record_then, records_of, lines_of}
use Rattle.history_text.specs.Printed.{join, kind_of, numbers_in, fields_of, printed, Within, InWidth}
use Rattle.history_text.proofs.Decimals.{below_all, digit_is, digits_cons, digits_all, plain_decimal, value_decimal, decimal_plain}
use Rattle.history_text.proofs.Pieces.{pieces, join_split, Free, AllFree, split_ended, split_join, free_join}

-- ---- numbers

-- widths of at most 64 bits
abbrev Small : List ℕ → Type 0
Small [] = Unit {0}
Small (m ∷ ms) = (m ≤ 18446744073709551615) × Small ms

widths_small : Small widths
unfolding widths
widths_small = (omega arith, (omega arith, (omega arith, (omega arith, (omega arith, (omega arith, tt))))))

number_is : (m : ℕ) (f : List ℕ) → is_number m f ≡ true → (is_plain f ≡ true) × (value_of f ≤ m)
unfolding is_number
number_is m f e = let p = pick_is _ _ _ _ false_true e in (p.0, leb-true (value_of f) m p.1)

is_number_lem : (m n : ℕ) → n ≤ m → m ≤ 18446744073709551615 → is_number m (decimal n) ≡ true
unfolding is_number
is_number_lem m n h g =
    let b = below_all n m h g in
    sym (pick_yes _ _ _ refl (plain_decimal n b) (sym (le-leb (value_of (decimal n)) m (subst (λ x. x ≤ m) (sym (value_decimal n b)) h))))

numbers_cons : (m : ℕ) (ms : List ℕ) (f : List ℕ) (fs : List (List ℕ)) → are_numbers (m ∷ ms) (f ∷ fs) ≡ true → (is_number m f ≡ true) × (are_numbers ms fs ≡ true)
unfolding are_numbers
numbers_cons m ms f fs e = pick_is _ _ _ _ false_true e

cons_numbers : (m : ℕ) (ms : List ℕ) (f : List ℕ) (fs : List (List ℕ)) → is_number m f ≡ true → are_numbers ms fs ≡ true → are_numbers (m ∷ ms) (f ∷ fs) ≡ true
unfolding are_numbers
cons_numbers m ms f fs d e = sym (pick_yes _ _ _ refl d (sym e))

-- fields that are numbers are the decimals of their values
numbers_are : (ms : List ℕ) (fs : List (List ℕ)) → Small ms → are_numbers ms fs ≡ true → (fs ≡ map decimal (map value_of fs)) × Within ms (map value_of fs)
unfolding are_numbers
numbers_are [] [] s e = (refl, tt)
numbers_are [] (f ∷ fs) s e = absurd (false_true e)
numbers_are (m ∷ ms) [] s e = absurd (false_true e)
numbers_are (m ∷ ms) (f ∷ fs) s e =
    let p = numbers_cons m ms f fs e in
    let n = number_is m f p.0 in
    let r = numbers_are ms fs s.1 p.1 in
    (ap₂ (λ x l. x ∷ l) (decimal_plain f n.0 (below_all (value_of f) m n.1 s.0)) r.0, (n.1, r.1))

-- and the decimals of numbers are such fields
are_numbers_lem : (ms xs : List ℕ) → Small ms → Within ms xs → (are_numbers ms (map decimal xs) ≡ true) × (map value_of (map decimal xs) ≡ xs)
unfolding are_numbers
are_numbers_lem [] [] s w = (refl, refl)
are_numbers_lem [] (x ∷ xs) s w = absurd w
are_numbers_lem (m ∷ ms) [] s w = absurd w
are_numbers_lem (m ∷ ms) (x ∷ xs) s w =
    let r = are_numbers_lem ms xs s.1 w.1 in (
      cons_numbers m ms (decimal x) (map decimal xs) (is_number_lem m x w.0 s.0) r.0,
      ap₂ (λ y l. y ∷ l) (value_decimal x (below_all x m w.0 s.0)) r.1,
    )

-- ---- fields

kind_is : (k : List ℕ) → is_kind k ≡ true → k ≡ pick (is_write k) 87 82 ∷ []
unfolding is_kind is_write pick same
kind_is k e =
    ⊎_elim
    (λ p. let q = same_true k (82 ∷ []) p.0 in rw q)
    (λ p. let q = same_true k (87 ∷ []) p.1 in rw q)
    (pick_case (same k (82 ∷ [])) true (same k (87 ∷ [])) true e)

is_kind_lem : (a : Operation) → (is_kind (kind_of a) ≡ true) × (is_write (kind_of a) ≡ a.write)
unfolding is_kind is_write kind_of pick same
is_kind_lem a = by_test a.write (λ t. rw t (refl, refl)) (λ t. rw t (refl, refl))

-- a record that is made of as many numbers as there are widths has these numbers
numbers_back : (w : Bool) (x : List ℕ) → Within widths x → numbers_in (record_with w x) ≡ x
unfolding widths
numbers_back w [] h = absurd h
numbers_back w (a ∷ []) h = absurd h.1
numbers_back w (a ∷ b ∷ []) h = absurd h.1.1
numbers_back w (a ∷ b ∷ c ∷ []) h = absurd h.1.1.1
numbers_back w (a ∷ b ∷ c ∷ d ∷ []) h = absurd h.1.1.1.1
numbers_back w (a ∷ b ∷ c ∷ d ∷ e ∷ []) h = absurd h.1.1.1.1.1
numbers_back w (a ∷ b ∷ c ∷ d ∷ e ∷ f ∷ []) h = refl
numbers_back w (a ∷ b ∷ c ∷ d ∷ e ∷ f ∷ g ∷ x) h = absurd h.1.1.1.1.1.1

fields_are : (k : List ℕ) (fs : List (List ℕ)) → is_formed (k ∷ fs) ≡ true → (k ∷ fs ≡ fields_of (record_of (k ∷ fs))) × InWidth (record_of (k ∷ fs))
unfolding is_formed record_of fields_of kind_of
fields_are k fs e =
    let p = pick_is _ _ _ _ false_true e in
    let n = numbers_are widths fs widths_small p.1 in
    let b = numbers_back (is_write k) (map value_of fs) n.1 in
    (ap₂ (λ x l. x ∷ l) (kind_is k p.0) (n.0 ∙ ap (map decimal) (sym b)), subst (Within widths) (sym b) n.1)

pub are_fields : (a : Operation) → InWidth a → (is_formed (fields_of a) ≡ true) × (record_of (fields_of a) ≡ a)
unfolding is_formed record_of fields_of
are_fields a h =
    let k = is_kind_lem a in
    let n = are_numbers_lem widths (numbers_in a) widths_small h in
    (sym (pick_yes _ _ _ refl k.0 (sym n.0)), ap₂ record_with k.1 n.1)

-- ---- a line

free_digits : (c : ℕ) (f : List ℕ) → c < 48 → are_digits f ≡ true → Free c f
free_digits c [] h d = tt
free_digits c (x ∷ f) h d =
    let p = digits_cons x f d in
    let low = (digit_is x p.0).low in
    ((λ e. omega arith), free_digits c f h p.1)

free_numbers : (c : ℕ) (xs : List ℕ) → c < 48 → AllFree c (map decimal xs)
free_numbers c [] h = tt
free_numbers c (x ∷ xs) h = (free_digits c (decimal x) h (digits_all x), free_numbers c xs h)

free_fields : (c : ℕ) (a : Operation) → c < 48 → AllFree c (fields_of a)
unfolding fields_of kind_of pick
free_fields c a h =
    by_test a.write
    (λ t. rw t (((λ e. omega arith), tt), free_numbers c (numbers_in a) h))
    (λ t. rw t (((λ e. omega arith), tt), free_numbers c (numbers_in a) h))

-- a line that says a record is printed for it
pub formed_printed : (line : List ℕ) → is_formed (split 32 line) ≡ true
    → InWidth (record_of (split 32 line)) × (line ++ (10 ∷ []) ≡ printed (record_of (split 32 line)))
unfolding printed
formed_printed line e =
    let w = pieces 32 line in
    let f = fields_are w.first w.others (ap is_formed (sym w.is) ∙ e) in (
      subst (λ l. InWidth (record_of l)) (sym w.is) f.1,
      ap (λ l. l ++ (10 ∷ [])) (sym (join_split 32 line) ∙ ap (join 32) (w.is ∙ f.0 ∙ ap (λ l. fields_of (record_of l)) (sym w.is))),
    )

fields_split : (a : Operation) → split 32 (join 32 (fields_of a)) ≡ fields_of a
unfolding fields_of
fields_split a = let f = free_fields 32 a (omega arith) in split_join 32 (kind_of a) (map decimal (numbers_in a)) f

line_free : (a : Operation) → Free 10 (join 32 (fields_of a))
unfolding fields_of
line_free a = let f = free_fields 10 a (omega arith) in free_join 32 10 (kind_of a) (map decimal (numbers_in a)) (λ e. omega arith) f

pub records_next : (line next : List ℕ) (lines : List (List ℕ)) → is_formed (split 32 line) ≡ true
    → records_of (line ∷ next ∷ lines) ≡ record_then (record_of (split 32 line)) (records_of (next ∷ lines))
unfolding records_of
records_next line next lines e = sym (pick_yes _ _ _ refl e refl)

-- what is printed for a record says it
pub says_printed : (a : Operation) (t : List ℕ) → InWidth a → lines_of (printed a ++ t) ≡ record_then a (lines_of t)
unfolding lines_of printed
says_printed a t h =
    let line = join 32 (fields_of a) in
    let w = pieces 10 t in
    let s = fields_split a in
    let f = are_fields a h in
    ap (λ l. records_of (split 10 l)) (append_assoc line (10 ∷ []) t)
    ∙ ap records_of (split_ended 10 line t (line_free a) ∙ ap (λ l. line ∷ l) w.is)
    ∙ records_next line w.first w.others (ap is_formed s ∙ f.0)
    ∙ ap₂ record_then (ap record_of s ∙ f.1) (ap records_of (sym w.is))
