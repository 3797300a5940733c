-- The turns and returns of the functions that read text. Assumes nothing.
use Rattle.std.proofs.Common.{Option, Some, None}
use Rattle.history_text.specs.ReadNumbers.{number_with}
use mathlib.Core.Path.{◌≡◌, refl, sym, ap, ◌∙◌}
use mathlib.Core.Bool.{Bool, true, false}
use mathlib.Core.List.{List, ◌∷◌}
use Prim.Native.Nat.{ℕ, suc, ◌+◌, ◌*◌, ◌/◌, ◌%◌, ◌<◌, ◌≤◌}
use native.Mathlib.Omega.{arith}
use lib.Dec.{eqb, leb}
use lib.ListN.{length, get_or, drop, drop_of_length-le, get_or-eq_default}
use lib.Seq.{drop-cons, drop-drop, get_or-drop}
use borrow.Author.Tests.{leb-true, leb-false, le-leb, lt-leb, eq-eqb, ne_eqb}
use Rattle.area.specs.Area.{pick}
use Rattle.order.proofs.Picks.{pick_yes, pick_no}
use Rattle.order.proofs.Lists.{by_test}
use Rattle.history_text.specs.ReadNumbers.{digit_of, digits_of, number_of, then_value, then_number, field_of}
use Rattle.history_text.specs.declared.number.Field.{Field}

-- ---- numbers

-- the last digit decides if the digits before it make the same number as the limit's
pub fits_equal : (v d l : ℕ) → v ≡ l / 10 → leb d (l % 10) ≡ leb (v * 10 + d) l
fits_equal v d l e =
    by_test (leb d (l % 10))
    (λ t. let h = leb-true d (l % 10) t in t ∙ sym (le-leb (v * 10 + d) l (omega arith)))
    (λ t. let h = leb-false d (l % 10) t in t ∙ sym (lt-leb (v * 10 + d) l (omega arith)))

-- what follows a value, and what there is without one
pub some_value : {T A : Type 0} (x : Option T) (o : A) (f : T → A) (d : T) {z : A} → Some d ≡ x → z ≡ f d → z ≡ then_value x o f
unfolding then_value
some_value x o f d e q = q ∙ ap (λ y. then_value y o f) e

pub no_value : {T A : Type 0} (x : Option T) (o : A) (f : T → A) {z : A} → None ≡ x → z ≡ o → z ≡ then_value x o f
unfolding then_value
no_value x o f e q = q ∙ ap (λ y. then_value y o f) e

-- a digit d more
abbrev pub digit_more : ℕ → ℕ → ℕ → List ℕ → ℕ → Option Field
digit_more limit v u text d = pick (leb (v * 10 + d) limit) (digits_of limit (v * 10 + d) (u + 1) text) None

pub digits_cons : (limit v u c : ℕ) (text : List ℕ)
    → digits_of limit v u (c ∷ text) ≡ then_value (digit_of c) (number_with v u) (digit_more limit v u text)
unfolding digits_of
digits_cons limit v u c text = refl

digits_at : (limit v u i : ℕ) (s : List ℕ) → i < length s
    → digits_of limit v u (drop i s) ≡ then_value (digit_of (get_or s i 0)) (number_with v u) (digit_more limit v u (drop (suc i) s))
digits_at limit v u i s h = ap (digits_of limit v u) (drop-cons s i 0 h) ∙ digits_cons limit v u (get_or s i 0) (drop (suc i) s)

-- no digit, a digit that goes above the limit, one more digit, and the text's end
pub digits_stop : (limit v u i : ℕ) (s : List ℕ) → i < length s → None ≡ digit_of (get_or s i 0) → digits_of limit v u (drop i s) ≡ number_with v u
digits_stop limit v u i s h e = digits_at limit v u i s h ∙ sym (no_value _ _ _ e refl)

pub digits_over : (limit v u i d : ℕ) (s : List ℕ) {r : Bool} → i < length s → Some d ≡ digit_of (get_or s i 0) → r ≡ leb (v * 10 + d) limit → r ≡ false
    → digits_of limit v u (drop i s) ≡ None
digits_over limit v u i d s h e k f = digits_at limit v u i s h ∙ sym (some_value _ _ _ d e (pick_no _ _ _ k f refl))

pub digits_more : (limit v u i d : ℕ) (s : List ℕ) {r : Bool} → i < length s → Some d ≡ digit_of (get_or s i 0) → r ≡ leb (v * 10 + d) limit → r ≡ true
    → digits_of limit v u (drop i s) ≡ digits_of limit (v * 10 + d) (u + 1) (drop (suc i) s)
digits_more limit v u i d s h e k f = digits_at limit v u i s h ∙ sym (some_value _ _ _ d e (pick_yes _ _ _ k f refl))

pub digits_end : (limit v u i : ℕ) (s : List ℕ) → length s ≤ i → digits_of limit v u (drop i s) ≡ number_with v u
unfolding digits_of
digits_end limit v u i s h = ap (digits_of limit v u) (drop_of_length-le s h)

pub number_cons : (limit c : ℕ) (text : List ℕ)
    → number_of limit (c ∷ text) ≡ pick (eqb c 48) (number_with 0 1) (then_value (digit_of c) None (λ d. digits_of limit 0 0 (c ∷ text)))
unfolding number_of
number_cons limit c text = refl

number_at : (limit i : ℕ) (s : List ℕ) → i < length s
    → number_of limit (drop i s)
    ≡ pick (eqb (get_or s i 0) 48) (number_with 0 1) (then_value (digit_of (get_or s i 0)) None (λ d. digits_of limit 0 0 (drop i s)))
number_at limit i s h =
    ap (number_of limit) (drop-cons s i 0 h) ∙ number_cons limit (get_or s i 0) (drop (suc i) s)
    ∙ ap (λ t. pick (eqb (get_or s i 0) 48) (number_with 0 1) (then_value (digit_of (get_or s i 0)) None (λ d. digits_of limit 0 0 t))) (sym (drop-cons s i 0 h))

pub number_none : (limit i : ℕ) (s : List ℕ) → length s ≤ i → number_of limit (drop i s) ≡ None
unfolding number_of
number_none limit i s h = ap (number_of limit) (drop_of_length-le s h)

pub number_zero : (limit i : ℕ) (s : List ℕ) → i < length s → get_or s i 0 ≡ 48 → number_of limit (drop i s) ≡ number_with 0 1
number_zero limit i s h e = number_at limit i s h ∙ sym (pick_yes _ _ _ refl (eq-eqb _ _ e) refl)

pub number_bad : (limit i : ℕ) (s : List ℕ) → i < length s → (get_or s i 0 ≡ 48 → ⊥) → None ≡ digit_of (get_or s i 0) → number_of limit (drop i s) ≡ None
number_bad limit i s h n e = number_at limit i s h ∙ sym (pick_no _ _ _ refl (ne_eqb _ _ n) (no_value _ _ _ e refl))

pub number_digits : (limit i d : ℕ) (s : List ℕ) {f : Option Field} → i < length s → (get_or s i 0 ≡ 48 → ⊥) → Some d ≡ digit_of (get_or s i 0)
    → f ≡ digits_of limit 0 0 (drop i s) → f ≡ number_of limit (drop i s)
number_digits limit i d s h n e q =
    sym (number_at limit i s h ∙ sym (pick_no _ _ _ refl (ne_eqb _ _ n) (some_value _ _ _ d e q)))

-- ---- what follows a field that was read

pub then_number_lem : {A : Type 0} (f : Option Field) (bad : A) (g : ℕ → ℕ → A) {r : Option Field} {z : A} (v u : ℕ) → r ≡ f → r ≡ number_with v u → z ≡ g v u → z ≡ then_number f bad g
unfolding then_number
then_number_lem f bad g v u e t q = q ∙ ap (λ x. then_number x bad g) (sym t ∙ e)

pub then_bad : {A : Type 0} (f : Option Field) (bad : A) (g : ℕ → ℕ → A) {r : Option Field} → r ≡ f → r ≡ None → bad ≡ then_number f bad g
unfolding then_number
then_bad f bad g e t = ap (λ x. then_number x bad g) (sym t ∙ e)

-- ---- a number and the byte after it

pub field_bad : (limit end : ℕ) (text : List ℕ) {r : Option Field} → r ≡ number_of limit text → r ≡ None → None ≡ field_of limit end text
unfolding field_of
field_bad limit end text e t = then_bad _ _ _ e t

pub field_found : (limit end at v u : ℕ) (s : List ℕ) {r : Option Field} → r ≡ number_of limit (drop at s) → r ≡ number_with v u → get_or s (at + u) 0 ≡ end
    → number_with v (u + 1) ≡ field_of limit end (drop at s)
unfolding field_of
field_found limit end at v u s e t q = then_number_lem _ _ _ v u e t (pick_yes _ _ _ refl (eq-eqb _ _ (get_or-drop at s u 0 ∙ q)) refl)

pub field_other : (limit end at v u : ℕ) (s : List ℕ) {r : Option Field} → r ≡ number_of limit (drop at s) → r ≡ number_with v u → (get_or s (at + u) 0 ≡ end → ⊥)
    → None ≡ field_of limit end (drop at s)
unfolding field_of
field_other limit end at v u s e t q = then_number_lem _ _ _ v u e t (pick_no _ _ _ refl (ne_eqb _ _ (λ z. q (sym (get_or-drop at s u 0) ∙ z))) refl)

pub field_short : (limit end at v u : ℕ) (s : List ℕ) {r : Option Field} → r ≡ number_of limit (drop at s) → r ≡ number_with v u → 0 < end → length s ≤ at + u
    → None ≡ field_of limit end (drop at s)
field_short limit end at v u s e t p h =
    field_other limit end at v u s e t (λ z. let d = get_or-eq_default s 0 h in omega arith)

-- a field further on
pub further : (limit end at a : ℕ) (s : List ℕ) {r : Option Field} → r ≡ field_of limit end (drop (at + a) s) → r ≡ field_of limit end (drop a (drop at s))
further limit end at a s e = e ∙ ap (field_of limit end) (sym (drop-drop a at s))
