-- The returns of the functions that read lines, and a text read line by line. Assumes nothing.
use Rattle.std.proofs.Common.{Option, Some, None}
use Rattle.history_text.specs.ReadNumbers.{number_with}
use Rattle.history_text.specs.ReadLines.{interval_with, stamp_with, line_with}
use mathlib.Core.Path.{◌≡◌, refl, sym, ap, ◌∙◌}
use mathlib.Core.List.{List, [], ◌∷◌}
use Prim.Native.Nat.{ℕ, zero, suc, ◌+◌, ◌-◌, ◌<◌, ◌≤◌}
use native.Mathlib.Omega.{arith}
use lib.ListN.{length, get_or, drop, length-drop}
use lib.Seq.{drop-cons, drop-drop, get_or-drop}
use borrow.Author.Tests.{lt-ltb, le-ltb, eq-eqb, ne_eqb}
use Rattle.order.proofs.Picks.{pick_yes, pick_no}
use Rattle.order.specs.declared.operation.Operation.{Operation}
use Rattle.history_text.specs.Lines.{Lines, Records, Malformed, record_then}
use Rattle.history_text.specs.ReadLines.{kind_at, interval_of, stamp_of, then_interval, then_stamp, operation_of, then_line, lines_read}
use Rattle.history_text.specs.ReadNumbers.{field_of}
use Rattle.history_text.specs.declared.number.Field.{Field}
use Rattle.history_text.proofs.Laws.{some_value, no_value, then_number_lem, then_bad}
use mathlib.Core.Bool.{Bool}
use Rattle.history_text.specs.declared.line.Interval.{Interval}
use Rattle.history_text.specs.declared.line.Stamp.{Stamp}
use Rattle.history_text.specs.declared.line.Line.{Line}

-- ---- what follows a part that was read

pub then_interval_lem : {A : Type 0} (f : Option Interval) (bad : A) (g : ℕ → ℕ → ℕ → A) {r : Option Interval} {z : A} (x y u : ℕ) → r ≡ f → r ≡ interval_with x y u → z ≡ g x y u
    → z ≡ then_interval f bad g
unfolding then_interval
then_interval_lem f bad g x y u e t q = q ∙ ap (λ k. then_interval k bad g) (sym t ∙ e)

pub no_interval : {A : Type 0} (f : Option Interval) (bad : A) (g : ℕ → ℕ → ℕ → A) {r : Option Interval} → r ≡ f → r ≡ None → bad ≡ then_interval f bad g
unfolding then_interval
no_interval f bad g e t = ap (λ k. then_interval k bad g) (sym t ∙ e)

pub then_stamp_lem : {A : Type 0} (f : Option Stamp) (bad : A) (g : ℕ → ℕ → ℕ → ℕ → A) {r : Option Stamp} {z : A} (x y w u : ℕ) → r ≡ f → r ≡ stamp_with x y w u → z ≡ g x y w u
    → z ≡ then_stamp f bad g
unfolding then_stamp
then_stamp_lem f bad g x y w u e t q = q ∙ ap (λ k. then_stamp k bad g) (sym t ∙ e)

pub no_stamp : {A : Type 0} (f : Option Stamp) (bad : A) (g : ℕ → ℕ → ℕ → ℕ → A) {r : Option Stamp} → r ≡ f → r ≡ None → bad ≡ then_stamp f bad g
unfolding then_stamp
no_stamp f bad g e t = ap (λ k. then_stamp k bad g) (sym t ∙ e)

-- ---- a line from index at on

module _ (s : List ℕ) (at : ℕ) where
  first : get_or (drop at s) 0 0 ≡ get_or s at 0
  first = get_or-drop at s 0 0 ∙ ap (λ i. get_or s i 0) (let e : at + 0 ≡ at = omega arith in e)

  room : length (drop at s) ≡ length s - at
  room = length-drop at s

  enough : 2 ≤ length s - at → 2 ≤ length (drop at s)
  enough h = let r = room in omega arith

  pub line_short : length s - at < 2 → None ≡ operation_of (drop at s)
  unfolding operation_of
  line_short h = let k : length (drop at s) < 2 = (let r = room in omega arith) in pick_yes _ _ _ refl (lt-ltb (length (drop at s)) 2 k) refl

  pub line_kind : 2 ≤ length s - at → None ≡ kind_at (get_or s at 0) → None ≡ operation_of (drop at s)
  unfolding operation_of
  line_kind h e =
      pick_no _ _ _ refl (le-ltb (length (drop at s)) 2 (enough h))
      (no_value _ _ _ (e ∙ ap kind_at (sym first)) refl)

  pub line_space : {k : Bool} → 2 ≤ length s - at → Some k ≡ kind_at (get_or s at 0) → (get_or s (at + 1) 0 ≡ 32 → ⊥) → None ≡ operation_of (drop at s)
  unfolding operation_of
  line_space {k} h e n =
      pick_no _ _ _ refl (le-ltb (length (drop at s)) 2 (enough h))
      (some_value _ _ _ k (e ∙ ap kind_at (sym first))
      (pick_no _ _ _ refl (ne_eqb _ _ (λ z. n (sym (get_or-drop at s 1 0) ∙ z))) refl))

  -- the interval, the stamp and the caller that are read
  at_interval : {r : Option Interval} → r ≡ interval_of (drop (at + 2) s) → r ≡ interval_of (drop 2 (drop at s))
  at_interval e = e ∙ ap interval_of (sym (drop-drop 2 at s))

  at_stamp_lem : (a : ℕ) {r : Option Stamp} → r ≡ stamp_of (drop (at + 2 + a) s) → r ≡ stamp_of (drop (2 + a) (drop at s))
  at_stamp_lem a e =
      e ∙ ap (λ i. stamp_of (drop i s)) (let n : at + 2 + a ≡ at + (2 + a) = omega arith in n) ∙ ap stamp_of (sym (drop-drop (2 + a) at s))

  at_caller : (a b : ℕ) {r : Option Field} → r ≡ field_of 8 10 (drop (at + 2 + a + b) s) → r ≡ field_of 8 10 (drop (2 + a + b) (drop at s))
  at_caller a b e =
      e ∙ ap (λ i. field_of 8 10 (drop i s)) (let n : at + 2 + a + b ≡ at + (2 + a + b) = omega arith in n)
      ∙ ap (field_of 8 10) (sym (drop-drop (2 + a + b) at s))

  module _ {k : Bool} (h : 2 ≤ length s - at) (e : Some k ≡ kind_at (get_or s at 0)) (p : get_or s (at + 1) 0 ≡ 32) where
    pub line_interval : {r : Option Interval} → r ≡ interval_of (drop (at + 2) s) → r ≡ None → None ≡ operation_of (drop at s)
    unfolding operation_of
    line_interval q t =
        pick_no _ _ _ refl (le-ltb (length (drop at s)) 2 (enough h))
        (some_value _ _ _ k (e ∙ ap kind_at (sym first))
        (pick_yes _ _ _ refl (eq-eqb _ _ (get_or-drop at s 1 0 ∙ p)) (no_interval _ _ _ (at_interval q) t)))

    pub line_stamp : {r : Option Interval} {v : Option Stamp} (x y a : ℕ) → r ≡ interval_of (drop (at + 2) s) → r ≡ interval_with x y a
        → v ≡ stamp_of (drop (at + 2 + a) s) → v ≡ None → None ≡ operation_of (drop at s)
    unfolding operation_of
    line_stamp x y a q t q₂ t₂ =
        pick_no _ _ _ refl (le-ltb (length (drop at s)) 2 (enough h))
        (some_value _ _ _ k (e ∙ ap kind_at (sym first))
        (pick_yes _ _ _ refl (eq-eqb _ _ (get_or-drop at s 1 0 ∙ p)) (then_interval_lem _ _ _ x y a (at_interval q) t (no_stamp _ _ _ (at_stamp_lem a q₂) t₂))))

    module _ {r : Option Interval} {v : Option Stamp} {f : Option Field} (x y a m w n b : ℕ) (q : r ≡ interval_of (drop (at + 2) s)) (t : r ≡ interval_with x y a)
        (q₂ : v ≡ stamp_of (drop (at + 2 + a) s)) (t₂ : v ≡ stamp_with m w n b) (q₃ : f ≡ field_of 8 10 (drop (at + 2 + a + b) s)) where
      pub line_caller : f ≡ None → None ≡ operation_of (drop at s)
      unfolding operation_of
      line_caller t₃ =
          pick_no _ _ _ refl (le-ltb (length (drop at s)) 2 (enough h))
          (some_value _ _ _ k (e ∙ ap kind_at (sym first))
          (pick_yes _ _ _ refl (eq-eqb _ _ (get_or-drop at s 1 0 ∙ p)) (then_interval_lem _ _ _ x y a (at_interval q) t (then_stamp_lem _ _ _ m w n b (at_stamp_lem a q₂) t₂
          (then_bad _ _ _ (at_caller a b q₃) t₃)))))

      pub line_whole : (i d : ℕ) → f ≡ number_with i d
          → line_with (record { write = k; start = x; end = y; time = m; writer = w; sequence = n; caller = i }) (2 + a + b + d) ≡ operation_of (drop at s)
      unfolding operation_of
      line_whole i d t₃ =
          pick_no _ _ _ refl (le-ltb (length (drop at s)) 2 (enough h))
          (some_value _ _ _ k (e ∙ ap kind_at (sym first))
          (pick_yes _ _ _ refl (eq-eqb _ _ (get_or-drop at s 1 0 ∙ p)) (then_interval_lem _ _ _ x y a (at_interval q) t (then_stamp_lem _ _ _ m w n b (at_stamp_lem a q₂) t₂
          (then_number_lem _ _ _ i d (at_caller a b q₃) t₃
          refl)))))

-- ---- the whole text

pub then_record : (x : Option Line) (bad : Lines) (f : Operation → ℕ → Lines) (a : Operation) (u : ℕ) → x ≡ line_with a u → then_line x bad f ≡ f a u
unfolding then_line
then_record x bad f a u e = ap (λ k. then_line k bad f) e

pub then_none : (x : Option Line) (bad : Lines) (f : Operation → ℕ → Lines) → x ≡ None → then_line x bad f ≡ bad
unfolding then_line
then_none x bad f e = ap (λ k. then_line k bad f) e

lines_cons : (n c : ℕ) (text : List ℕ)
    → lines_read (suc n) (c ∷ text) ≡ then_line (operation_of (c ∷ text)) Malformed (λ a used. record_then a (lines_read n (drop used (c ∷ text))))
unfolding lines_read
lines_cons n c text = refl

pub lines_at : (n at : ℕ) (s : List ℕ) → at < length s
    → lines_read (suc n) (drop at s) ≡ then_line (operation_of (drop at s)) Malformed (λ a used. record_then a (lines_read n (drop used (drop at s))))
lines_at n at s h =
    ap (lines_read (suc n)) (drop-cons s at 0 h) ∙ lines_cons n (get_or s at 0) (drop (suc at) s)
    ∙ ap (λ t. then_line (operation_of t) Malformed (λ a used. record_then a (lines_read n (drop used t)))) (sym (drop-cons s at 0 h))

pub lines_none : (n : ℕ) → lines_read n [] ≡ Records []
unfolding lines_read
lines_none zero = refl
lines_none (suc n) = refl
