-- Only written forms are read: what the code reads at the front of a text is what is printed for it (`line_says`). Assumes nothing.
use Rattle.std.proofs.Common.{Option, Some, None}
use Rattle.history_text.specs.ReadNumbers.{number_with}
use Rattle.history_text.specs.ReadLines.{interval_with, stamp_with}
use mathlib.Core.Path.{◌≡◌, refl, sym, ap, ap₂, subst, ◌∙◌}
use mathlib.Core.Bool.{Bool, true, false}
use mathlib.Core.List.{List, [], ◌∷◌, ◌++◌, append_assoc}
use Prim.Native.Nat.{ℕ, ◌+◌, ◌-◌, ◌*◌, ◌^◌, ◌<◌, ◌≤◌}
use native.Mathlib.Omega.{arith}
use lib.Dec.{eqb, ltb}
use lib.ListN.{length, get_or, drop, length-append, get_or-eq_default}
use lib.Seq.{get_or-append_seam, drop-append_seam, drop-drop}
use borrow.Author.Tests.{ltb-true, ltb-false, leb-true, eqb-true, eqb-false}
use Rattle.area.specs.Area.{pick}
use Rattle.area.proofs.Tests.{by_pick, impossible}
use Rattle.order.specs.declared.operation.Operation.{Operation}
use Rattle.order.proofs.Lists.{by_test}
use Rattle.history_text.specs.Decimals.{is_digit, are_digits, value_from, value_of, is_plain, decimal}
use Rattle.history_text.specs.Lines.{widths}
use Rattle.history_text.specs.Printed.{printed, InWidth}
use Rattle.history_text.specs.ReadNumbers.{digit_of, digits_of, number_of, then_value, then_number, field_of}
use Rattle.history_text.specs.ReadLines.{kind_at, interval_of, stamp_of, then_interval, then_stamp, operation_of}
use Rattle.history_text.specs.declared.number.Field.{Field}
use Rattle.history_text.specs.declared.line.Interval.{Interval}
use Rattle.history_text.specs.declared.line.Stamp.{Stamp}
use Rattle.history_text.specs.declared.line.Line.{Line}
use Rattle.history_text.proofs.Laws.{some_value, digits_cons, number_cons}
use Rattle.history_text.proofs.Decimals.{digit_is, is_digit_lem, cons_digits, plain_head, decimal_plain}
use Rattle.history_text.proofs.Shown.{shown, printed_shown}

-- what holds of what follows a part that was read
by_number : {A : Type 0} (P : A → Type 0) (Q : Option Field → Type 0) (f : Option Field) (bad : A) (g : ℕ → ℕ → A) → Q f → P bad → ((v u : ℕ) → Q (number_with v u) → P (g v u))
    → P (then_number f bad g)
unfolding then_number
by_number P Q (Some n) bad g q p h = h n.value n.used q
by_number P Q None bad g q p h = p

by_interval : {A : Type 0} (P : A → Type 0) (Q : Option Interval → Type 0) (f : Option Interval) (bad : A) (g : ℕ → ℕ → ℕ → A) → Q f → P bad
    → ((x y u : ℕ) → Q (interval_with x y u) → P (g x y u)) → P (then_interval f bad g)
unfolding then_interval
by_interval P Q (Some i) bad g q p h = h i.start i.end i.used q
by_interval P Q None bad g q p h = p

by_stamp : {A : Type 0} (P : A → Type 0) (Q : Option Stamp → Type 0) (f : Option Stamp) (bad : A) (g : ℕ → ℕ → ℕ → ℕ → A) → Q f → P bad
    → ((x y w u : ℕ) → Q (stamp_with x y w u) → P (g x y w u)) → P (then_stamp f bad g)
unfolding then_stamp
by_stamp P Q (Some p₁) bad g q p h = h p₁.time p₁.writer p₁.sequence p₁.used q
by_stamp P Q None bad g q p h = p

by_value : {T A : Type 0} (P : A → Type 0) (x : Option T) (o : A) (f : T → A) → P o → ((d : T) → x ≡ Some d → P (f d)) → P (then_value x o f)
unfolding then_value
by_value P (Some d) o f p h = h d refl
by_value P None o f p h = p

-- ---- digits

digit_value : (c d : ℕ) → digit_of c ≡ Some d → (is_digit c ≡ true) × (d ≡ c - 48)
unfolding digit_of pick
digit_value c d e =
    by_test (ltb c 48)
    (λ t. impossible (cc (rw t at e)))
    (λ t. by_test (ltb 57 c)
    (λ u. impossible (cc (rw (t, u) at e)))
    (λ u. (is_digit_lem c (ltb-false c 48 t) (ltb-false 57 c u), let q = rw (t, u) at e in cc)))

-- digits that were read after some that make v: they are at the front of the text
record Behind (limit v u : ℕ) (text : List ℕ) (w n : ℕ) : Type 0 where
  pub field : List ℕ
  pub rest : List ℕ
  pub is : text ≡ field ++ rest
  pub digits : are_digits field ≡ true
  pub value : w ≡ value_from v field
  pub used : n ≡ u + length field
  pub within : v ≤ limit → w ≤ limit

abbrev SaysDigits : ℕ → ℕ → ℕ → List ℕ → Option Field → Type 0
SaysDigits limit v u text (Some n) = Behind limit v u text n.value n.used
SaysDigits limit v u text None = Unit {0}

behind_none : (limit v u : ℕ) (text : List ℕ) → Behind limit v u text v u
unfolding are_digits value_from
behind_none limit v u text = record { field = []; rest = text; is = refl; digits = refl; value = refl; used = omega arith; within = λ h. h }

behind_more : (limit v u c y : ℕ) (text : List ℕ) (f : Option Field) → is_digit c ≡ true → y ≡ c - 48 → v * 10 + y ≤ limit
    → SaysDigits limit (v * 10 + y) (u + 1) text f → SaysDigits limit v u (c ∷ text) f
unfolding value_from
behind_more limit v u c y text (Some n) d e h b =
    let k = b.used in
    record {
      field = c ∷ b.field;
      rest = b.rest;
      is = ap (λ l. c ∷ l) b.is;
      digits = cons_digits c b.field d b.digits;
      value = b.value ∙ ap (λ x. value_from (v * 10 + x) b.field) e;
      used = omega arith;
      within = λ g. b.within h;
    }
behind_more limit v u c y text None d e h b = tt

digits_none : (limit v u : ℕ) → digits_of limit v u [] ≡ number_with v u
unfolding digits_of
digits_none limit v u = refl

digits_say : (limit v u : ℕ) (text : List ℕ) → SaysDigits limit v u text (digits_of limit v u text)
digits_say limit v u [] = subst (SaysDigits limit v u []) (sym (digits_none limit v u)) (behind_none limit v u [])
digits_say limit v u (c ∷ text) =
    let P = SaysDigits limit v u (c ∷ text) in
    subst P (sym (digits_cons limit v u c text))
    (by_value P _ _ _ (behind_none limit v u (c ∷ text))
    (λ y t. let d = digit_value c y t in
    by_pick P _ _ _
    (λ l. behind_more limit v u c y text (digits_of limit (v * 10 + y) (u + 1) text) d.0 d.1 (leb-true _ _ l)
    (digits_say limit (v * 10 + y) (u + 1) text))
    (λ l. tt)))

-- ---- a number

record Front (limit : ℕ) (text : List ℕ) (w n : ℕ) : Type 0 where
  pub field : List ℕ
  pub rest : List ℕ
  pub is : text ≡ field ++ rest
  pub plain : is_plain field ≡ true
  pub value : w ≡ value_of field
  pub used : n ≡ length field
  pub within : w ≤ limit

abbrev SaysNumber : ℕ → List ℕ → Option Field → Type 0
SaysNumber limit text (Some n) = Front limit text n.value n.used
SaysNumber limit text None = Unit {0}

front_zero : (limit c : ℕ) (text : List ℕ) → c ≡ 48 → Front limit (c ∷ text) 0 1
unfolding is_plain is_digit value_of value_from pick
front_zero limit c text e = record { field = 48 ∷ []; rest = text; is = ap (λ x. x ∷ text) e; plain = refl; value = refl; used = refl; within = omega arith }

positive : (c : ℕ) → is_digit c ≡ true → (c ≡ 48 → ⊥) → 49 ≤ c
positive c d n =
    let low = (digit_is c d).low in
    by_test (ltb 48 c) (λ t. ltb-true 48 c t) (λ t. let h = ltb-false 48 c t in absurd (n (omega arith)))

front_digits : (limit c y : ℕ) (text : List ℕ) (f : Option Field) → (c ≡ 48 → ⊥) → is_digit c ≡ true → y ≡ c - 48 → 0 * 10 + y ≤ limit
    → SaysDigits limit (0 * 10 + y) (0 + 1) text f → SaysNumber limit (c ∷ text) f
unfolding value_of value_from
front_digits limit c y text (Some n) z d e h b =
    let k = b.used in
    record {
      field = c ∷ b.field;
      rest = b.rest;
      is = ap (λ l. c ∷ l) b.is;
      plain = plain_head c b.field (positive c d z) (cons_digits c b.field d b.digits);
      value = b.value ∙ ap (λ x. value_from (0 * 10 + x) b.field) e;
      used = omega arith;
      within = b.within h;
    }
front_digits limit c y text None z d e h b = tt

number_none : (limit : ℕ) → number_of limit [] ≡ None
unfolding number_of
number_none limit = refl

number_says : (limit : ℕ) (text : List ℕ) → SaysNumber limit text (number_of limit text)
number_says limit [] = subst (SaysNumber limit []) (sym (number_none limit)) tt
number_says limit (c ∷ text) =
    let P = SaysNumber limit (c ∷ text) in
    subst P (sym (number_cons limit c text))
    (by_pick P _ _ _ (λ t. front_zero limit c text (eqb-true c 48 t))
    (λ z. by_value P _ _ _ tt
    (λ y t. let d = digit_value c y t in
    subst P (some_value _ _ _ y (sym t) refl ∙ sym (digits_cons limit 0 0 c text))
    (by_pick P _ _ _
    (λ l. front_digits limit c y text (digits_of limit (0 * 10 + y) (0 + 1) text) (eqb-false c 48 z) d.0 d.1 (leb-true _ _ l)
    (digits_say limit (0 * 10 + y) (0 + 1) text))
    (λ l. tt)))))

-- ---- a number and the byte after it

abbrev SaysField : ℕ → ℕ → List ℕ → Option Field → Type 0
SaysField limit end text (Some n) = (n.value ≤ limit) × (text ≡ shown n.value end ++ drop n.used text)
SaysField limit end text None = Unit {0}

-- what follows a piece begins with the byte at its end
behind : (f rest : List ℕ) (c : ℕ) → 0 < c → get_or (f ++ rest) (length f) 0 ≡ c → rest ≡ c ∷ drop 1 rest
behind f [] c p e =
    let l = length-append f [] in
    let k : length (f ++ []) ≤ length f = omega arith in
    let d : get_or (f ++ []) (length f) 0 ≡ 0 = get_or-eq_default (f ++ []) 0 k in
    absurd (omega arith)
behind f (x ∷ rest) c p e = ap (λ y. y ∷ rest) (sym (get_or-append_seam f x rest 0) ∙ e)

field_front : (limit end : ℕ) (text : List ℕ) (v u : ℕ) → limit ≤ 18446744073709551615 → 0 < end → Front limit text v u → get_or text u 0 ≡ end
    → SaysField limit end text (number_with v (u + 1))
unfolding shown
field_front limit end text v u l p r e =
    let f = r.field in
    let t = drop 1 r.rest in
    let w = r.within in
    let q : value_of f < 10 ^ 20 = (let x = r.value in omega arith) in
    let s : f ≡ decimal v = decimal_plain f r.plain q ∙ ap decimal (sym r.value) in
    let b : r.rest ≡ end ∷ t = behind f r.rest end p (ap₂ (λ l n. get_or l n 0) (sym r.is) (sym r.used) ∙ e) in
    let whole : text ≡ f ++ end ∷ t = r.is ∙ ap (λ x. f ++ x) b in
    let d : drop (u + 1) text ≡ t =
    ap₂ (λ n l. drop (n + 1) l) r.used whole ∙ sym (drop-drop 1 (length f) (f ++ end ∷ t)) ∙ ap (drop 1) (drop-append_seam f (end ∷ t)) in
    (w, whole ∙ ap (λ x. x ++ end ∷ t) s ∙ sym (append_assoc (decimal v) (end ∷ []) t) ∙ ap (λ x. (decimal v ++ (end ∷ [])) ++ x) (sym d))

field_says : (limit end : ℕ) (text : List ℕ) → limit ≤ 18446744073709551615 → 0 < end → SaysField limit end text (field_of limit end text)
unfolding field_of
field_says limit end text l p =
    by_number (SaysField limit end text) (SaysNumber limit text) (number_of limit text) None _ (number_says limit text) tt
    (λ v u r. by_pick (SaysField limit end text) _ _ _ (λ t. field_front limit end text v u l p r (eqb-true _ _ t)) (λ t. tt))

-- ---- the parts of a line

abbrev SaysInterval : List ℕ → Option Interval → Type 0
SaysInterval text (Some i) = (i.start ≤ 4294967295) × (i.end ≤ 4294967295) × (text ≡ shown i.start 32 ++ (shown i.end 32 ++ drop i.used text))
SaysInterval text None = Unit {0}

interval_says : (text : List ℕ) → SaysInterval text (interval_of text)
unfolding interval_of
interval_says text =
    by_number (SaysInterval text) (SaysField 4294967295 32 text) _ None _ (field_says 4294967295 32 text (omega arith) (omega arith)) tt
    (λ x a p. by_number (SaysInterval text) (SaysField 4294967295 32 (drop a text)) _ None _
    (field_says 4294967295 32 (drop a text) (omega arith) (omega arith)) tt
    (λ y b q. (p.0, q.0, p.1 ∙ ap (λ t. shown x 32 ++ t) (q.1 ∙ ap (λ t. shown y 32 ++ t) (drop-drop b a text)))))

abbrev SaysStamp : List ℕ → Option Stamp → Type 0
SaysStamp text (Some p) =
    (p.time ≤ 18446744073709551615) × (p.writer ≤ 8) × (p.sequence ≤ 4294967295)
    × (text ≡ shown p.time 32 ++ (shown p.writer 32 ++ (shown p.sequence 32 ++ drop p.used text)))
SaysStamp text None = Unit {0}

stamp_says : (text : List ℕ) → SaysStamp text (stamp_of text)
unfolding stamp_of
stamp_says text =
    by_number (SaysStamp text) (SaysField 18446744073709551615 32 text) _ None _ (field_says 18446744073709551615 32 text (omega arith) (omega arith)) tt
    (λ x a p. by_number (SaysStamp text) (SaysField 8 32 (drop a text)) _ None _ (field_says 8 32 (drop a text) (omega arith) (omega arith)) tt
    (λ y b q. by_number (SaysStamp text) (SaysField 4294967295 32 (drop (a + b) text)) _ None _
    (field_says 4294967295 32 (drop (a + b) text) (omega arith) (omega arith)) tt
    (λ w d r. (
      p.0,
      q.0,
      r.0,
      p.1 ∙ ap (λ t. shown x 32 ++ t) (q.1 ∙ ap (λ t. shown y 32 ++ t) (drop-drop b a text ∙ r.1 ∙ ap (λ t. shown w 32 ++ t) (drop-drop d (a + b) text))),
    ))))

-- ---- a line

abbrev pub SaysLine : List ℕ → Option Line → Type 0
SaysLine text (Some l) = InWidth l.operation × (text ≡ printed l.operation ++ drop l.used text)
SaysLine text None = Unit {0}

kind_byte : (c : ℕ) (w : Bool) → kind_at c ≡ Some w → c ≡ pick w 87 82
unfolding kind_at pick
kind_byte c w e =
    by_test (eqb c 82)
    (λ t. let r = rw t at e in let f : w ≡ false = cc in rw f (eqb-true c 82 t))
    (λ t. by_test (eqb c 87)
    (λ u. let r = rw (t, u) at e in let f : w ≡ true = cc in rw f (eqb-true c 87 u))
    (λ u. impossible (cc (rw (t, u) at e))))

front_two : (text : List ℕ) → 2 ≤ length text → text ≡ get_or text 0 0 ∷ get_or text 1 0 ∷ drop 2 text
front_two [] h = absurd (omega arith)
front_two (x ∷ []) h = absurd (omega arith)
front_two (x ∷ y ∷ text) h = refl

pub line_says : (text : List ℕ) → SaysLine text (operation_of text)
unfolding operation_of widths
line_says text =
    let P = SaysLine text in
    by_pick P _ _ _ (λ t. tt)
    (λ t. by_value P _ _ _ tt
    (λ w k. by_pick P _ _ _
    (λ s. by_interval P (SaysInterval (drop 2 text)) _ None _ (interval_says (drop 2 text)) tt
    (λ start end a p. by_stamp P (SaysStamp (drop (2 + a) text)) _ None _ (stamp_says (drop (2 + a) text)) tt
    (λ time writer sequence b q. by_number P (SaysField 8 10 (drop (2 + a + b) text)) _ None _
    (field_says 8 10 (drop (2 + a + b) text) (omega arith) (omega arith)) tt
    (λ caller d r.
    let o : Operation =
    record { write = w; start = start; end = end; time = time; writer = writer; sequence = sequence; caller = caller } in
    let front = front_two text (ltb-false (length text) 2 t) in
    let kind = kind_byte (get_or text 0 0) w k in
    let space = eqb-true (get_or text 1 0) 32 s in (
      (p.0, (p.1, (q.0, (q.1, (q.2, (r.0, tt)))))),
      front
          ∙ ap₂ (λ x y. x ∷ y ∷ drop 2 text) kind space
          ∙ ap (λ l. pick o.write 87 82 ∷ 32 ∷ l)
          (p.2 ∙ ap (λ l. shown start 32 ++ (shown end 32 ++ l))
          (drop-drop a 2 text ∙ q.3 ∙ ap (λ l. shown time 32 ++ (shown writer 32 ++ (shown sequence 32 ++ l)))
          (drop-drop b (2 + a) text ∙ r.1 ∙ ap (λ l. shown caller 10 ++ l) (drop-drop d (2 + a + b) text))))
          ∙ sym (printed_shown o (drop (2 + a + b + d) text)),
    )))))
    (λ s. tt)))
