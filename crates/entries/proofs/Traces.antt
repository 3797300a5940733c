-- A trace is read from its front: an entry, and then what follows it. Assumes nothing.
use Rattle.std.specs.Prelude.{Ok, Err}
use Prim.Native.Nat.{ℕ, zero, suc, ◌+◌, ◌-◌, ◌≤◌, ◌<◌}
use native.Mathlib.Omega.{arith}
use mathlib.Core.Path.{◌≡◌, refl, sym, ap, ap₂, ◌∙◌}
use mathlib.Core.Option.{Option, none, some}
use mathlib.Core.List.{List, [], ◌∷◌}
use lib.ListN.{length, take, drop, length-drop}
use lib.Seq.{take_all, drop-drop}
use Rattle.area.specs.Responses.{Response, turned_down, gives}
use Rattle.area.specs.Numbers.{be2}
use Rattle.area.proofs.Tests.{impossible}
use Rattle.entries.specs.declared.Closing.{Closing}
use Rattle.entries.specs.declared.Closing.TheVariants as C
use Rattle.entries.specs.declared.Found.{Found}
use Rattle.entries.specs.Entries.{Reading, closing_number, reading_response, reading_of, Trace, closed, before, found_in, then_trace, trace_from, trace_of}
use Rattle.entries.specs.Entries.{surveyed, survey_of}
use Rattle.entries.proofs.Fronts.{Begins, found_at, Unsound, length_low, version_other, class_high, Front, empty, bad, short, one, front}

-- after an entry fewer bytes are left
pub fewer : (l : List ℕ) → Begins l → (m : ℕ) → length l ≤ suc m → length (drop (2 + be2 l 0) l) ≤ m
fewer l B m h = let w = B.whole in let g = B.long in rw length-drop (omega arith)

-- ---- the bound on how many entries may be read does not matter if it is at least the number of bytes

-- two readings agree if they agree on what follows the first entry
pub same_then : (l : List ℕ) (f g : List ℕ → Trace) → (Begins l → f (drop (2 + be2 l 0) l) ≡ g (drop (2 + be2 l 0) l))
    → {r : Response (Option Found)} → Front l r → then_trace r l f ≡ then_trace r l g
unfolding then_trace
same_then l f g e (empty h) = refl
same_then l f g e (bad h) = refl
same_then l f g e (short h s c) = refl
same_then l f g e (one B) = ap (before (found_in l (found_at l) ∷ [])) (e B)

some_bytes : (l : List ℕ) → Unsound l → 0 < length l
some_bytes l (length_low h u) = omega arith
some_bytes l (version_other h u) = omega arith
some_bytes l (class_high h u) = omega arith

no_bytes : (n : ℕ) (l : List ℕ) → length l ≡ 0 → trace_from n l ≡ closed 0
unfolding trace_from then_trace
no_bytes zero l h = refl
no_bytes (suc n) l h = go (front l)
  where
    go : {r : Response (Option Found)} → Front l r → then_trace r l (trace_from n) ≡ closed 0
    go (empty e) = refl
    go (bad u) = absurd (let s = some_bytes l u in omega arith)
    go (short e s c) = absurd (omega arith)
    go (one B) = absurd (let w = B.whole in omega arith)

enough : (m n : ℕ) (l : List ℕ) → length l ≤ m → length l ≤ n → trace_from m l ≡ trace_from n l
unfolding trace_from
enough zero n l a b = sym (no_bytes n l (omega arith))
enough (suc m) zero l a b = no_bytes (suc m) l (omega arith)
enough (suc m) (suc n) l a b = same_then l (trace_from m) (trace_from n) (λ B. enough m n _ (fewer l B m a) (fewer l B n b)) (front l)

-- there are no more entries than bytes
few_from : (m : ℕ) (l : List ℕ) → length (trace_from m l).entries ≤ m
unfolding trace_from then_trace before
few_from zero l = omega arith
few_from (suc m) l = go (reading_of l) (few_from m)
  where
    go : (r : Response (Option Found)) → ((k : List ℕ) → length (trace_from m k).entries ≤ m) → length (then_trace r l (trace_from m)).entries ≤ suc m
    go (turned_down n) f = omega arith
    go (gives none) f = omega arith
    go (gives (some x)) f = omega (arith, f (drop x.end l))

pub few_entries : (l : List ℕ) → length (trace_of l).entries ≤ length l
unfolding trace_of
few_entries l = few_from (length l) l

-- ---- a trace from its front

nothing : (l : List ℕ) → length l ≡ 0 → {r : Response (Option Found)} → Front l r → closed 0 ≡ then_trace r l trace_of
unfolding then_trace
nothing l h (empty e) = refl
nothing l h (bad u) = absurd (let s = some_bytes l u in omega arith)
nothing l h (short e s c) = absurd (omega arith)
nothing l h (one B) = absurd (let w = B.whole in omega arith)

from_front : (m : ℕ) (l : List ℕ) → length l ≤ m → trace_from m l ≡ then_trace (reading_of l) l trace_of
unfolding trace_from trace_of
from_front zero l h = nothing l (omega arith) (front l)
from_front (suc m) l h = same_then l (trace_from m) trace_of (λ B. let d = drop (2 + be2 l 0) l in enough m (length d) d (fewer l B m h) (omega arith)) (front l)

pub trace_more : (l : List ℕ) → trace_of l ≡ then_trace (reading_of l) l trace_of
unfolding trace_of
trace_more l = from_front (length l) l (omega arith)

module _ (l : List ℕ) where
  closed_with_lem : (c : Closing) → then_trace (reading_response (Err c)) l trace_of ≡ closed (closing_number c)
  unfolding then_trace
  closed_with_lem C.Whole = refl
  closed_with_lem C.Malformed = refl
  closed_with_lem C.Cut = refl

  pub trace_closed : (c : Closing) → reading_of l ≡ reading_response (Err c) → trace_of l ≡ closed (closing_number c)
  trace_closed c e = trace_more l ∙ ap (λ r. then_trace r l trace_of) e ∙ closed_with_lem c

  pub trace_entry_lem : (x : Found) → reading_of l ≡ gives (some x) → trace_of l ≡ before (found_in l x ∷ []) (trace_of (drop x.end l))
  unfolding then_trace
  trace_entry_lem x e = trace_more l ∙ ap (λ r. then_trace r l trace_of) e

-- an entry takes at least five bytes, and no more than there are
pub entry_within : (l : List ℕ) (x : Found) → reading_of l ≡ gives (some x) → (5 ≤ x.end) × (x.end ≤ length l)
entry_within l x = go (front l)
  where
    go : {r : Response (Option Found)} → Front l r → r ≡ gives (some x) → (5 ≤ x.end) × (x.end ≤ length l)
    go (empty h) e = impossible (cc e)
    go (bad u) e = impossible (cc e)
    go (short h s c) e = impossible (cc e)
    go (one B) e =
        let i : found_at l ≡ x = cc in
        let k : 2 + be2 l 0 ≡ x.end = ap (λ (y : Found). y.end) i in
        let g = B.long in
        let w = B.whole in
        (omega arith, omega arith)

-- the bytes from index i on, as code lends them
pub lent_rest : (l : List ℕ) (i : ℕ) → take (length l - i) (drop i l) ≡ drop i l
lent_rest l i = take_all (length l - i) (drop i l) (omega (arith, length-drop i l))

-- what the code reads of the bytes from index at on
module _ (trace : List ℕ) (at : ℕ) (r : Reading) (is : reading_response r ≡ reading_of (take (length trace - at) (drop at trace))) where
  read_rest : reading_response r ≡ reading_of (drop at trace)
  read_rest = is ∙ ap reading_of (lent_rest trace at)

  pub rest_closed : (c : Closing) → r ≡ Err c → trace_of (drop at trace) ≡ closed (closing_number c)
  rest_closed c e = trace_closed (drop at trace) c (sym read_rest ∙ ap reading_response e)

  module _ (x : Found) (e : r ≡ Ok x) where
    pub rest_within : (5 ≤ x.end) × (x.end ≤ length trace - at)
    rest_within = let w = entry_within (drop at trace) x (sym read_rest ∙ ap reading_response e) in (w.0, omega (arith, w.1, length-drop at trace))

    -- an entry, and those after it
    pub rest_entry : trace_of (drop at trace) ≡ before (found_in (take (length trace - at) (drop at trace)) x ∷ []) (trace_of (drop (at + x.end) trace))
    rest_entry =
        trace_entry_lem (drop at trace) x (sym read_rest ∙ ap reading_response e)
        ∙ ap₂ (λ l m. before (found_in l x ∷ []) (trace_of m)) (sym (lent_rest trace at)) (drop-drop x.end at trace)

-- ---- counting

-- count entries come before index at, and those that are left are read from there
pub record Counts (trace : List ℕ) (at count : ℕ) : Type 0 where
  pub many : count + length (trace_of (drop at trace)).entries ≡ length (trace_of trace).entries
  pub ends : (trace_of (drop at trace)).closing ≡ (trace_of trace).closing

pub counts_start : (trace : List ℕ) → Counts trace 0 0
counts_start trace = record { many = omega arith; ends = refl }

module _ (trace : List ℕ) (at count : ℕ) (K : Counts trace at count) (r : Reading)
    (is : reading_response r ≡ reading_of (take (length trace - at) (drop at trace))) where
  pub counts_next : (x : Found) → r ≡ Ok x → Counts trace (at + x.end) (count + 1)
  unfolding before
  counts_next x e =
      let t = rest_entry trace at r is x e in
      record { many = omega (arith, ap (λ y. length y.entries) t, K.many); ends = sym (ap (λ y. y.closing) t) ∙ K.ends }

  pub counts_end : (c : Closing) → r ≡ Err c → surveyed (record { count = count; closing = c }) ≡ survey_of (trace_of trace)
  unfolding survey_of
  counts_end c e =
      let t = rest_closed trace at r is c e in
      let m : count ≡ length (trace_of trace).entries = omega (arith, ap (λ y. length y.entries) t, K.many) in
      let d : closing_number c ≡ (trace_of trace).closing = sym (ap (λ y. y.closing) t) ∙ K.ends in
      λ i. record { count = m i; closing = d i }
