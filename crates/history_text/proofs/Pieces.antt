-- Texts in pieces: joined they are the text again (`join_split`), and pieces without the byte between them are those of the joined text (`split_join`).
-- Assumes nothing.
use mathlib.Core.Path.{◌≡◌, refl, sym, ap, ◌∙◌}
use mathlib.Core.List.{List, [], ◌∷◌, ◌++◌}
use Prim.Native.Nat.{ℕ}
use lib.Dec.{eqb}
use borrow.Author.Tests.{eqb-true, eqb-false, eq-eqb, ne_eqb}
use Rattle.order.proofs.Picks.{pick_yes, pick_no}
use Rattle.order.proofs.Lists.{by_test}
use Rattle.history_text.specs.Lines.{longer, split}
use Rattle.history_text.specs.Printed.{join}

-- ---- one byte

split_none : (c : ℕ) → split c [] ≡ [] ∷ []
unfolding split
split_none c = refl

split_here : (c x : ℕ) (t : List ℕ) → x ≡ c → split c (x ∷ t) ≡ [] ∷ split c t
unfolding split
split_here c x t e = sym (pick_yes _ _ _ refl (eq-eqb x c e) refl)

split_on : (c x : ℕ) (t : List ℕ) → (x ≡ c → ⊥) → split c (x ∷ t) ≡ longer x (split c t)
unfolding split
split_on c x t n = sym (pick_no _ _ _ refl (ne_eqb x c n) refl)

longer_cons : (x : ℕ) (p : List ℕ) (ps : List (List ℕ)) → longer x (p ∷ ps) ≡ (x ∷ p) ∷ ps
unfolding longer
longer_cons x p ps = refl

-- there is a first piece
pub record Pieces (l : List (List ℕ)) : Type 0 where
  pub first : List ℕ
  pub others : List (List ℕ)
  pub is : l ≡ first ∷ others

by_equal : {X : Type 0} (x c : ℕ) → (x ≡ c → X) → ((x ≡ c → ⊥) → X) → X
by_equal x c f g = by_test (eqb x c) (λ t. f (eqb-true x c t)) (λ t. g (eqb-false x c t))

pub pieces : (c : ℕ) (t : List ℕ) → Pieces (split c t)
pieces c [] = record { first = []; others = []; is = split_none c }
pieces c (x ∷ t) =
    by_equal x c
    (λ e. record { first = []; others = split c t; is = split_here c x t e })
    (λ n. let w = pieces c t in
    record { first = x ∷ w.first; others = w.others; is = split_on c x t n ∙ ap (longer x) w.is ∙ longer_cons x w.first w.others })

-- ---- joined again

pub join_more : (c : ℕ) (p q : List ℕ) (ps : List (List ℕ)) → join c (p ∷ q ∷ ps) ≡ p ++ c ∷ join c (q ∷ ps)
unfolding join
join_more c p q ps = refl

pub join_one : (c : ℕ) (p : List ℕ) → join c (p ∷ []) ≡ p
unfolding join
join_one c p = refl

join_longer : (c x : ℕ) (p : List ℕ) (ps : List (List ℕ)) → join c ((x ∷ p) ∷ ps) ≡ x ∷ join c (p ∷ ps)
join_longer c x p [] = join_one c (x ∷ p) ∙ ap (λ l. x ∷ l) (sym (join_one c p))
join_longer c x p (q ∷ ps) = join_more c (x ∷ p) q ps ∙ ap (λ l. x ∷ l) (sym (join_more c p q ps))

pub join_split : (c : ℕ) (t : List ℕ) → join c (split c t) ≡ t
join_split c [] = ap (join c) (split_none c) ∙ join_one c []
join_split c (x ∷ t) =
    let w = pieces c t in
    by_equal x c
    (λ e. ap (join c) (split_here c x t e ∙ ap (λ l. [] ∷ l) w.is) ∙ join_more c [] w.first w.others
    ∙ ap (λ l. c ∷ join c l) (sym w.is) ∙ ap (λ l. c ∷ l) (join_split c t) ∙ ap (λ y. y ∷ t) (sym e))
    (λ n. ap (join c) (split_on c x t n ∙ ap (longer x) w.is ∙ longer_cons x w.first w.others) ∙ join_longer c x w.first w.others
    ∙ ap (λ l. x ∷ join c l) (sym w.is) ∙ ap (λ l. x ∷ l) (join_split c t))

-- ---- pieces without the byte

abbrev pub Free : ℕ → List ℕ → Type 0
Free c [] = Unit {0}
Free c (x ∷ p) = (x ≡ c → ⊥) × Free c p

abbrev pub AllFree : ℕ → List (List ℕ) → Type 0
AllFree c [] = Unit {0}
AllFree c (p ∷ ps) = Free c p × AllFree c ps

pub free_append : (c : ℕ) (p q : List ℕ) → Free c p → Free c q → Free c (p ++ q)
free_append c [] q f g = g
free_append c (x ∷ p) q f g = (f.0, free_append c p q f.1 g)

pub split_whole : (c : ℕ) (p : List ℕ) → Free c p → split c p ≡ p ∷ []
split_whole c [] f = split_none c
split_whole c (x ∷ p) f = split_on c x p f.0 ∙ ap (longer x) (split_whole c p f.1) ∙ longer_cons x p []

pub split_ended : (c : ℕ) (p t : List ℕ) → Free c p → split c (p ++ c ∷ t) ≡ p ∷ split c t
split_ended c [] t f = split_here c c t refl
split_ended c (x ∷ p) t f = split_on c x (p ++ c ∷ t) f.0 ∙ ap (longer x) (split_ended c p t f.1) ∙ longer_cons x p (split c t)

pub split_join : (c : ℕ) (p : List ℕ) (ps : List (List ℕ)) → AllFree c (p ∷ ps) → split c (join c (p ∷ ps)) ≡ p ∷ ps
split_join c p [] f = ap (split c) (join_one c p) ∙ split_whole c p f.0
split_join c p (q ∷ ps) f = ap (split c) (join_more c p q ps) ∙ split_ended c p (join c (q ∷ ps)) f.0 ∙ ap (λ l. p ∷ l) (split_join c q ps f.1)

-- a joined text without another byte
pub free_join : (c d : ℕ) (p : List ℕ) (ps : List (List ℕ)) → (c ≡ d → ⊥) → AllFree d (p ∷ ps) → Free d (join c (p ∷ ps))
unfolding join
free_join c d p [] n f = f.0
free_join c d p (q ∷ ps) n f = free_append d p (c ∷ join c (q ∷ ps)) f.0 (n, free_join c d q ps n f.1)
