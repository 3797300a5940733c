-- What counted frames do to a server's part in a broadcast, and to flags with what lies beside them. Assumes nothing.
use Prim.Native.Nat.{ℕ, ◌≤◌, ◌<◌}
use native.Mathlib.Omega.{arith}
use native.Mathlib.Decide.{dec_le}
use mathlib.Core.Bool.{Bool, true, false, ◌||◌, cond}
use mathlib.Core.Path.{◌≡◌, refl, ap, ◌∙◌}
use mathlib.Core.Logic.{◌⊎◌, inl, inr}
use mathlib.Core.Option.{Option, none, some}
use mathlib.Core.List.{List}
use lib.ListN.{length, get_or, set, length-set, get_or-eq_default}
use lib.Seq.{get_or-set_same, get_or-set_other}
use lib.Dec.{eqb}
use borrow.Author.Tests.{eqb-true, eqb-false}
use Rattle.quorum.proofs.Logic.{impossible}
use Rattle.frame.specs.Messages.{Stage, send, echo, ready}
use Rattle.server_rules.specs.Broadcast.{Rules, Part, kept, due, full}

-- ---- parts

-- f with v at i
abbrev pub put {ℓ} : {A : Type ℓ} → (ℕ → A) → ℕ → A → ℕ → A
put f i v j = cond (eqb j i) v (f j)

pub put_cases {ℓ} : {A : Type ℓ} (f : ℕ → A) (i : ℕ) (v : A) (j : ℕ) → ((j ≡ i) × (put f i v j ≡ v)) ⊎ (put f i v j ≡ f j)
put_cases f i v j = go (eqb j i) refl
  where
    go : (b : Bool) → eqb j i ≡ b → ((j ≡ i) × (cond b v (f j) ≡ v)) ⊎ (cond b v (f j) ≡ f j)
    go true e = inl (eqb-true j i e, refl)
    go false e = inr refl

pub put_same {ℓ} : {A : Type ℓ} (f : ℕ → A) (i : ℕ) (v : A) → put f i v i ≡ v
put_same f i v = go (eqb i i) refl
  where
    go : (b : Bool) → eqb i i ≡ b → cond b v (f i) ≡ v
    go true e = refl
    go false e = absurd (eqb-false i i e refl)

-- the first that is there
abbrev pub first_of : {P : Type 0} → Option P → Option P → Option P
first_of none o = o
first_of (some x) o = some x

module _ {P : Type 0} where
  -- nothing has come
  abbrev pub no_part : Part P
  no_part = record { sent = false; ready = false; echoes = λ j. none; readies = λ j. none; done = none }

  -- the client's own frame came, an echo, a ready of server j
  abbrev pub with_sent : Part P → Part P
  with_sent s = record { sent = true; ready = s.ready; echoes = s.echoes; readies = s.readies; done = s.done }

  abbrev pub with_echo : Part P → ℕ → P → Part P
  with_echo s j x = record { sent = s.sent; ready = s.ready; echoes = put s.echoes j (some x); readies = s.readies; done = s.done }

  abbrev pub with_ready : Part P → ℕ → P → Part P
  with_ready s j x = record { sent = s.sent; ready = s.ready; echoes = s.echoes; readies = put s.readies j (some x); done = s.done }

  -- parts are equal by their fields
  pub same_part : (s s' : Part P) → s.sent ≡ s'.sent → s.ready ≡ s'.ready → ((j : ℕ) → s.echoes j ≡ s'.echoes j)
      → ((j : ℕ) → s.readies j ≡ s'.readies j) → s.done ≡ s'.done → s ≡ s'
  same_part s s' a b e r d i = record { sent = a i; ready = b i; echoes = λ j. e j i; readies = λ j. r j i; done = d i }

-- after a counted echo or ready of x at server i: a ready may go out, and x may be delivered
abbrev pub settled : {P : Type 0} → Rules P → ℕ → ℕ → ℕ → Part P → P → Part P
settled R n t i s x = record {
  sent = s.sent;
  ready = s.ready || due R n t s x;
  echoes = s.echoes;
  readies = s.readies;
  done = first_of s.done (kept (full R n t s x) (R.own i s.echoes s.readies x));
}

-- ---- a counted frame

-- a frame of stage z with x from party j came to the part s
abbrev pub heard : {P : Type 0} → Part P → ℕ → Stage → P → Part P
heard s j send x = with_sent s
heard s j echo x = with_echo s j x
heard s j ready x = with_ready s j x

module _ {P : Type 0} (R : Rules P) (n t i : ℕ) where
  -- and what follows at server i
  abbrev pub counted : Part P → ℕ → Stage → P → Part P
  counted s j send x = with_sent s
  counted s j echo x = settled R n t i (with_echo s j x) x
  counted s j ready x = settled R n t i (with_ready s j x) x

  -- what server i then says to all: an echo of the client's own frame, or a ready that is due
  abbrev pub Says : Part P → ℕ → Stage → P → Stage → P → Type 0
  Says s j send x z p = (z ≡ echo) × (p ≡ x)
  Says s j echo x z p = (z ≡ ready) × (due R n t (with_echo s j x) x ≡ true) × (p ≡ R.own i (with_echo s j x).echoes s.readies x)
  Says s j ready x z p = (z ≡ ready) × (due R n t (with_ready s j x) x ≡ true) × (p ≡ R.own i s.echoes (with_ready s j x).readies x)

-- ---- flags, and what lies beside them

-- with place i set
pub kept_set : {P : Type 0} (fs : List Bool) (f f' : ℕ → P) (i : ℕ) (v : P) → i < length fs → f' i ≡ v → ((j : ℕ) → (j ≡ i → ⊥) → f' j ≡ f j)
    → (j : ℕ) → kept (get_or (set fs i true) j false) (f' j) ≡ put (λ m. kept (get_or fs m false) (f m)) i (some v) j
kept_set fs f f' i v h e o j = go (eqb j i) refl
  where
    go : (b : Bool) → eqb j i ≡ b → kept (get_or (set fs i true) j false) (f' j) ≡ cond b (some v) (kept (get_or fs j false) (f j))
    go true q =
        let w = eqb-true j i q in
        ap (λ z. kept (get_or (set fs i true) z false) (f' z)) w ∙ ap (λ z. kept z (f' i)) (get_or-set_same fs i true false h) ∙ ap some e
    go false q =
        let w = eqb-false j i q in
        ap (λ z. kept z (f' j)) (get_or-set_other fs i j true false w) ∙ ap (kept (get_or fs j false)) (o j w)

-- what lies beside a flag matters only where it is set
pub kept_when : {P : Type 0} (b : Bool) (v w : P) → (b ≡ true → v ≡ w) → kept b v ≡ kept b w
kept_when true v w f = ap some (f refl)
kept_when false v w f = refl

-- eleven flags, of which the first is never set
pub record Flags (l : List Bool) : Type 0 where
  pub many : length l ≡ 11
  pub none_first : get_or l 0 false ≡ false

pub flag_place : (l : List Bool) → Flags l → (m : ℕ) → get_or l m false ≡ true → (1 ≤ m) × (m ≤ 10)
flag_place l F m e = go (dec_le 1 m) (dec_le m 10)
  where
    go : Dec (1 ≤ m) → Dec (m ≤ 10) → (1 ≤ m) × (m ≤ 10)
    go (yes a) (yes b) = (a, b)
    go (no a) b =
        let z : m ≡ 0 = omega (arith, a) in
        impossible (cc (F.none_first, ap (λ y. get_or l y false) z))
    go (yes a) (no b) =
        let z : length l ≤ m = omega (arith, b, F.many) in
        impossible (cc (get_or-eq_default l false z))

pub flags_set : (l : List Bool) → Flags l → (j : ℕ) → 1 ≤ j → Flags (set l j true)
flags_set l F j h = record {
  many = length-set l j true ∙ F.many;
  none_first = get_or-set_other l j 0 true false (λ e. omega (arith, e)) ∙ F.none_first;
}
