-- In a finished run all honest servers hold one present stamp, or C. Each holds the initial one or that of a write that it accepted; by totality each other one
-- accepted that write too, and holds no smaller stamp. Equal keys are equal stamps. Assumes nothing.
use Prim.Native.Nat.{ℕ, ◌≤◌, ◌<◌}
use native.Mathlib.Omega.{arith}
use mathlib.Core.Path.{◌≡◌, ap, sym, ◌∙◌}
use mathlib.Core.Logic.{◌⊎◌, inl, inr, ⊎_elim}
use mathlib.Core.List.{List}
use Rattle.service.specs.Final as S
use Rattle.service.specs.Final.{Protocol}
use Rattle.service.proofs.Total as T

module _ {K P : Type 0} (Q : Protocol K P) {ks : List K} {C : Type 0} (E : S.Ended Q ks C) where
  open Q.views use {Accepted}

  abbrev Honest : ℕ → Type 0
  Honest = S.Correct Q

  -- `present j` is the stamp that server j holds, `stamped x c s` that of client c's write s with x
  module _ {S : Type 0} (key : S → ℕ) (initial : S) (stamped : P → ℕ → ℕ → S) (present : ℕ → S) where
    abbrev pub Holds : ℕ → Type 0
    Holds j = (present j ≡ initial) ⊎ ((c s : ℕ) × (x : P) × Accepted ks j c s x × (present j ≡ stamped x c s))

    -- A server holds no smaller stamp than one that it accepted. Of those that are accepted, stamps of one key are of one write, and the initial key is
    -- the least.
    module _ (holds : (j : ℕ) → Honest j → Holds j)
        (above : (j c s : ℕ) (x : P) → Honest j → Accepted ks j c s x → key (stamped x c s) ≤ key (present j))
        (apart : (i j c s d p : ℕ) (x y : P) → Honest i → Honest j → Accepted ks i c s x → Accepted ks j d p y → key (stamped x c s) ≡ key (stamped y d p)
        → (c ≡ d) × (s ≡ p))
        (least : (j c s : ℕ) (x : P) → Honest j → Accepted ks j c s x → key initial < key (stamped x c s)) where
      initial_below : (j : ℕ) → Honest j → Holds j → key initial ≤ key (present j)
      initial_below j h (inl e) = omega (arith, ap key e)
      initial_below j h (inr (c, s, x, u, e)) = omega (arith, ap key e, least j c s x h u)

      not_above : (i j : ℕ) → Honest i → Honest j → Holds i → Holds j → (key (present i) ≤ key (present j)) ⊎ C
      not_above i j hi hj (inl e) w = inl (omega (arith, ap key e, initial_below j hj w))
      not_above i j hi hj (inr (c, s, x, u, e)) w = ⊎_elim
          (λ f. inl (omega (arith, ap key e, above j c s x hj (f j hj))))
          (λ z. inr z)
          (T.accepted_by_all Q E i c s x hi u)

      same_key : (i j : ℕ) → Honest i → Honest j → Holds i → Holds j → key (present i) ≡ key (present j) → present i ≡ present j
      same_key i j hi hj (inl a) (inl b) e = a ∙ sym b
      same_key i j hi hj (inl a) (inr (c, s, x, u, b)) e = absurd (omega (arith, e, ap key a, ap key b, least j c s x hj u))
      same_key i j hi hj (inr (c, s, x, u, a)) (inl b) e = absurd (omega (arith, e, ap key a, ap key b, least i c s x hi u))
      same_key i j hi hj (inr (c, s, x, u, a)) (inr (d, p, y, v, b)) e =
          let w = apart i j c s d p x y hi hj u v (sym (ap key a) ∙ e ∙ ap key b) in
          let same : x ≡ y = T.one_accepted Q E i j c s x y u (rw (w.0, w.1) v) in
          cc (a, b, w.0, w.1, same)

      pub one_present : (i j : ℕ) → Honest i → Honest j → (present i ≡ present j) ⊎ C
      one_present i j hi hj = go (not_above i j hi hj (holds i hi) (holds j hj)) (not_above j i hj hi (holds j hj) (holds i hi))
        where
          go : (key (present i) ≤ key (present j)) ⊎ C → (key (present j) ≤ key (present i)) ⊎ C → (present i ≡ present j) ⊎ C
          go (inl a) (inl b) = inl (same_key i j hi hj (holds i hi) (holds j hj) (omega arith))
          go (inl a) (inr z) = inr z
          go (inr z) b = inr z
