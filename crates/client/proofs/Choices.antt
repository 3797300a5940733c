-- What each return of a test gives: a branch and the `pick` that it answers. Assumes nothing.
use Rattle.std.specs.Prelude.{Err}
use Rattle.frame.specs.Refusals.{Verdict, fine}
use Prim.Native.Nat.{ℕ, ◌≤◌, ◌<◌}
use mathlib.Core.Bool.{Bool, true, false, not, ◌&&◌}
use mathlib.Core.Path.{◌≡◌, sym, ◌∙◌}
use lib.Dec.{eqb, leb, ltb}
use borrow.Author.Tests.{eq-eqb, ne_eqb, le-leb, lt-leb, le-ltb, not-true, not-false}
use Rattle.area.specs.Area.{pick}
use Rattle.blocks.specs.declared.Params.{Params}
use Rattle.frame.specs.declared.Refusal.{Refusal}
use Rattle.frame.specs.declared.Refusal.TheVariants as R
use Rattle.frame.specs.Chunks.{rows_bytes}
use Rattle.client_rules.specs.Tests.{send_room, room_test, awaited}

-- ---- a test under a negation

module _ (b t : Bool) (r : Refusal) (p : b ≡ t) where
  pub stop_unless : (v : Verdict) → not b ≡ true → Err r ≡ pick (not t) (Err r) v
  unfolding pick
  stop_unless v q = let e : t ≡ false = sym p ∙ not-true b q in rw e

  pub go_if : (v w : Verdict) → not b ≡ false → w ≡ v → w ≡ pick (not t) (Err r) v
  unfolding pick
  go_if v w q d = let e : t ≡ true = sym p ∙ not-false b q in rw e d

  -- ---- a test that counts only where another holds

  pub pass_unless : (e : Bool) → not b ≡ true → fine ≡ pick (t && e) (Err r) fine
  unfolding pick
  pass_unless e q = let d : t ≡ false = sym p ∙ not-true b q in rw d

  pub stop_differs : (m n : ℕ) → not b ≡ false → (m ≡ n → ⊥) → Err r ≡ pick (t && not (eqb m n)) (Err r) fine
  unfolding pick
  stop_differs m n q h =
      let d : t ≡ true = sym p ∙ not-false b q in
      let f : eqb m n ≡ false = ne_eqb m n h in
      rw (d, f)

  pub pass_same : (m n : ℕ) → not b ≡ false → m ≡ n → fine ≡ pick (t && not (eqb m n)) (Err r) fine
  unfolding pick
  pass_same m n q h =
      let d : t ≡ true = sym p ∙ not-false b q in
      let f : eqb m n ≡ true = eq-eqb m n h in
      rw (d, f)

-- ---- a number against a bound

pub stop_from : (m n : ℕ) (r : Refusal) → m ≤ n → Err r ≡ pick (leb m n) (Err r) fine
unfolding pick
stop_from m n r h = let e : leb m n ≡ true = le-leb _ _ h in rw e

pub pass_below : (m n : ℕ) (r : Refusal) → n < m → fine ≡ pick (leb m n) (Err r) fine
unfolding pick
pass_below m n r h = let e : leb m n ≡ false = lt-leb _ _ h in rw e

-- ---- refusal 12

module _ (f : Bool) where
  pub late_phase : (x : Bool) → not f ≡ true → Err R.Stale ≡ awaited (f && x)
  unfolding awaited pick
  late_phase x q = let e : f ≡ false = not-true f q in rw e

  module _ (q l : ℕ) (a : Bool) (k : not f ≡ false) where
    pub late_number : (q ≡ l → ⊥) → Err R.Stale ≡ awaited (f && (eqb q l && not a))
    unfolding awaited pick
    late_number h =
        let e : f ≡ true = not-false f k in
        let d : eqb q l ≡ false = ne_eqb q l h in
        rw (e, d)

    pub late_again : q ≡ l → a ≡ true → Err R.Stale ≡ awaited (f && (eqb q l && not a))
    unfolding awaited pick
    late_again h z =
        let e : f ≡ true = not-false f k in
        let d : eqb q l ≡ true = eq-eqb q l h in
        rw (e, d, z)

    pub in_time : q ≡ l → a ≡ false → fine ≡ awaited (f && (eqb q l && not a))
    unfolding awaited pick
    in_time h z =
        let e : f ≡ true = not-false f k in
        let d : eqb q l ≡ true = eq-eqb q l h in
        rw (e, d, z)

-- ---- refusal 10

pub room_rest : (g : Params) (area result out to : ℕ) (v : Verdict) → rows_bytes ≤ area → g.size ≤ result → v ≡ send_room g out to
    → v ≡ room_test g area result out to
unfolding room_test pick
room_rest g area result out to v h i e =
    let d : ltb area rows_bytes ≡ false = le-ltb _ _ h in
    let f : ltb result g.size ≡ false = le-ltb _ _ i in
    rw (d, f) e
