-- What the tests of the parameters leave: their bounds. Assumes nothing.
use Rattle.std.specs.Prelude.{Err}
use Prim.Native.Nat.{ℕ, ◌≤◌}
use native.Mathlib.Omega.{arith}
use mathlib.Core.Bool.{Bool, true, false, not}
use mathlib.Core.Path.{◌≡◌, sym, ◌∙◌}
use lib.Dec.{ltb}
use borrow.Author.Tests.{ltb-false, not-true, not-false}
use Rattle.area.specs.Area.{pick}
use Rattle.blocks.specs.declared.Params.{Params}
use Rattle.blocks.specs.Params.{parties_fit, threshold_fits, length_fits}
use Rattle.blocks.proofs.Parameters.{parties_facts, threshold_facts, length_facts}
use Rattle.frame.specs.declared.Refusal.{Refusal}
use Rattle.frame.specs.declared.Refusal.TheVariants as R
use Rattle.frame.specs.Refusals.{and_then, Verdict, fine}
use Rattle.frame.specs.Params.{own_test, code_test, bounds_test, params_test, Bounded}
use Rattle.frame.proofs.Verdicts.{fine_not, fine_is, fine_both}

-- ---- what is known where the tests find nothing

bounded_by : (g : Params) → parties_fit g.n g.t ≡ true → code_test g ≡ fine → Bounded g
unfolding code_test
bounded_by g p q =
    let a = fine_is (threshold_fits g.n g.t g.k) R.Threshold _ q in
    let b = fine_is (length_fits g.size) R.Length _ a.1 in
    let x = parties_facts g.n g.t p in
    let y = threshold_facts g.n g.t g.k a.0 in
    let z = length_facts g.size b.0 in
    record {
      servers_low = x.0;
      servers_high = x.1;
      faults_low = x.2;
      faults_high = omega (arith, x.3);
      blocks_low = y.0;
      blocks_high = omega (arith, x.3, y.1);
      size_low = z.0;
      size_high = z.1;
    }

pub bounded_of : (g : Params) → bounds_test g ≡ fine → Bounded g
unfolding bounds_test
bounded_of g e = let a = fine_is (parties_fit g.n g.t) R.Parties _ e in bounded_by g a.0 a.1

-- within bounds, and party me of parties 1 to most
pub record Admitted (g : Params) (me most : ℕ) : Type 0 where
  pub bounded : Bounded g
  pub own_low : 1 ≤ me
  pub own_high : me ≤ most

pub admitted_of : (g : Params) (me most : ℕ) → params_test g me most ≡ fine → Admitted g me most
unfolding params_test own_test
admitted_of g me most e =
    let a = fine_is (parties_fit g.n g.t) R.Parties _ e in
    let b = fine_both (own_test me most) (code_test g) a.1 in
    let c = fine_not (ltb me 1) R.Parties _ b.0 in
    let d = fine_not (ltb most me) R.Parties _ c.1 in
    record { bounded = bounded_by g a.0 b.1; own_low = ltb-false _ _ c.0; own_high = ltb-false _ _ d.0 }

-- ---- where the chain of tests stops: each law is one return of the code

pub stop_not : (b t : Bool) (r : Refusal) (v : Verdict) → b ≡ t → not b ≡ true → Err r ≡ pick t v (Err r)
unfolding pick
stop_not b t r v p q = let e : t ≡ false = sym p ∙ not-true b q in rw e

pub go_on : (b t : Bool) (r : Refusal) (v w : Verdict) → b ≡ t → not b ≡ false → w ≡ v → w ≡ pick t v (Err r)
unfolding pick
go_on b t r v w p q e = let d : t ≡ true = sym p ∙ not-false b q in rw d e

pub stop_first : (a b v : Verdict) (r : Refusal) → v ≡ a → v ≡ Err r → Err r ≡ and_then a b
stop_first a b v r p q = let e : a ≡ Err r = sym p ∙ q in rw e

pub go_second : (a b v w : Verdict) → v ≡ a → v ≡ fine → w ≡ b → w ≡ and_then a b
go_second a b v w p q e = let d : a ≡ fine = sym p ∙ q in rw d e
