-- The constructor's tests, and its outcome. Assumes nothing.
use Rattle.std.specs.Prelude.{Ok, Err}
use Rattle.frame.specs.Refusals.{Verdict, fine}
use Prim.Native.Nat.{ℕ, ◌≤◌, ◌<◌}
use mathlib.Core.Path.{◌≡◌, ap, sym, ◌∙◌}
use mathlib.Core.Bool.{not}
use mathlib.Core.List.{List}
use lib.ListN.{length}
use lib.Dec.{ltb, eqb}
use lib.Seq.{sets}
use borrow.Author.Tests.{ltb-false, eqb-true, not-false, lt-ltb, le-ltb, eq-eqb, ne_eqb}
use Rattle.area.specs.Area.{pick}
use Rattle.area.specs.Responses.{gives}
use Rattle.blocks.specs.declared.Params.{Params}
use Rattle.frame.specs.declared.Refusal.{Refusal}
use Rattle.frame.specs.declared.Refusal.TheVariants as R
use Rattle.frame.specs.Params.{width, Bounded, params_test}
use Rattle.frame.specs.Chunks.{area_bytes}
use Rattle.group_rules.specs.Coded.{digests_of, block_at}
use Rattle.frame.proofs.Verdicts.{fine_not, fine_both}
use Rattle.frame.proofs.Within.{admitted_of, stop_first, go_second}
use Rattle.server_rules.specs.declared.Server.{Server}
use Rattle.server_rules.specs.State.{fresh_server}
use Rattle.server_rules.specs.Delivery.{constructed, construct_test, construct_by, construction}

-- ---- where the tests stop

module _ (H : List ℕ → List ℕ) (g : Params) (me : ℕ) (v : List ℕ) (area initial : ℕ) (p : Verdict) (e : p ≡ params_test g me g.n) where
  pub bounds_bad : (r : Refusal) → p ≡ Err r → Err r ≡ construct_test H g me v area initial
  unfolding construct_test
  bounds_bad r f = stop_first _ _ p r e f

  pub length_bad : p ≡ fine → (length v ≡ g.size → ⊥) → Err R.Length ≡ construct_test H g me v area initial
  unfolding construct_test pick
  length_bad f n = go_second _ _ p _ e f (rw (ne_eqb _ _ n))

  pub area_short : p ≡ fine → length v ≡ g.size → area < area_bytes → Err R.Room ≡ construct_test H g me v area initial
  unfolding construct_test pick
  area_short f l a = go_second _ _ p _ e f (rw (eq-eqb _ _ l, lt-ltb _ _ a))

  pub initial_short : (w : ℕ) → p ≡ fine → length v ≡ g.size → area_bytes ≤ area → w ≡ width g → initial < w
      → Err R.Room ≡ construct_test H g me v area initial
  unfolding construct_test pick
  initial_short w f l a k i = go_second _ _ p _ e f (rw (eq-eqb _ _ l, le-ltb _ _ a, ← k, lt-ltb _ _ i))

  pub all_fine : (w : ℕ) → p ≡ fine → length v ≡ g.size → area_bytes ≤ area → w ≡ width g → w ≤ initial → fine ≡ construct_test H g me v area initial
  unfolding construct_test pick
  all_fine w f l a k i = go_second _ _ p _ e f (rw (eq-eqb _ _ l, le-ltb _ _ a, ← k, le-ltb _ _ i))

-- what is known where no test refused it
pub record Sound (g : Params) (value area initial : ℕ) : Type 0 where
  pub bounded : Bounded g
  pub value_is_lem : value ≡ g.size
  pub whole : area_bytes ≤ area
  pub initial_whole : width g ≤ initial

pub sound_of : (H : List ℕ → List ℕ) (g : Params) (me : ℕ) (v : List ℕ) (area initial : ℕ) (u : Verdict) → u ≡ construct_test H g me v area initial → u ≡ fine
    → Sound g (length v) area initial
unfolding construct_test
sound_of H g me v area initial u e f =
    let a = fine_both (params_test g me g.n) _ (sym e ∙ f) in
    let b = fine_not (not (eqb (length v) g.size)) R.Length _ a.1 in
    let c = fine_not (ltb area area_bytes) R.Room _ b.1 in
    let d = fine_not (ltb initial (width g)) R.Room _ c.1 in
    record {
      bounded = (admitted_of g me g.n a.0).bounded;
      value_is_lem = eqb-true _ _ (not-false (eqb (length v) g.size) b.0);
      whole = ltb-false _ _ c.0;
      initial_whole = ltb-false _ _ d.0;
    }

-- ---- the outcome

module _ (H : List ℕ → List ℕ) (g : Params) (me : ℕ) (v a initial : List ℕ) (s : Server) (u : Verdict) (k : s ≡ fresh_server)
    (e : u ≡ construct_test H g me v (length a) (length initial)) where
  pub construct_bad : (r : Refusal) → u ≡ Err r → constructed (record { reply = Err r; server = s }) a initial ≡ construction H g me v a initial
  unfolding construction construct_by
  construct_bad r f =
      ap (λ (z : Server). constructed (record { reply = Err r; server = z }) a initial) k
      ∙ ap (λ (z : Verdict). construct_by H g me z v a initial) (sym f ∙ e)

  pub construct_fine : (a' initial' : List ℕ) → u ≡ fine → a' ≡ sets a 0 (digests_of H g v) → initial' ≡ sets initial 0 (block_at H g v me)
      → constructed (record { reply = Ok 0; server = s }) a' initial' ≡ construction H g me v a initial
  unfolding construction construct_by
  construct_fine a' initial' f p q =
      let z : constructed (record { reply = Ok 0; server = s }) a' initial' ≡ construct_by H g me fine v a initial =
      λ i. record { reply = gives 0; server = k i; area = p i; initial = q i } in
      z ∙ ap (λ (w : Verdict). construct_by H g me w v a initial) (sym f ∙ e)
