-- The outcome of making a fresh server, its record being lent as bytes. Assumes nothing.
use Rattle.std.specs.Prelude.{Ok, Err}
use Prim.Native.Nat.{ℕ, ◌≤◌, ◌<◌}
use native.Mathlib.Omega.{arith}
use native.Mathlib.Decide.{dec_lt}
use mathlib.Core.Path.{◌≡◌, refl, sym, ap, ap₂, ◌∙◌}
use mathlib.Core.Bool.{Bool, true, false, not}
use mathlib.Core.List.{List}
use lib.ListN.{length}
use lib.Dec.{ltb, eqb}
use borrow.Author.Tests.{ltb-false, lt-ltb, le-ltb, eq-eqb, ne_eqb}
use Rattle.area.specs.Area.{pick}
use Rattle.area.specs.Responses.{Response, turned_down, is_turned_down}
use Rattle.sha256.specs.Hash.{digest_of}
use Rattle.blocks.specs.declared.Params.{Params}
use Rattle.frame.specs.declared.Refusal.{Refusal}
use Rattle.frame.specs.declared.Refusal.TheVariants as R
use Rattle.frame.specs.Refusals.{number_of, answered_by, and_then, refused, Verdict, fine}
use Rattle.frame.specs.Params.{Bounded, params_test}
use Rattle.frame.proofs.Verdicts.{fine_not, fine_both}
use Rattle.frame.proofs.Within.{Admitted, admitted_of, stop_first, go_second}
use Rattle.quorum.proofs.Logic.{impossible}
use Rattle.client_rules.specs.Beginning.{length_test}
use Rattle.server_rules.specs.declared.Server.{Server}
use Rattle.server_rules.specs.Delivery.{Constructed, construct_test, construct_by, construction}
use Rattle.layout.specs.Left.{left_by}
use Rattle.layout.specs.Servers.{server_size}
use Rattle.server_deliver.specs.Handed.{fresh_test}
use Rattle.server_deliver.specs.Records.{fresh_after, byte_constructed, constructed_at, short_fresh, byte_construction}

-- ---- the tests

module _ (g : Params) (me v state : ℕ) (p : Verdict) (e : p ≡ params_test g me g.n) where
  pub params_bad : (r : Refusal) → p ≡ Err r → Err r ≡ fresh_test g me v state
  unfolding fresh_test
  params_bad r f = stop_first _ _ p r e f

  pub length_bad : p ≡ fine → (v ≡ g.size → ⊥) → Err R.Length ≡ fresh_test g me v state
  unfolding fresh_test length_test pick
  length_bad f n = go_second _ _ p _ e f (rw (ne_eqb _ _ n))

  pub record_short : p ≡ fine → v ≡ g.size → state < server_size → Err R.Room ≡ fresh_test g me v state
  unfolding fresh_test length_test pick
  record_short f l h = go_second _ _ p _ e f (rw (eq-eqb _ _ l, lt-ltb _ _ h))

  pub all_fine : p ≡ fine → v ≡ g.size → server_size ≤ state → fine ≡ fresh_test g me v state
  unfolding fresh_test length_test pick
  all_fine f l h = go_second _ _ p _ e f (rw (eq-eqb _ _ l, le-ltb _ _ h))

-- what holds where the tests are passed
pub fine_fresh : (g : Params) (me v state : ℕ) (t : Verdict) → t ≡ fresh_test g me v state → t ≡ fine → Admitted g me g.n × (server_size ≤ state)
unfolding fresh_test
fine_fresh g me v state t e f =
    let A = fine_both (params_test g me g.n) _ (sym e ∙ f) in
    let B = fine_both (length_test g v) _ A.1 in
    (admitted_of g me g.n A.0, ltb-false _ _ (fine_not (ltb state server_size) R.Room _ B.1).0)

-- ---- the outcome

module _ (g : Params) (me : ℕ) (value area initial state : List ℕ) where
  short_made : length state < server_size
      → byte_constructed (short_fresh g me (length value)) area initial state ≡ byte_construction digest_of g me value area initial state
  unfolding byte_construction pick
  short_made h = rw (lt-ltb _ _ h)

  pub whole_made : server_size ≤ length state
      → constructed_at (construction digest_of g me value area initial) state ≡ byte_construction digest_of g me value area initial state
  unfolding byte_construction pick
  whole_made h = rw (le-ltb _ _ h)

  -- where the record's area is long enough, the first refusal is the constructor's
  same_by : (p : Verdict) (b : Bool) (r : Refusal) (q : Verdict) → and_then p (and_then (pick b fine (refused 3)) fine) ≡ Err r
      → and_then p (pick (not b) (refused 3) q) ≡ Err r
  unfolding pick
  same_by (Err s) b r q e = e
  same_by (Ok _) true r q e = impossible (cc e)
  same_by (Ok _) false r q e = e

  pub same_refusal : server_size ≤ length state → (r : Refusal) → fresh_test g me (length value) (length state) ≡ Err r
      → construct_test digest_of g me value (length area) (length initial) ≡ Err r
  unfolding fresh_test length_test construct_test pick
  same_refusal h r e = same_by (params_test g me g.n) (eqb (length value) g.size) r _ (rw (le-ltb _ _ h) at e)

  -- where it is short, refusals with a lower number than 10 come first
  pub short_refusal : length state < server_size → (r : Refusal) → fresh_test g me (length value) (length state) ≡ Err r
      → and_then (params_test g me g.n) (and_then (length_test g (length value)) (refused 10)) ≡ Err r
  unfolding fresh_test pick
  short_refusal h r e = rw (lt-ltb _ _ h) at e

  short_refused : length state < server_size → (r : Refusal) → fresh_test g me (length value) (length state) ≡ Err r
      → byte_constructed (turned_down (number_of r)) area initial state ≡ byte_construction digest_of g me value area initial state
  unfolding short_fresh
  short_refused h r e = ap (λ (v : Verdict). byte_constructed (answered_by v 0) area initial state) (sym (short_refusal h r e)) ∙ short_made h

  whole_refused : server_size ≤ length state → (r : Refusal) → construct_test digest_of g me value (length area) (length initial) ≡ Err r
      → byte_constructed (turned_down (number_of r)) area initial state ≡ byte_construction digest_of g me value area initial state
  unfolding construction construct_by constructed_at fresh_after left_by is_turned_down pick
  whole_refused h r e =
      sym (ap (λ (v : Verdict). constructed_at (construct_by digest_of g me v value area initial) state) e) ∙ whole_made h

  module _ (t : Verdict) (e : t ≡ fresh_test g me (length value) (length state)) where
    pub fresh_refused : (r : Refusal) → t ≡ Err r
        → byte_constructed (turned_down (number_of r)) area initial state ≡ byte_construction digest_of g me value area initial state
    fresh_refused r f = go (dec_lt (length state) server_size)
      where
        go : Dec (length state < server_size) → byte_constructed (turned_down (number_of r)) area initial state
            ≡ byte_construction digest_of g me value area initial state
        go (yes h) = short_refused h r (sym e ∙ f)
        go (no h) = let l : server_size ≤ length state = omega (arith, h) in whole_refused l r (same_refusal l r (sym e ∙ f))

  pub fresh_done : server_size ≤ length state → (r : Server) (a b : Response ℕ) (ar i st : List ℕ) → b ≡ a
      → ◌≡◌ {A = Constructed} (record { reply = a; server = r; area = ar; initial = i }) (construction digest_of g me value area initial)
      → st ≡ fresh_after b r state → byte_constructed a ar i st ≡ byte_construction digest_of g me value area initial state
  unfolding constructed_at
  fresh_done h r a b ar i st q e k =
      ap (byte_constructed a ar i) (k ∙ ap (λ z. fresh_after z r state) q) ∙ ap (λ z. constructed_at z state) e ∙ whole_made h
