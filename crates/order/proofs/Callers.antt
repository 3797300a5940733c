-- Precedence for two callers (`precedence`), and that what precedes ends no later than the other starts (`precedes_le`). Assumes nothing.
use mathlib.Core.Path.{◌≡◌, sym}
use mathlib.Core.Bool.{true}
use mathlib.Core.Logic.{⊎_elim}
use Prim.Native.Nat.{◌≤◌}
use native.Mathlib.Omega.{arith}
use lib.Dec.{eqb, ltb, leb}
use borrow.Author.Tests.{ltb-true, ltb-false, eqb-true, eqb-false, le-leb, lt-leb, eq-eqb, ne_eqb}
use Rattle.area.specs.Area.{pick}
use Rattle.area.proofs.Tests.{pick_case, pick_is}
use Rattle.order.specs.Operations.{same_caller, precedes}
use Rattle.order.specs.Callers.{Precedence}
use Rattle.order.specs.declared.operation.Operation.{Operation}
use Rattle.order.proofs.Lists.{by_test}
use Rattle.order.proofs.StampLaws.{false_true, strict}

pub precedes_le : (a b : Operation) → precedes a b ≡ true → a.end ≤ b.start
unfolding precedes
precedes_le a b h =
    ⊎_elim
    (λ p. let l = ltb-true a.end b.start p.0 in omega arith)
    (λ p. let q = pick_is _ _ _ _ false_true p.1 in let e = eqb-true a.end b.start q.0 in omega arith)
    (pick_case _ _ _ _ h)

-- ---- each case by its tests

earlier_unknown : (a b : Operation) → a.caller ≡ 0 → precedes a b ≡ ltb a.end b.start
unfolding precedes same_caller pick
earlier_unknown a b e =
    by_test (ltb a.end b.start) (λ t. simp t) (λ t. by_test (eqb a.end b.start) (λ u. simp (t, u, e)) (λ u. simp (t, u)))

later_unknown : (a b : Operation) → b.caller ≡ 0 → precedes a b ≡ ltb a.end b.start
unfolding precedes same_caller pick
later_unknown a b e =
    by_test (ltb a.end b.start) (λ t. simp t) (λ t. by_test (eqb a.end b.start)
    (λ u. by_test (eqb a.caller 0) (λ z. simp (t, u, e, z)) (λ z. simp (t, u, e, z)))
    (λ u. simp (t, u)))

others : (a b : Operation) → (a.caller ≡ b.caller → ⊥) → precedes a b ≡ ltb a.end b.start
unfolding precedes same_caller pick
others a b n =
    by_test (ltb a.end b.start) (λ t. simp t) (λ t. by_test (eqb a.end b.start)
    (λ u. let d = ne_eqb a.caller b.caller n in by_test (eqb a.caller 0) (λ z. simp (t, u, d, z)) (λ z. simp (t, u, d, z)))
    (λ u. simp (t, u)))

one : (a b : Operation) → a.caller ≡ b.caller → (a.caller ≡ 0 → ⊥) → precedes a b ≡ leb a.end b.start
unfolding precedes same_caller pick
one a b e n =
    let known = ne_eqb a.caller 0 n in
    let equal = eq-eqb a.caller b.caller e in
    by_test (ltb a.end b.start)
    (λ t. let h = ltb-true a.end b.start t in let l = le-leb a.end b.start (omega arith) in simp (t, l))
    (λ t. let h = ltb-false a.end b.start t in
    by_test (eqb a.end b.start)
    (λ u. let g = eqb-true a.end b.start u in let l = le-leb a.end b.start (omega arith) in simp (t, u, known, equal, l))
    (λ u. let l = lt-leb a.end b.start (strict _ _ h (λ z. eqb-false a.end b.start u (sym z))) in simp (t, u, l)))

pub precedence : Precedence
precedence = record {
  unknown_caller = λ a b. ⊎_elim (earlier_unknown a b) (later_unknown a b);
  other_caller = others;
  same_caller_lem = one;
}
