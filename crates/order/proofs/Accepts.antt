-- What is known of the operations of a history that is not refused, and that an order leaves no offending pair (`order_no_pair`). Assumes nothing.
use mathlib.Core.Path.{◌≡◌, refl, sym, ap, ap₂, ◌∙◌}
use mathlib.Core.Bool.{true, false}
use mathlib.Core.List.{List}
use mathlib.Core.Logic.{⊎_elim}
use Prim.Native.Nat.{ℕ, suc, ◌-◌, ◌<◌, ◌≤◌}
use native.Mathlib.Omega.{arith}
use lib.ListN.{length, get_or}
use borrow.Author.Tests.{ltb-false, leb-false, eqb-false}
use Rattle.area.proofs.Tests.{pick_case, pick_is, pick_not}
use Rattle.area.specs.Area.{count}
use Rattle.order.specs.Operations.{less, stamp, precedes, stands_after, offends}
use Rattle.order.specs.Histories.{place, writes, writings, malformed, unlisted, no_operation}
use Rattle.order.specs.Orders.{Line, in_line, in_place, Order, HasOrder, NoPair, Accepted}
use Rattle.order.specs.declared.operation.Operation.{Operation}
use Rattle.order.proofs.Picks.{pick_yes}
use Rattle.order.proofs.Less.{true_false}
use Rattle.order.proofs.Lists.{by_test, not_true, place_passes, none_passes, count_some, count_two}
use Rattle.order.proofs.StampLaws.{false_true, same_stamp_lem, stamp_same, zero_least}

-- the operation at an index
abbrev pub at : List Operation → ℕ → Operation
at ops i = get_or ops i no_operation

module _ (ops : List Operation) (A : Accepted ops) where
  pub formed : (i : ℕ) → i < length ops → malformed ops (at ops i) ≡ false
  formed i h = none_passes (malformed ops) ops i no_operation A.formed h

  pub starts : (i : ℕ) → i < length ops → (at ops i).start < (at ops i).end
  unfolding malformed
  starts i h = leb-false _ _ (pick_not _ _ _ _ (λ q. false_true (sym q)) (formed i h)).0

  -- no two lines have writes of the same stamp
  pub one_write : (i j : ℕ) → i < j → j < length ops → (at ops i).write ≡ true → (at ops j).write ≡ true → stamp (at ops i) ≡ stamp (at ops j) → ⊥
  unfolding malformed writings writes
  one_write i j h g w v e =
      let p = pick_not _ _ _ _ (λ q. false_true (sym q)) (formed j g) in
      let q = pick_not _ _ _ _ (λ q. false_true (sym q)) p.1 in
      let k = pick_not _ _ _ _ (λ q. false_true (sym q)) q.1 in
      let r = ⊎_elim (λ u. u.1) (λ u. absurd (true_false v u.0)) (pick_case _ _ _ _ k.1) in
      let s = pick_not _ _ _ _ (λ q. false_true (sym q)) r in
      let few : count (writes (at ops j)) ops ≤ 1 = ltb-false 1 (count (writes (at ops j)) ops) s.1 in
      let two = count_two (writes (at ops j)) ops i j no_operation h g
      (sym (pick_yes _ _ _ refl w (sym (stamp_same (at ops i) (at ops j) e))))
      (sym (pick_yes _ _ _ refl v (sym (stamp_same (at ops j) (at ops j) refl)))) in
      omega arith

  -- a read whose stamp is larger than another's has its write in a line
  pub listed : (i : ℕ) (b : Operation) → i < length ops → (at ops i).write ≡ false → less (stamp b) (stamp (at ops i)) ≡ true
      → (k : ℕ) × (k < length ops) × ((at ops k).write ≡ true) × (stamp (at ops k) ≡ stamp (at ops i))
  unfolding unlisted writings writes
  listed i b h r l =
      let u = none_passes (unlisted ops) ops i no_operation A.listed h in
      let p = ⊎_elim (λ w. absurd (true_false w.0 r)) (λ w. w.1) (pick_case _ _ _ _ u) in
      let q = ⊎_elim (λ w. absurd (true_false l (zero_least (at ops i) b w.0))) (λ w. w.1) (pick_case _ _ _ _ p) in
      let k = place (writes (at ops i)) ops in
      let m : k < length ops = count_some (writes (at ops i)) ops (eqb-false _ _ q) in
      let t = pick_is _ _ _ _ false_true (place_passes (writes (at ops i)) ops no_operation m) in
      (k, m, t.0, same_stamp_lem (at ops k) (at ops i) t.1)

  -- ---- a history with an order has no offending pair

  module _ (row : List ℕ) (O : Order ops row) where
    -- a line has a place in the row, and the operation at that place is the one in that line
    found : (l : ℕ) → Line ops l → (p : ℕ) × (p < length row) × (in_place ops row p ≡ in_line ops l)
    found l h = let w = O.whole.places l h in (w.0, w.1, ap (in_line ops) w.2)

    -- the earlier operation, in place p, would have to come after the other, in place q
    after : (p q : ℕ) (i : ℕ) → p < length row → q < length row → i < length ops → in_place ops row p ≡ at ops i
        → less (stamp (in_place ops row q)) (stamp (in_place ops row p)) ≡ true → q < p
    after p q i hp hq hi e l =
        by_test (in_place ops row p).write
        (λ w. by_test (in_place ops row q).write (λ v. O.writes q p hq hp v w l) (λ v. O.larger q p hq hp v w l))
        (λ r.
        let k = listed i (in_place ops row q) hi (ap (λ x. x.write) (sym e) ∙ r) (ap (λ x. less (stamp (in_place ops row q)) (stamp x)) (sym e) ∙ l) in
        let hk : suc k.0 ≤ length ops = k.1 in
        let line : Line ops (suc k.0) = (omega arith, hk) in
        let s = found (suc k.0) line in
        let is : in_place ops row s.0 ≡ at ops k.0 = s.2 ∙ ap (at ops) (let z : suc k.0 - 1 ≡ k.0 = omega arith in z) in
        let w : (in_place ops row s.0).write ≡ true = ap (λ x. x.write) is ∙ k.2 in
        let same : stamp (in_place ops row p) ≡ stamp (in_place ops row s.0) = ap stamp e ∙ sym k.3 ∙ ap stamp (sym is) in
        let less_q : less (stamp (in_place ops row q)) (stamp (in_place ops row s.0)) ≡ true = ap (less (stamp (in_place ops row q))) (sym same) ∙ l in
        let a : s.0 < p = O.own p s.0 hp s.1 r w same in
        let b : q < s.0 = by_test (in_place ops row q).write (λ v. O.writes q s.0 hq s.1 v w less_q) (λ v. O.larger q s.0 hq s.1 v w less_q) in
        omega arith)

    no_pair : (l m : ℕ) → Line ops l → Line ops m → offends (in_line ops l) (in_line ops m) ≡ true → ⊥
    unfolding offends stands_after
    no_pair l m hl hm o =
        let u = found l hl in
        let v = found m hm in
        let p = u.0 in
        let q = v.0 in
        let both = pick_is _ _ _ _ false_true o in
        let pre : precedes (in_place ops row p) (in_place ops row q) ≡ true = ap₂ precedes u.2 v.2 ∙ both.0 in
        let pq : p < q = O.precedence p q u.1 v.1 pre in
        let hi : l - 1 < length ops = (let a = hl.0 in let b = hl.1 in omega arith) in
        let qp : q < p =
        ⊎_elim
        (λ w. after p q (l - 1) u.1 v.1 hi u.2 (ap₂ (λ x y. less (stamp x) (stamp y)) v.2 u.2 ∙ w.0))
        (λ w.
        let r = pick_not _ _ _ _ (λ z. false_true z) w.1 in
        let t = pick_is _ _ _ _ false_true r.1 in
        O.own p q u.1 v.1 (ap (λ x. x.write) u.2 ∙ r.0) (ap (λ x. x.write) v.2 ∙ t.0)
        (ap stamp u.2 ∙ same_stamp_lem (in_line ops l) (in_line ops m) t.1 ∙ ap stamp (sym v.2)))
        (pick_case _ _ _ _ both.1) in
        omega arith

  pub order_no_pair : HasOrder ops → NoPair ops
  order_no_pair H l m hl hm = not_true (offends (in_line ops l) (in_line ops m)) (no_pair H.0 H.1 l m hl hm)
