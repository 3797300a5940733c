-- The answer to a history that is not refused is right (`judged_right`), and no two answers of the code have one response (`response_injective`).
-- Assumes nothing.
use mathlib.Core.Path.{◌≡◌, refl, sym, ap, subst, ◌∙◌}
use mathlib.Core.Bool.{Bool, true, false}
use mathlib.Core.List.{List}
use Prim.Native.Nat.{ℕ, ◌+◌, ◌≤◌}
use native.Mathlib.Omega.{arith}
use lib.ListN.{length, take}
use lib.Seq.{sets}
use borrow.Author.Tests.{le-ltb}
use Rattle.area.proofs.Sets.{part_sets_same}
use Rattle.area.specs.Responses.{Response, turned_down, gives}
use Rattle.order.specs.Histories.{any, offended, later, earlier, blank, Finding, has_order, no_order, judge_response, Judgement, offending, ordered, judged}
use Rattle.order.specs.Orders.{Order, HasOrder, Accepted, Earliest, Right}
use Rattle.order.specs.declared.operation.Operation.{Operation}
use Rattle.std.proofs.Common.{Result, Ok, Err}
use Rattle.order.specs.declared.judge.Fault.{Fault}
use Rattle.order.specs.declared.judge.Fault.TheVariants.{Offending, Refused}
use Rattle.order.proofs.Picks.{pick_yes, pick_no}
use Rattle.order.proofs.Less.{true_false}
use Rattle.order.proofs.Lists.{by_test}
use Rattle.order.proofs.Accepts.{order_no_pair}
use Rattle.order.proofs.Arranged.{the_row, size, row_is_order}
use Rattle.order.proofs.Theorems.{none_offended, pair_offends, pair_earliest}

-- ---- the parts of a response

unfoldable pub is_order : Response Finding → Bool
is_order (turned_down x) = false
is_order (gives (has_order n)) = true
is_order (gives (no_order a b)) = false

unfoldable pub first : Response Finding → ℕ
first (turned_down x) = x
first (gives (has_order n)) = n
first (gives (no_order a b)) = a

unfoldable second : Response Finding → ℕ
second (turned_down x) = 0
second (gives (has_order n)) = 0
second (gives (no_order a b)) = b

module _ (n a b : ℕ) where
  not_both : gives (has_order n) ≡ gives (no_order a b) → ⊥
  unfolding is_order
  not_both e = true_false refl (ap is_order e)

module _ (m n : ℕ) where
  same_count : gives (has_order m) ≡ gives (has_order n) → m ≡ n
  unfolding first
  same_count e = ap first e

module _ (a b c d : ℕ) where
  same_first : gives (no_order a b) ≡ gives (no_order c d) → a ≡ c
  unfolding first
  same_first e = ap first e

  same_second : gives (no_order a b) ≡ gives (no_order c d) → b ≡ d
  unfolding second
  same_second e = ap second e

-- the answer of the code that has a response
unfoldable answer_with : Response Finding → Result ℕ Fault
answer_with (turned_down x) = Err (Refused x)
answer_with (gives (has_order n)) = Ok n
answer_with (gives (no_order a b)) = Err (Offending (record { earlier = a; later = b }))

answer_back : (x : Result ℕ Fault) → answer_with (judge_response x) ≡ x
unfolding answer_with
answer_back (Ok n) = refl
answer_back (Err (Offending p)) = refl
answer_back (Err (Refused x)) = refl

pub response_injective : (x y : Result ℕ Fault) → judge_response x ≡ judge_response y → x ≡ y
response_injective x y e = sym (answer_back x) ∙ ap answer_with e ∙ answer_back y

-- ---- the answer

module _ (ops : List Operation) (A : Accepted ops) where
  accepted : (v : Judgement) → (any (offended ops) ops ≡ true → v ≡ offending (earlier ops) (later ops)) → (any (offended ops) ops ≡ false → v ≡ ordered ops)
      → v ≡ judged ops
  unfolding judged
  accepted v f g =
      pick_no _ _ _ refl (le-ltb 64 (length ops) A.few)
      (pick_no _ _ _ refl A.formed (pick_no _ _ _ refl A.listed
      (by_test (any (offended ops) ops) (λ t. pick_yes _ _ _ refl t (f t)) (λ t. pick_no _ _ _ refl t (g t)))))

  -- no operation offends: the row given is an order
  row_given : any (offended ops) ops ≡ false → Order ops (take (length ops) (ordered ops).lines)
  unfolding ordered blank
  row_given h =
      let s = size ops in
      let few = A.few in
      let fits : 0 + length (the_row ops) ≤ length blank = omega arith in
      let e : take (length (the_row ops)) (sets blank 0 (the_row ops)) ≡ the_row ops = part_sets_same blank 0 (the_row ops) fits in
      subst (Order ops) (sym (ap (λ n. take n (sets blank 0 (the_row ops))) (sym s) ∙ e)) (row_is_order ops A (none_offended ops h))

  no_order_lem : any (offended ops) ops ≡ true → HasOrder ops → ⊥
  no_order_lem h H = let p = pair_offends ops h in true_false p.offend (order_no_pair ops A H _ _ p.earlier p.later)

  right_order : any (offended ops) ops ≡ false → Right ops (ordered ops)
  unfolding ordered
  right_order h =
      let R = row_given h in
      record {
        if_order = λ H. refl;
        order = λ n e. let q = same_count (length ops) n e in (sym q, subst (λ m. Order ops (take m (ordered ops).lines)) q R);
        if_none = λ f. absurd (f (the_row ops, row_is_order ops A (none_offended ops h)));
        pair = λ a b e. absurd (not_both (length ops) a b e);
      }

  right_pair : any (offended ops) ops ≡ true → Right ops (offending (earlier ops) (later ops))
  unfolding offending
  right_pair h =
      record {
        if_order = λ H. absurd (no_order_lem h H);
        order = λ n e. absurd (not_both n (earlier ops + 1) (later ops + 1) (sym e));
        if_none = λ f. (earlier ops + 1, later ops + 1, refl);
        pair = λ a b e.
            let E = subst (λ x. Earliest ops x (later ops + 1)) (same_first _ _ a b e) (pair_earliest ops h) in
            (no_order_lem h, subst (Earliest ops a) (same_second _ _ a b e) E);
      }

  pub judged_right : Right ops (judged ops)
  judged_right =
      by_test (any (offended ops) ops)
      (λ t. subst (Right ops) (accepted _ (λ u. refl) (λ u. absurd (true_false t u))) (right_pair t))
      (λ t. subst (Right ops) (accepted _ (λ u. absurd (true_false u t)) (λ u. refl)) (right_order t))
