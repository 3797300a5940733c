-- A product by 00 is 00, and one of two powers of 03 has the sum of the exponents, less a period. Assumes nothing.
use mathlib.Core.Path.{sym, ap, ◌∙◌}
use Prim.Native.Nat.{ℕ}
use Rattle.field.specs.Field.{◌⊗◌, power_of, Powers}
use Rattle.field.proofs.Ring.{zero_left, zero_right}
use Rattle.field.proofs.Power.{log_product, log_product_less}
use native.Mathlib.Omega.{arith}
use Rattle.field.proofs.product.Goals as goal
use Rattle.field.proofs.product.Goals.{then-a-eq0-via-then-a-eq0, then-a-eq0-via-else-a-eq0+then-b-eq0, then-sum-lt255, else-sum-lt255}

pub returns-then-a-eq0 : goal.returns-then-a-eq0
returns-then-a-eq0 c =
    elim c.then-a-eq0.branch [
      | then-a-eq0-via-then-a-eq0 w ↦ sym (ap (λ (x : ℕ). x ⊗ c.args.b) w.if-a-eq0.true ∙ zero_left c.args.b)
      | then-a-eq0-via-else-a-eq0+then-b-eq0 w ↦ sym (ap (◌⊗◌ c.args.a) w.if-b-eq0.true ∙ zero_right c.args.a)
    ]

pub returns : goal.returns
unfolding Powers
returns c =
    elim c.if-sum-lt255.branch [
      | then-sum-lt255 w ↦ c.powers.ensures _ (omega arith) ∙ ap (power_of 3) w.e-is ∙ log_product _ _ _ _ c.log.ensures.1 c.log-2.ensures.1
      | else-sum-lt255 w ↦
          c.powers.ensures _ (omega arith) ∙ ap (power_of 3) w.e-is
          ∙ log_product_less _ _ _ _ w.if-sum-lt255.false c.log.ensures.1 c.log-2.ensures.1
    ]
