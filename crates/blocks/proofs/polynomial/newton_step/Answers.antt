-- Where the value is already right nothing is added; otherwise the step is the definition's. Assumes nothing.
use mathlib.Core.Path.{ap, sym, ◌∙◌}
use Rattle.field.specs.Field.{◌⊕◌}
use Rattle.blocks.specs.Poly.{newton_step}
use Rattle.blocks.proofs.Polynomials.{no_step}
use Rattle.blocks.proofs.polynomial.newton_step.Goals as goal

pub returns-then-gap-eq0 : goal.returns-then-gap-eq0
unfolding ◌⊕◌
returns-then-gap-eq0 c =
    sym (no_step c.args.p.now c.args.m.now c.args.x c.args.y c.requires
    (ap (λ z. c.args.y ⊕ z) (sym c.value_at.ensures) ∙ c.if-gap-eq0.true))

pub returns : goal.returns
unfolding newton_step ◌⊕◌
returns c = cc
