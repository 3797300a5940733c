-- After each turn, what is left of the numbers gives the same answer as all of them. Assumes nothing.
use mathlib.Core.Bool.{not}
use mathlib.Core.Path.{ap, refl, sym, ◌∙◌}
use Rattle.blocks.proofs.Numbers.{others, numbers_turn, numbers_out, numbers_twice, numbers_end}
use Rattle.blocks.proofs.bounds.numbers_fit.Goals as goal
use Rattle.blocks.proofs.bounds.numbers_fit.Goals.{then-not-number_fits-via-then-not-number_fits, then-not-number_fits-via-else-not-number_fits+then-contains}

pub returns-then-not-number_fits : goal.returns-then-not-number_fits
returns-then-not-number_fits c =
    elim c.then-not-number_fits.branch [
      | then-not-number_fits-via-then-not-number_fits w ↦
          sym (c.loop-i.invariant ∙ numbers_out _ _ _ _ _ c.loop-i-test.true refl c.number_fits.ensures (ap not w.if-not-number_fits.true))
      | then-not-number_fits-via-else-not-number_fits+then-contains w ↦
          sym (c.loop-i.invariant
          ∙ numbers_twice _ _ _ _ _ _ c.loop-i-test.true refl c.number_fits.ensures (ap not w.if-not-number_fits.false)
          (others _ c.args.js.now c.loop-i.i _ w.contains.ensures.value) (ap (λ b. not (not b)) w.if-contains.true))
    ]

pub loop-i-preserved : goal.loop-i-preserved
loop-i-preserved c =
    c.loop-i.invariant
    ∙ numbers_turn _ _ _ _ _ _ c.loop-i-test.true refl c.number_fits.ensures (ap not c.if-not-number_fits.false)
    (others _ c.args.js.now c.loop-i.i _ c.contains.ensures.value) (ap (λ b. not (not b)) c.if-contains.false)

pub returns : goal.returns
returns c = sym (c.loop-i.invariant ∙ numbers_end _ _ _ c.loop-i-test.false)
