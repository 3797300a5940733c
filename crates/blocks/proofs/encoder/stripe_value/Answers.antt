-- The stripe of the value, without the zeros of the padding. Assumes nothing.
use mathlib.Core.Path.{◌∙◌}
use native.Mathlib.Omega.{arith}
use Rattle.blocks.proofs.Stripes.{starts, stripe_value}
use Rattle.blocks.proofs.encoder.stripe_value.Goals as goal

pub overflow_mul-start : goal.overflow_mul-start
overflow_mul-start c = record { fits = omega (arith, starts _ _ _ c.requires.0 c.requires.3) }

pub overflow_add-start : goal.overflow_add-start
overflow_add-start c = record { fits = omega (arith, starts _ _ _ c.requires.0 c.requires.3) }

pub slice_bounds-value_at-count : goal.slice_bounds-value_at-count
slice_bounds-value_at-count c = omega (arith, starts _ _ _ c.requires.0 c.requires.3, c.min-end.ensures)

pub slice_bounds-value_at-start : goal.slice_bounds-value_at-start
slice_bounds-value_at-start c = omega (arith, starts _ _ _ c.requires.0 c.requires.3, c.min-end.ensures)

pub returns : goal.returns
returns c = c.value_at.ensures ∙ stripe_value _ _ _ _ _ (omega (arith, starts _ _ _ c.requires.0 c.requires.3)) c.min-end.ensures
