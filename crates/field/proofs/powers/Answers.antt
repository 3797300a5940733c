-- The table is generated from 1 by 03: the whole of it is computed here, once. Assumes nothing.
use mathlib.Core.Path.{refl}
use Rattle.field.specs.Field.{◌⊕◌, xtime, reduction, shift_add, ◌⊗◌}
use Rattle.field.proofs.TableRules.{generated, powers_rule}
use Rattle.field.proofs.powers.Goals as goal

pub returns : goal.returns
unfolding generated ◌⊗◌ shift_add xtime reduction ◌⊕◌
returns c = powers_rule _ refl
