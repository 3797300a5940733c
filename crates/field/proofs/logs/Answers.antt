-- Each entry is the exponent at which the powers have the byte: computed here for the whole table, once. Assumes nothing.
use mathlib.Core.Path.{refl}
use Rattle.field.specs.Field.{◌⊕◌, xtime, reduction, shift_add, ◌⊗◌}
use Rattle.field.proofs.TableRules.{generated, log_rule, logs_rule}
use Rattle.field.proofs.logs.Goals as goal

pub returns : goal.returns
unfolding generated log_rule ◌⊗◌ shift_add xtime reduction ◌⊕◌
returns c = logs_rule _ refl refl
