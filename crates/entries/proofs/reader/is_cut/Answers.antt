-- By the laws of Fronts.antt. Assumes nothing.
use mathlib.Core.Path.{◌∙◌}
use borrow.Author.Rules.{rules}
use borrow.Author.Tests.{lt-ltb}
use Rattle.entries.proofs.Fronts.{cut_early, cut_by}
use Rattle.entries.proofs.reader.is_cut.Goals as goal

pub returns-then-l-lt2 : goal.returns-then-l-lt2
returns-then-l-lt2 c = lt-ltb _ _ c.if-l-lt2.true ∙ cut_early _ c.if-l-lt2.true

pub returns-else-l-lt2 : goal.returns-else-l-lt2
returns-else-l-lt2 c = cut_by _ _ c.read2.ensures c.if-l-lt2.false
