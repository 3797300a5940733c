-- Each return, by the laws of Fronts.antt. Assumes nothing.
use Rattle.entries.proofs.Fronts.{no_length, low_length, no_version, other_version, no_class, some_class}
use borrow.Author.Rules.{rules}
use Rattle.entries.proofs.reader.is_malformed.Goals as goal

pub returns-then-l-lt2 : goal.returns-then-l-lt2
returns-then-l-lt2 c = no_length _ (search rules)

pub returns-then-read2-lt3 : goal.returns-then-read2-lt3
returns-then-read2-lt3 c = low_length _ _ c.read2.ensures (search rules) (search rules)

pub returns-then-l-lt3 : goal.returns-then-l-lt3
returns-then-l-lt3 c = no_version _ _ c.read2.ensures (search rules) (search rules) (search rules)

pub returns-then-l-ne1 : goal.returns-then-l-ne1
returns-then-l-ne1 c = other_version _ _ c.read2.ensures (search rules) (search rules) (search rules) c.if-l-ne1.true

pub returns-then-l-lt4 : goal.returns-then-l-lt4
returns-then-l-lt4 c =
    no_class _ _ c.read2.ensures (search rules) (search rules) (search rules) (search rules) (search rules)

pub returns : goal.returns
returns c =
    some_class _ _ c.read2.ensures (search rules) (search rules) (search rules) (search rules)
    (search rules)
