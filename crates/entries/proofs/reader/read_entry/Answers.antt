-- By the tests, in their order; else the bytes begin with an entry. Assumes nothing.
use mathlib.Core.Path.{sym, ◌∙◌}
use Rattle.entries.proofs.Fronts.{sound_of, begins_of, whole_read, malformed_read, cut_read, entry_read}
use native.Mathlib.Omega.{arith}
use borrow.Author.Rules.{rules}
use Rattle.entries.proofs.reader.read_entry.Goals as goal

pub returns-then-l-eq0 : goal.returns-then-l-eq0
returns-then-l-eq0 c = whole_read _ (search rules)

pub returns-then-is_malformed : goal.returns-then-is_malformed
returns-then-is_malformed c = malformed_read _ c.if-l-eq0.false (sym c.is_malformed.ensures ∙ c.if-is_malformed.true)

pub returns-then-is_cut : goal.returns-then-is_cut
returns-then-is_cut c =
    cut_read _ c.if-l-eq0.false (sym c.is_malformed.ensures ∙ c.if-is_malformed.false)
    (sym c.is_cut.ensures ∙ c.if-is_cut.true)

pub bounds-l-3 : goal.bounds-l-3
bounds-l-3 c =
    let b = begins_of _ (sound_of _ (sym c.is_malformed.ensures ∙ c.if-is_malformed.false)) (sym c.is_cut.ensures ∙ c.if-is_cut.false) in
    omega (arith, b.long, b.whole)

pub bounds-l-4 : goal.bounds-l-4
bounds-l-4 c =
    let b = begins_of _ (sound_of _ (sym c.is_malformed.ensures ∙ c.if-is_malformed.false)) (sym c.is_cut.ensures ∙ c.if-is_cut.false) in
    omega (arith, b.long, b.whole)

pub read2-requires : goal.read2-requires
read2-requires c =
    let b = begins_of _ (sound_of _ (sym c.is_malformed.ensures ∙ c.if-is_malformed.false)) (sym c.is_cut.ensures ∙ c.if-is_cut.false) in
    omega (arith, b.long, b.whole)

pub returns : goal.returns
returns c =
    let b = begins_of _ (sound_of _ (sym c.is_malformed.ensures ∙ c.if-is_malformed.false)) (sym c.is_cut.ensures ∙ c.if-is_cut.false) in
    entry_read _ _ _ b c.party_in-sender.ensures c.read2.ensures
