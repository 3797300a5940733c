-- The entry is stored, or nothing is. Assumes nothing.
use mathlib.Core.Path.{ap, sym, ◌∙◌}
use mathlib.Core.Bool.{Bool}
use Rattle.frame.specs.Messages.{entry}
use Rattle.frame.specs.Chunks.{store_if, complete_at}
use Rattle.server_blocks.proofs.answering.complete_if.Goals as goal

pub returns-then-test : goal.returns-then-test
returns-then-test c =
    let a = c.args in
    c.put_entry.ensures
    ∙ ap (λ (t : Bool). store_if t a.area.now (complete_at a.c) (entry a.list.now a.block.now)) (sym c.if-test.true)

pub returns-else-test : goal.returns-else-test
returns-else-test c =
    let a = c.args in
    ap (λ (t : Bool). store_if t a.area.now (complete_at a.c) (entry a.list.now a.block.now)) (sym c.if-test.false)
