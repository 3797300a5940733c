-- Each turn stores one more line. Assumes nothing.
use mathlib.Core.Path.{refl, ◌∙◌}
use Prim.Native.Nat.{◌+◌}
use Rattle.history_sheet.specs.Sheet.{operation_line, ended}
use Rattle.history_sheet.specs.Stages.{named}
use Rattle.history_sheet.proofs.Pages.{no_lines, turn, all_lines, named_line}
use native.Mathlib.Omega.{arith}
use borrow.Author.Rules.{rules}
use Rattle.history_sheet.proofs.page.put_operations.Goals as goal

pub loop-j-init : goal.loop-j-init
loop-j-init c = (refl, no_lines _ _ _ _)

pub put_operation-requires : goal.put_operation-requires
unfolding named
put_operation-requires c =
    let a = c.args in
    let j = c.loop-j.j in
    let N = c.requires.1 in
    let few = N.few in
    let high = N.high (a.first + j) (omega arith) in
    (search rules, omega arith, N.widths (a.first + j) (omega arith))

pub loop-j-preserved : goal.loop-j-preserved
unfolding named
loop-j-preserved c =
    let l = c.loop-j in
    let a = c.args in
    let N = c.requires.1 in (
      c.put_operation.auto.out ∙ l.invariant.0,
      turn (λ i. ended (operation_line (i + 1) (named a.rows a.lines i))) 73 a.first l.j a.out.now l.out _ a.at (λ k p q. named_line a.rows a.lines _ N k (omega arith)) l.invariant.1 c.put_operation.ensures,
    )

pub returns : goal.returns
returns c =
    let l = c.loop-j in
    let a = c.args in
    all_lines (λ i. ended (operation_line (i + 1) (named a.rows a.lines i))) a.first l.j a.count _ _ a.at l.invariant.1 (omega arith)
