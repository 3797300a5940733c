-- After each turn, storing the digits that are left in the columns that are left would still give the whole number. Assumes nothing.
use mathlib.Core.Path.{refl, ap, ◌∙◌}
use Prim.Native.Nat.{◌+◌, ◌-◌, ◌/◌, ◌^◌, ◌<◌}
use lib.ListN.{set, length-set}
use Rattle.history_sheet.proofs.Columns.{decimal_some, digit_turn, first_turn}
use native.Mathlib.Omega.{arith}
use borrow.Author.Rules.{rules}
use Rattle.history_sheet.proofs.number.put_number.Goals as goal

pub loop-x-init : goal.loop-x-init
loop-x-init c =
    let some = decimal_some c.args.n in
    (omega arith, search rules, search rules, search rules, search rules, refl)

pub loop-x-preserved : goal.loop-x-preserved
loop-x-preserved c =
    let l = c.loop-x in
    let a = c.args in
    let x : l.x < 10 ^ 20 = omega arith in
    let t = digit_turn l.out a.at l.k l.x l.invariant.0 (search rules) x l.invariant.4 in
    let some = decimal_some (l.x / 10) in
    let short = t.0 in
    (omega arith, search rules, search rules, simp length-set l.invariant.3, t.0, t.1 ∙ l.invariant.5)

pub returns : goal.returns
returns c =
    let l = c.loop-x in
    let a = c.args in
    ap (λ o. set o (a.at + (l.k - 1)) (l.x + 48)) c.fill.ensures
    ∙ first_turn l.out a.at l.k l.x l.invariant.0 (search rules) ∙ l.invariant.5
