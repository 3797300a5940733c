use mathlib.Core.Path.{refl}
use Prim.Native.Nat.{◌+◌, ◌≤◌}
use lib.ListN.{length}
use Rattle.history_text.proofs.Laws.{field_bad, field_found, field_other, field_short}
use native.Mathlib.Omega.{arith}
use borrow.Author.Rules.{rules}
use Rattle.history_text.proofs.number.read_field.Goals as goal

pub returns-in_err-number : goal.returns-in_err-number
returns-in_err-number c =
    let a = c.args in
    rw c.from_residual.ensures (field_bad a.limit a.end _ c.in_err-number.ensures.0 refl, tt)

pub returns-then-s-at : goal.returns-then-s-at
returns-then-s-at c =
    let a = c.args in
    let n = c.in_ok-number.number in
    let h : length a.s.now ≤ a.at + n.used = omega arith in
    (field_short a.limit a.end a.at n.value n.used a.s.now c.in_ok-number.ensures.0 refl (search rules) h, tt)

pub returns-then-s-at-2 : goal.returns-then-s-at-2
returns-then-s-at-2 c =
    let a = c.args in
    let n = c.in_ok-number.number in
    let w = c.in_ok-number.ensures.1 in
    (field_found a.limit a.end a.at n.value n.used a.s.now c.in_ok-number.ensures.0 refl c.if-s-at-2.true, (w.0, omega arith))

pub returns : goal.returns
returns c =
    let a = c.args in
    let n = c.in_ok-number.number in
    (field_other a.limit a.end a.at n.value n.used a.s.now c.in_ok-number.ensures.0 refl c.if-s-at-2.false, tt)
