use Rattle.std.proofs.Common.{◌≡◌, ℕ, ◌∙◌, sym, refl, true, false, Option, Some, None, is_some}
use Rattle.area.proofs.Tests.{impossible}
use Prim.Native.Nat.{◌<◌}
use lib.ListN.{length}
use Rattle.history_text.proofs.Laws.{number_none, number_zero, number_bad, number_digits}
use native.Mathlib.Omega.{arith}
use Rattle.history_text.proofs.number.read_number.Goals as goal

-- a value that is there, and none
some_is : (x : Option ℕ) → is_some x ≡ true → (d : ℕ) × (x ≡ Some d)
some_is (Some d) e = (d, refl)
some_is None e = impossible (cc e)

none_is : (x : Option ℕ) → is_some x ≡ false → x ≡ None
none_is (Some d) e = impossible (cc e)
none_is None e = refl

pub returns-then-s-at : goal.returns-then-s-at
returns-then-s-at c = let a = c.args in (sym (number_none a.limit a.at a.s.now c.if-s-at.true), tt)

pub returns-then-c-eq48 : goal.returns-then-c-eq48
returns-then-c-eq48 c =
    let a = c.args in
    let h : a.at < length a.s.now = omega arith in
    (sym (number_zero a.limit a.at a.s.now h c.if-c-eq48.true), (omega arith, omega arith))

pub returns-then-is_none : goal.returns-then-is_none
returns-then-is_none c =
    let a = c.args in
    let h : a.at < length a.s.now = omega arith in
    let e = none_is _ c.if-is_none.ensures in
    (sym (number_bad a.limit a.at a.s.now h c.if-c-eq48.false (sym e ∙ c.digit.ensures.0)), tt)

pub returns : goal.returns
returns c =
    let a = c.args in
    let h : a.at < length a.s.now = omega arith in
    let p = some_is _ c.if-is_none.ensures in
    (number_digits a.limit a.at p.0 a.s.now h c.if-c-eq48.false (sym p.1 ∙ c.digit.ensures.0) c.read_digits.ensures.0, c.read_digits.ensures.1)
