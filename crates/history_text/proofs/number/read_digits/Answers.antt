use mathlib.Core.Path.{◌≡◌, sym, ap, ◌∙◌}
use Prim.Native.Nat.{suc, ◌+◌, ◌-◌, ◌*◌, ◌<◌, ◌≤◌}
use lib.ListN.{length, drop}
use borrow.Author.Tests.{leb-true}
use Rattle.history_text.specs.ReadNumbers.{number_with, digits_of}
use Rattle.history_text.proofs.Laws.{digits_stop, digits_over, digits_more, digits_end}
use native.Mathlib.Omega.{arith}
use Rattle.history_text.proofs.number.read_digits.Goals as goal

pub loop-used-init : goal.loop-used-init
loop-used-init c = (omega arith, ap (λ i. digits_of c.args.limit 0 0 (drop i c.args.s.now)) (let e : c.args.at + 0 ≡ c.args.at = omega arith in e))

pub returns-in_default : goal.returns-in_default
returns-in_default c =
    let a = c.args in
    let l = c.loop-used in
    let s = a.s.now in
    let h : a.at + l.used < length s = omega arith in
    let e = digits_stop a.limit l.value l.used (a.at + l.used) s h c.in_default.ensures.0 in
    (sym e ∙ l.invariant.1, (omega arith, omega arith))

pub loop-used-preserved : goal.loop-used-preserved
loop-used-preserved c =
    let a = c.args in
    let l = c.loop-used in
    let s = a.s.now in
    let h : a.at + l.used < length s = omega arith in
    let d = c.in-Some.d in
    let k : l.value * 10 + d ≤ a.limit = leb-true _ _ (sym c.fits.ensures ∙ c.if-fits.true) in
    let e = digits_more a.limit l.value l.used (a.at + l.used) d s h c.in-Some.ensures.0 c.fits.ensures c.if-fits.true in
    let n : a.at + (l.used + 1) ≡ suc (a.at + l.used) = omega arith in
    (k, ap (λ i. digits_of a.limit (l.value * 10 + d) (l.used + 1) (drop i s)) n ∙ sym e ∙ l.invariant.1)

pub returns-else-fits : goal.returns-else-fits
returns-else-fits c =
    let a = c.args in
    let l = c.loop-used in
    let s = a.s.now in
    let h : a.at + l.used < length s = omega arith in
    let e = digits_over a.limit l.value l.used (a.at + l.used) c.in-Some.d s h c.in-Some.ensures.0 c.fits.ensures c.if-fits.false in
    (sym e ∙ l.invariant.1, tt)

pub returns : goal.returns
returns c =
    let a = c.args in
    let l = c.loop-used in
    let s = a.s.now in
    let h : length s ≤ a.at + l.used = omega arith in
    let e = digits_end a.limit l.value l.used (a.at + l.used) s h in
    let k : l.used ≡ length s - a.at = omega arith in
    (ap (λ u. number_with l.value u) (sym k) ∙ sym e ∙ l.invariant.1, (omega arith, omega arith))
