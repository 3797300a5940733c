-- The lines read so far and those that are left give what is read of the whole text. Assumes nothing.
use Rattle.std.proofs.Common.{◌∙◌, sym, refl, ◌<◌, ◌≤◌, length, arith}
use Rattle.history_text.proofs.Readings.{final_start, final_bad, final_next, final_end}
use Rattle.history_text.proofs.text.read_text.Goals as goal

pub loop-at-init : goal.loop-at-init
loop-at-init c =
    let s = c.args.s.now in
    (omega arith, (length s, omega arith, final_start c.empty-history.result s c.empty-history.ensures))

pub returns-in_default : goal.returns-in_default
returns-in_default c =
    let s = c.args.s.now in
    let l = c.loop-at in
    let h : l.at < length s = omega arith in
    sym (final_bad l.history l.invariant.1.0 l.at s h l.invariant.1.1 c.read_line.ensures.0 c.in_default.is) ∙ l.invariant.1.2

pub loop-at-preserved : goal.loop-at-preserved
loop-at-preserved c =
    let s = c.args.s.now in
    let l = c.loop-at in
    let x = c.in-Some.line in
    let w = c.in-Some.ensures.1 in
    let h : l.at < length s = omega arith in
    let m = final_next l.history _ l.invariant.1.0 l.at x.used s x.operation h l.invariant.1.1 w.0 w.1 c.in-Some.ensures.0 refl c.add-history.ensures l.invariant.1.2 in
    (omega arith, m)

pub returns : goal.returns
returns c =
    let s = c.args.s.now in
    let l = c.loop-at in
    let h : length s ≤ l.at = omega arith in
    sym (final_end l.history l.invariant.1.0 l.at s h) ∙ l.invariant.1.2
