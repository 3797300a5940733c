use mathlib.Core.Path.{refl}
use Prim.Native.Nat.{◌-◌, ◌≤◌}
use lib.ListN.{length}
use Rattle.history_text.proofs.Lines.{line_short, line_kind, line_space, line_interval, line_stamp, line_caller, line_whole}
use native.Mathlib.Omega.{arith}
use Rattle.history_text.proofs.line.read_line.Goals as goal

pub returns-then-s-at-lt2 : goal.returns-then-s-at-lt2
returns-then-s-at-lt2 c = let a = c.args in (line_short a.s.now a.at c.if-s-at-lt2.true, tt)

pub returns-in_err-write : goal.returns-in_err-write
returns-in_err-write c =
    let a = c.args in
    let s = a.s.now in
    let h : 2 ≤ length s - a.at = omega arith in
    rw c.from_residual.ensures (line_kind s a.at h c.in_err-write.ensures, tt)

pub returns-then-s-at-ne32 : goal.returns-then-s-at-ne32
returns-then-s-at-ne32 c =
    let a = c.args in
    let s = a.s.now in
    let h : 2 ≤ length s - a.at = omega arith in
    (line_space s a.at h c.in_ok-write.ensures c.if-s-at-ne32.true, tt)

pub returns-in_err-i : goal.returns-in_err-i
returns-in_err-i c =
    let a = c.args in
    let s = a.s.now in
    let h : 2 ≤ length s - a.at = omega arith in
    rw c.from_residual-in_err-i.ensures (line_interval s a.at h c.in_ok-write.ensures c.if-s-at-ne32.false c.in_err-i.ensures.0 refl, tt)

pub returns-in_err-p : goal.returns-in_err-p
returns-in_err-p c =
    let a = c.args in
    let s = a.s.now in
    let h : 2 ≤ length s - a.at = omega arith in
    let i = c.in_ok-i.i in
    rw c.from_residual-in_err-p.ensures
    (line_stamp s a.at h c.in_ok-write.ensures c.if-s-at-ne32.false i.start i.end i.used c.in_ok-i.ensures.0 refl c.in_err-p.ensures.0 refl, tt)

pub returns-in_err-f : goal.returns-in_err-f
returns-in_err-f c =
    let a = c.args in
    let s = a.s.now in
    let i = c.in_ok-i.i in
    let p = c.in_ok-p.p in
    let h : 2 ≤ length s - a.at = c.if-s-at-lt2.false in
    rw c.from_residual-in_err-f.ensures (
      line_caller s a.at h c.in_ok-write.ensures c.if-s-at-ne32.false i.start i.end i.used p.time p.writer p.sequence p.used
          c.in_ok-i.ensures.0 refl c.in_ok-p.ensures.0 refl c.in_err-f.ensures.0 refl,
      tt,
    )

pub returns : goal.returns
returns c =
    let a = c.args in
    let s = a.s.now in
    let i = c.in_ok-i.i in
    let p = c.in_ok-p.p in
    let f = c.in_ok-f.f in
    let w = c.in_ok-i.ensures.1 in
    let w₂ = c.in_ok-p.ensures.1 in
    let w₃ = c.in_ok-f.ensures.1 in
    let h : 2 ≤ length s - a.at = c.if-s-at-lt2.false in (
      line_whole s a.at h c.in_ok-write.ensures c.if-s-at-ne32.false i.start i.end i.used p.time p.writer p.sequence p.used
          c.in_ok-i.ensures.0 refl c.in_ok-p.ensures.0 refl c.in_ok-f.ensures.0 f.value f.used refl,
      (omega (arith, w, w₂, w₃.1), omega (arith, h, w, w₂, w₃.1)),
    )
