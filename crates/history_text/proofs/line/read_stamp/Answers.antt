use mathlib.Core.Path.{◌≡◌, refl, ap, ◌∙◌}
use Prim.Native.Nat.{◌+◌}
use lib.ListN.{drop}
use Rattle.history_text.specs.ReadNumbers.{field_of}
use Rattle.history_text.proofs.Laws.{then_number_lem, then_bad, further}
use Rattle.history_text.specs.ReadLines.{stamp_of}
use native.Mathlib.Omega.{arith}
use Rattle.history_text.proofs.line.read_stamp.Goals as goal

pub returns-in_err-f : goal.returns-in_err-f
unfolding stamp_of
returns-in_err-f c = rw c.from_residual.ensures (then_bad _ _ _ c.in_err-f.ensures.0 refl, tt)

pub returns-in_err-g : goal.returns-in_err-g
unfolding stamp_of
returns-in_err-g c =
    let a = c.args in
    let f = c.in_ok-f.f in
    rw c.from_residual-in_err-g.ensures
    (then_number_lem _ _ _ f.value f.used c.in_ok-f.ensures.0 refl (then_bad _ _ _ (further 8 32 a.at f.used a.s.now c.in_err-g.ensures.0) refl), tt)

pub returns-in_err-h : goal.returns-in_err-h
unfolding stamp_of
returns-in_err-h c =
    let a = c.args in
    let s = a.s.now in
    let f = c.in_ok-f.f in
    let g = c.in_ok-g.g in
    let n : a.at + f.used + g.used ≡ a.at + (f.used + g.used) = omega arith in
    let e = further 4294967295 32 a.at (f.used + g.used) s (c.in_err-h.ensures.0 ∙ ap (λ i. field_of 4294967295 32 (drop i s)) n) in
    rw c.from_residual-in_err-h.ensures (
      then_number_lem _ _ _ f.value f.used c.in_ok-f.ensures.0 refl
          (then_number_lem _ _ _ g.value g.used (further 8 32 a.at f.used s c.in_ok-g.ensures.0) refl (then_bad _ _ _ e refl)),
      tt,
    )

pub returns : goal.returns
unfolding stamp_of
returns c =
    let a = c.args in
    let s = a.s.now in
    let f = c.in_ok-f.f in
    let g = c.in_ok-g.g in
    let h = c.in_ok-h.h in
    let w = c.in_ok-f.ensures.1 in
    let w₂ = c.in_ok-g.ensures.1 in
    let w₃ = c.in_ok-h.ensures.1 in
    let n : a.at + f.used + g.used ≡ a.at + (f.used + g.used) = omega arith in
    let e = further 4294967295 32 a.at (f.used + g.used) s (c.in_ok-h.ensures.0 ∙ ap (λ i. field_of 4294967295 32 (drop i s)) n) in (
      then_number_lem _ _ _ f.value f.used c.in_ok-f.ensures.0 refl
          (then_number_lem _ _ _ g.value g.used (further 8 32 a.at f.used s c.in_ok-g.ensures.0) refl (then_number_lem _ _ _ h.value h.used e refl refl)),
      omega (arith, w.1, w₂.1, w₃.1),
    )
