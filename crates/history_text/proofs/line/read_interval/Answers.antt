use mathlib.Core.Path.{refl}
use Rattle.history_text.proofs.Laws.{then_number_lem, then_bad, further}
use Rattle.history_text.specs.ReadLines.{interval_of}
use native.Mathlib.Omega.{arith}
use Rattle.history_text.proofs.line.read_interval.Goals as goal

pub returns-in_err-f : goal.returns-in_err-f
unfolding interval_of
returns-in_err-f c = rw c.from_residual.ensures (then_bad _ _ _ c.in_err-f.ensures.0 refl, tt)

pub returns-in_err-g : goal.returns-in_err-g
unfolding interval_of
returns-in_err-g c =
    let a = c.args in
    let f = c.in_ok-f.f in
    rw c.from_residual-in_err-g.ensures
    (then_number_lem _ _ _ f.value f.used c.in_ok-f.ensures.0 refl (then_bad _ _ _ (further 4294967295 32 a.at f.used a.s.now c.in_err-g.ensures.0) refl), tt)

pub returns : goal.returns
unfolding interval_of
returns c =
    let a = c.args in
    let f = c.in_ok-f.f in
    let g = c.in_ok-g.g in
    let w = c.in_ok-f.ensures.1 in
    let w₂ = c.in_ok-g.ensures.1 in (
      then_number_lem _ _ _ f.value f.used c.in_ok-f.ensures.0 refl
          (then_number_lem _ _ _ g.value g.used (further 4294967295 32 a.at f.used a.s.now c.in_ok-g.ensures.0) refl refl),
      omega (arith, w.1, w₂.1),
    )
