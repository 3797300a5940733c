use Prim.Native.Nat.{◌+◌, ◌*◌, ◌≤◌}
use mathlib.Core.Bool.{Bool}
use mathlib.Core.Path.{refl, ap, sym, ◌∙◌}
use native.Mathlib.Omega.{arith}
use Rattle.frame.specs.Chunks.{entry_at, store_if, present_at}
use Rattle.server_accept.proofs.Replacing.{moved_within, replaced}
use Rattle.server_accept.proofs.replace.Goals as goal

pub returns-then-newer : goal.returns-then-newer
returns-then-newer c =
    let a = c.args in
    let n : a.g.n ≤ 10 = c.requires.0.servers_high in
    let k = c.width-w.ensures.1 in
    let e = c.copy_within.ensures.len in
    replaced a.g a.area.now _ _ a.p _ c.requires.1 (omega arith) c.requires.2 c.width-w.ensures.0
    (moved_within a.area.now _ 0 _ _ (32 * a.g.n) refl (omega (arith, c.requires.2)) (omega (arith, c.requires.2)) c.copy_within.ensures.after)
    (moved_within _ _ 320 (576 * a.p + 320) (576 * a.p + 320 + c.width-w.result) _ refl (omega (arith, e, c.requires.2)) (omega (arith, e, c.requires.2)) c.copy_within-then-newer.ensures.after)
    ∙ ap (λ (t : Bool). store_if t a.area.now present_at (entry_at a.g a.area.now a.p)) (sym c.if-newer.true)

pub returns-else-newer : goal.returns-else-newer
returns-else-newer c =
    let a = c.args in
    ap (λ (t : Bool). store_if t a.area.now present_at (entry_at a.g a.area.now a.p)) (sym c.if-newer.false)
