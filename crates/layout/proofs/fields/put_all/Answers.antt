-- After j turns the first j elements are stored. Assumes nothing.
use Prim.Native.Nat.{ℕ, ◌+◌, ◌*◌}
use native.Mathlib.Omega.{arith}
use mathlib.Core.Path.{◌≡◌, refl, ap, ◌∙◌}
use lib.ListN.{get_or}
use borrow.Author.Rules.{rules}
use Rattle.std.proofs.lemmas.List.{get_or_default}
use Rattle.area.specs.Area.{joined}
use Rattle.layout.specs.Fields.{row_bytes}
use Rattle.layout.proofs.Places.{put_turn}
use Rattle.layout.proofs.fields.put_all.Goals as goal

pub loop-j-init : goal.loop-j-init
unfolding joined
loop-j-init g c = (refl, omega arith, refl)

pub loop-j-preserved : goal.loop-j-preserved
loop-j-preserved g c =
    let l = c.loop-j in
    let a = c.args in
    let x = get_or_default a.xs.now l.j c.index-xs-j.result g.T.Field.blank (omega arith) in
    let f = λ (k : ℕ). g.T.Field.written (get_or a.xs.now k g.T.Field.blank) in
    let p = put_turn f g.T.Field.WIDTH a.out.now l.out _ a.at l.j _ _ (ap g.T.Field.written x) (search rules) c.put.ensures.wide l.invariant.0 l.invariant.1 c.put.ensures.puts in
    (p.0, p.1, search rules)

pub returns : goal.returns
unfolding row_bytes
returns g c =
    let l = c.loop-j in
    let e : l.j ≡ g.row.N = omega arith in
    rw e at l.invariant.0
