-- After j turns the flags and chunks of servers 0 to j - 1 are stored. Assumes nothing.
use mathlib.Core.Path.{refl, ap, ◌∙◌}
use Rattle.std.specs.Prelude.{is_some, unwrap_or}
use Rattle.area.specs.Area.{table, table_from}
use Rattle.group.proofs.Lists.{table_turn, table_end}
use Rattle.client_search.proofs.Firsts.{hits_law}
use native.Mathlib.Omega.{arith}
use Rattle.client_search.proofs.at_stamp.hits.Goals as goal

pub loop-j-init : goal.loop-j-init
unfolding table table_from
loop-j-init c = (refl, refl)

pub loop-j-preserved : goal.loop-j-preserved
loop-j-preserved c =
    let l = c.loop-j in
    let p = table_turn _ _ _ _ _ l.invariant.0 (c.is_some.ensures ∙ ap is_some c.hit_at-h.ensures) in
    let q = table_turn _ _ _ _ _ l.invariant.1 (c.unwrap_or.ensures ∙ ap (λ h. unwrap_or h 0) c.hit_at-h.ensures) in
    (p, q)

pub returns : goal.returns
returns c =
    let l = c.loop-j in
    let p = table_end _ _ _ _ _ refl (omega arith) (omega arith) l.invariant.0 in
    let q = table_end _ _ _ _ _ refl (omega arith) (omega arith) l.invariant.1 in
    hits_law _ _ _ _ p q
