-- What is left of the rows, and of the row at hand, gives the same as all rows: outer and inner loop. Assumes nothing.
use mathlib.Core.Path.{refl, sym, ◌∙◌, subst}
use Rattle.client_search.specs.Search.{standing, Inside}
use Rattle.client_search.proofs.Searches.{rows_start, rows_end, row_start, row_end, place_next, place_found}
use native.Mathlib.Omega.{arith}
use Rattle.client_search.proofs.searching.search.Goals as goal

pub search-init : goal.search-init
search-init c = (refl, rows_start _ c.args.rows _)

pub loop-i-init : goal.loop-i-init
loop-i-init c =
    let a = c.args in
    let l = c.search in
    (l.invariant.0, l.invariant.1 ∙ row_start a.g a.rows a.area.now l.j _ c.search-test.true c.used_places-m.ensures.0)

pub loop-i-preserved : goal.loop-i-preserved
loop-i-preserved c =
    let a = c.args in
    let l = c.loop-i in
    (l.invariant.0, l.invariant.1 ∙ place_next a.g a.rows a.area.now _ l.i _ _ _ c.loop-i-test.true c.is_agreed.ensures c.if-is_agreed.false)

pub search-preserved : goal.search-preserved
search-preserved c =
    let a = c.args in
    let l = c.loop-i in
    (l.invariant.0, l.invariant.1 ∙ row_end a.g a.rows a.area.now _ l.i _ _ (omega arith))

pub returns-after-search : goal.returns-after-search
returns-after-search c =
    let a = c.args in
    let l = c.search in
    rw l.invariant.0 (sym (l.invariant.1 ∙ rows_end a.g a.rows a.area.now l.j (omega arith)), tt)

pub returns-then-is_agreed : goal.returns-then-is_agreed
returns-then-is_agreed c =
    let a = c.args in
    let l = c.loop-i in
    let e = place_found a.g a.rows a.area.now _ l.i _ _ _ c.loop-i-test.true c.is_agreed.ensures c.if-is_agreed.true in
    (sym (l.invariant.1 ∙ e), (omega arith, omega arith, omega arith))
