-- Kept at its place or nowhere; then the search. Assumes nothing.
use Rattle.client_deliver.proofs.ReadLaws.{place_small, not_kept, value_kept}
use native.Mathlib.Omega.{arith}
use Rattle.client_deliver.proofs.reading.keep.Goals as goal

pub returns-in_default : goal.returns-in_default
returns-in_default c =
    let a = c.args in
    not_kept a.k.params a.k.me a.s a.area.now _ _ _ a.j a.x _ _ c.place_for.ensures _ c.in_default.is c.settle.ensures

pub overflow_add-j : goal.overflow_add-j
overflow_add-j c =
    let i = place_small _ _ _ _ c.place_for.ensures c.in-Some.is in
    record { fits = omega (arith, c.requires.0.bounded.servers_high) }

pub keep_entry-requires : goal.keep_entry-requires
keep_entry-requires c =
    let i = place_small _ _ _ _ c.place_for.ensures c.in-Some.is in
    (c.requires.0.bounded, omega (arith, c.requires.0.bounded.servers_high, c.requires.0.whole), c.requires.3)

pub row_with-kept-requires : goal.row_with-kept-requires
row_with-kept-requires c = place_small _ _ _ _ c.place_for.ensures c.in-Some.is

pub settle-requires-2 : goal.settle-requires-2
settle-requires-2 c =
    let L = c.requires.0 in
    record { bounded = L.bounded; whole = omega (arith, L.whole, c.keep_entry.auto.area); value_room = L.value_room; room = L.room }

pub returns : goal.returns
returns c =
    let a = c.args in
    value_kept a.k.params a.k.me a.s a.area.now _ _ _ a.j a.x _ _ c.place_for.ensures _ _ _ _ _ c.in-Some.is c.row_with-kept.ensures c.with_row-client.ensures c.keep_entry.ensures c.settle-2.ensures
