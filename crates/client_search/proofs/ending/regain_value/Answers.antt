-- n - t rows have the value, which is at least k; the laws of Endings. Assumes nothing.
use mathlib.Core.Bool.{not}
use mathlib.Core.Path.{ap, sym, ◌∙◌}
use lib.Seq.{length-take-le, length_front}
use Rattle.blocks.proofs.Values.{zeros, front_back}
use Rattle.client_search.proofs.Searches.{comparing, chunk_room}
use Rattle.client_search.proofs.Endings.{regaining, value_length, valued, disagreed, unanimous}
use native.Mathlib.Omega.{arith}
use Rattle.client_search.proofs.ending.regain_value.Goals as goal

pub holders-k-requires : goal.holders-k-requires
holders-k-requires c =
    let p = c.requires in
    (comparing _ _ _ _ p.searching _ c.hits-h.ensures, chunk_room _ _ p.chunk p.searching.whole)

pub slice_bounds-value-end : goal.slice_bounds-value-end
slice_bounds-value-end c = c.requires.searching.bounded.size_high

pub slice_bounds-regain-end : goal.slice_bounds-regain-end
slice_bounds-regain-end c = sym (length-take-le _ (zeros 256) c.requires.searching.bounded.size_high)

pub regain-requires : goal.regain-requires
regain-requires c =
    let P = c.requires in
    regaining _ _ _ _ _ _ P _ _ c.hits-h.ensures c.holders-k.ensures _ (length-take-le _ (zeros 256) P.searching.bounded.size_high)

pub slice_bounds-value-end-2 : goal.slice_bounds-value-end-2
slice_bounds-value-end-2 c =
    let P = c.requires in
    let d = c.regain in
    omega (arith, length_front (zeros 256) d.new.value c.args.g.size d.auto.value, P.searching.bounded.size_high)

pub slice_bounds-all_of-end : goal.slice_bounds-all_of-end
slice_bounds-all_of-end c =
    let P = c.requires in
    let d = c.regain in
    let f = front_back (zeros 256) d.new.value _ P.searching.bounded.size_high d.auto.value ∙ d.ensures in
    sym (value_length _ _ _ _ _ _ P _ _ c.hits-h.ensures c.holders-k.ensures _ f)

pub all_of-requires : goal.all_of-requires
all_of-requires c =
    let P = c.requires in
    let d = c.regain in
    let f = front_back (zeros 256) d.new.value _ P.searching.bounded.size_high d.auto.value ∙ d.ensures in
    valued _ _ _ _ _ _ P _ _ c.hits-h.ensures c.holders-k.ensures _ f

pub returns-then-not-all_of : goal.returns-then-not-all_of
returns-then-not-all_of c =
    let P = c.requires in
    let d = c.regain in
    let f = front_back (zeros 256) d.new.value _ P.searching.bounded.size_high d.auto.value ∙ d.ensures in
    disagreed _ _ _ _ _ _ P _ _ c.hits-h.ensures c.holders-k.ensures _ f _ c.all_of.ensures _ (ap not c.if-not-all_of.true)

pub slice_bounds-value-end-3 : goal.slice_bounds-value-end-3
slice_bounds-value-end-3 c =
    let P = c.requires in
    let d = c.regain in
    omega (arith, length_front (zeros 256) d.new.value c.args.g.size d.auto.value, P.searching.bounded.size_high)

pub slice_bounds-put-end : goal.slice_bounds-put-end
slice_bounds-put-end c =
    let P = c.requires in
    let d = c.regain in
    let f = front_back (zeros 256) d.new.value _ P.searching.bounded.size_high d.auto.value ∙ d.ensures in
    sym (value_length _ _ _ _ _ _ P _ _ c.hits-h.ensures c.holders-k.ensures _ f)

pub put-requires : goal.put-requires
put-requires c =
    let P = c.requires in
    let d = c.regain in
    let f = front_back (zeros 256) d.new.value _ P.searching.bounded.size_high d.auto.value ∙ d.ensures in
    omega (arith, value_length _ _ _ _ _ _ P _ _ c.hits-h.ensures c.holders-k.ensures _ f, P.value_room)

pub returns : goal.returns
returns c =
    let P = c.requires in
    let d = c.regain in
    let f = front_back (zeros 256) d.new.value _ P.searching.bounded.size_high d.auto.value ∙ d.ensures in
    unanimous _ _ _ _ _ _ P _ _ c.hits-h.ensures c.holders-k.ensures _ f _ c.all_of.ensures _ _ (ap not c.if-not-all_of.false) c.put.ensures
