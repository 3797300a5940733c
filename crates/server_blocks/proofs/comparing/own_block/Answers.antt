-- The group's value is at the front of a buffer. Assumes nothing.
use mathlib.Core.Path.{sym, ◌∙◌}
use lib.Seq.{length-take-le, length_front}
use Rattle.sha256.specs.Hash.{digest_of}
use Rattle.blocks.proofs.Values.{zeros, front_back}
use Rattle.server_blocks.proofs.Comparison.{decoding, value_length, encode_own, encode_all, own_block}
use native.Mathlib.Omega.{arith}
use Rattle.server_blocks.proofs.comparing.own_block.Goals as goal

pub slice_bounds-regain-end : goal.slice_bounds-regain-end
slice_bounds-regain-end c = sym (length-take-le _ (zeros 256) c.requires.0.stored.bounded.size_high)

pub regain-requires : goal.regain-requires
regain-requires c =
    let P = c.requires in
    decoding _ _ _ _ P.0 _ c.chosen_group-c.ensures _
    (length-take-le _ (zeros 256) P.0.stored.bounded.size_high)

pub slice_bounds-value-end-2 : goal.slice_bounds-value-end-2
slice_bounds-value-end-2 c =
    let h = c.requires.0.stored.bounded.size_high in
    let d = c.regain in
    omega (arith, length_front (zeros 256) d.new.value c.args.k.params.size d.auto.value, h)

pub slice_bounds-encode_block-end : goal.slice_bounds-encode_block-end
slice_bounds-encode_block-end c =
    let P = c.requires in
    let h = P.0.stored.bounded.size_high in
    let d = c.regain in
    let x = c.chosen_group-c.ensures in
    let f = front_back (zeros 256) d.new.value _ h d.auto.value ∙ d.ensures in
    sym (value_length _ _ _ _ P.0 _ x _ f)

pub encode_block-requires : goal.encode_block-requires
encode_block-requires c =
    let P = c.requires in
    let h = P.0.stored.bounded.size_high in
    let d = c.regain in
    let x = c.chosen_group-c.ensures in
    let f = front_back (zeros 256) d.new.value _ h d.auto.value ∙ d.ensures in
    encode_own _ _ _ _ P.0 _ x _ f _ P.2

pub slice_bounds-value-end-3 : goal.slice_bounds-value-end-3
slice_bounds-value-end-3 c =
    let h = c.requires.0.stored.bounded.size_high in
    let d = c.regain in
    omega (arith, length_front (zeros 256) d.new.value c.args.k.params.size d.auto.value, h)

pub slice_bounds-agrees-end : goal.slice_bounds-agrees-end
slice_bounds-agrees-end c =
    let P = c.requires in
    let h = P.0.stored.bounded.size_high in
    let d = c.regain in
    let x = c.chosen_group-c.ensures in
    let f = front_back (zeros 256) d.new.value _ h d.auto.value ∙ d.ensures in
    sym (value_length _ _ _ _ P.0 _ x _ f)

pub agrees-requires : goal.agrees-requires
agrees-requires c =
    let P = c.requires in
    let h = P.0.stored.bounded.size_high in
    let d = c.regain in
    let x = c.chosen_group-c.ensures in
    let f = front_back (zeros 256) d.new.value _ h d.auto.value ∙ d.ensures in
    encode_all _ _ _ _ P.0 _ x _ f _ P.1

pub returns : goal.returns
returns c =
    let P = c.requires in
    let h = P.0.stored.bounded.size_high in
    let d = c.regain in
    let x = c.chosen_group-c.ensures in
    let f = front_back (zeros 256) d.new.value _ h d.auto.value ∙ d.ensures in
    own_block _ _ _ _ P.0 _ x _ f digest_of _ _ _ _ _ c.agrees.ensures c.encode_block.ensures
