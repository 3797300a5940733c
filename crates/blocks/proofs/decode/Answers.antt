-- A refusal is returned; a value is stored once all blocks are known to be its blocks. Assumes nothing.
use mathlib.Core.Bool.{not}
use mathlib.Core.Path.{sym, ap, ◌∙◌}
use Prim.Native.Nat.{ℕ, ◌*◌}
use lib.ListN.{length}
use lib.Seq.{length-take-le, length_front}
use Rattle.blocks.specs.Code.{block_length}
use Rattle.blocks.proofs.CallLaws.{decodes, decode_refused, disagreed, agreed}
use Rattle.blocks.proofs.Values.{front_back, zeros}
use Rattle.std.proofs.lemmas.Result.{err_from_is_err_and}
use Rattle.blocks.specs.Calls.{outcome}
use Rattle.blocks.proofs.Parameters.{handed_on}
use native.Mathlib.Omega.{arith}
use Rattle.blocks.proofs.decode.Goals as goal

pub returns-in_err-decode_test : goal.returns-in_err-decode_test
returns-in_err-decode_test c =
    ap (λ t. outcome t c.args.out.now) (handed_on _ _ _ (err_from_is_err_and _ c.from_residual.ensures.1) c.in_err-decode_test.was)
    ∙ decode_refused _ _ _ _ _ _ c.decode_test.ensures c.in_err-decode_test.was

pub slice_bounds-value-end : goal.slice_bounds-value-end
slice_bounds-value-end c =
    let f = decodes _ _ _ _ (sym c.decode_test.ensures ∙ c.in_ok-decode_test.was) in
    f.within.size_high

pub slice_bounds-decode_all-end : goal.slice_bounds-decode_all-end
slice_bounds-decode_all-end c =
    let f = decodes _ _ _ _ (sym c.decode_test.ensures ∙ c.in_ok-decode_test.was) in
    sym (length-take-le _ (zeros 256) f.within.size_high)

pub decode_all-requires : goal.decode_all-requires
decode_all-requires c =
    let f = decodes _ _ _ _ (sym c.decode_test.ensures ∙ c.in_ok-decode_test.was) in
    let g = f.within in
    let z = length-take-le _ (zeros 256) g.size_high in (
      omega arith,
      omega arith,
      f.enough,
      omega arith,
      omega arith,
      f.whole ∙ ap (λ (x : ℕ). length c.args.numbers.now * block_length x c.args.g.k) (sym z),
    )

pub returns-then-not-decode_all : goal.returns-then-not-decode_all
returns-then-not-decode_all c =
    let f = decodes _ _ _ _ (sym c.decode_test.ensures ∙ c.in_ok-decode_test.was) in
    disagreed _ _ _ _ _ _ _ c.decode_test.ensures c.in_ok-decode_test.was (length-take-le _ (zeros 256) f.within.size_high)
    c.decode_all.ensures.0 (ap not c.if-not-decode_all.true)

pub slice_bounds-value-end-2 : goal.slice_bounds-value-end-2
slice_bounds-value-end-2 c =
    let f = decodes _ _ _ _ (sym c.decode_test.ensures ∙ c.in_ok-decode_test.was) in
    let g = f.within in
    let d = c.decode_all in
    omega (arith, length_front (zeros 256) d.new.value c.args.g.size d.auto.value)

pub slice_bounds-put-end : goal.slice_bounds-put-end
slice_bounds-put-end c =
    let f = decodes _ _ _ _ (sym c.decode_test.ensures ∙ c.in_ok-decode_test.was) in
    let d = c.decode_all in
    let z = length-take-le _ (zeros 256) f.within.size_high in
    sym (ap length (front_back (zeros 256) d.new.value _ f.within.size_high d.auto.value) ∙ d.auto.value ∙ z)

pub put-requires : goal.put-requires
put-requires c =
    let f = decodes _ _ _ _ (sym c.decode_test.ensures ∙ c.in_ok-decode_test.was) in
    let d = c.decode_all in
    let z = length-take-le _ (zeros 256) f.within.size_high in
    let n = ap length (front_back (zeros 256) d.new.value _ f.within.size_high d.auto.value) ∙ d.auto.value ∙ z in
    omega arith

pub returns : goal.returns
returns c =
    let f = decodes _ _ _ _ (sym c.decode_test.ensures ∙ c.in_ok-decode_test.was) in
    let d = c.decode_all in
    agreed _ _ _ _ _ _ _ c.decode_test.ensures c.in_ok-decode_test.was (length-take-le _ (zeros 256) f.within.size_high)
    d.ensures.0 _ _ (ap not c.if-not-decode_all.false) c.put.ensures
    (front_back (zeros 256) d.new.value _ f.within.size_high d.auto.value ∙ d.ensures.1)
