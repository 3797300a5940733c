-- The whole outcome, by the laws of Laws.antt. Assumes nothing.
use mathlib.Core.Path.{sym}
use native.Mathlib.Omega.{arith}
use lib.ListN.{length-take}
use lib.Seq.{length-take-le}
use Rattle.area.specs.Area.{pick}
use Rattle.area.proofs.Tests.{tests}
use Rattle.semduoli.proofs.Laws.{judged_done, few_answer, whole_answer}
use Rattle.semduoli.specs.Calls.{history_call}
use Rattle.semduoli.proofs.histories.semduoli_judge.Goals as goal

pub returns-then-lines-lt64 : goal.returns-then-lines-lt64
unfolding history_call pick
returns-then-lines-lt64 c = search tests

pub shared_ref_as_front-put : goal.shared_ref_as_front-put
shared_ref_as_front-put c =
    let e = c.judge_text-verdict.ensures in
    let w = whole_answer _ _ e in
    let f = few_answer _ _ _ e c.line_count-count.ensures in
    omega (arith, w, f)

pub slice_bounds-put-end : goal.slice_bounds-put-end
slice_bounds-put-end c =
    let e = c.judge_text-verdict.ensures in
    let w = whole_answer _ _ e in
    let f = few_answer _ _ _ e c.line_count-count.ensures in
    sym (length-take-le _ _ (omega (arith, w, f)))

pub put-requires : goal.put-requires
put-requires c =
    let e = c.judge_text-verdict.ensures in
    let w = whole_answer _ _ e in
    let f = few_answer _ _ _ e c.line_count-count.ensures in
    let l = length-take c.line_count-count.result c.judge_text-verdict.result.lines in
    omega (arith, w, f, l)

pub returns : goal.returns
returns c =
    judged_done _ _ _ c.judge_text-verdict.ensures c.if-lines-lt64.false _ c.history_answer.ensures _ c.line_count-count.ensures _
    c.put.ensures
