-- By the answer to the history. Assumes nothing.
use Rattle.std.proofs.Common.{◌∙◌, sym}
use Rattle.std.proofs.lemmas.Result.{err_from_is_err_and}
use Rattle.history_sheet.proofs.Layings.{text_unread, text_ready, text_laid, text_fault}
use Rattle.history_sheet.proofs.lay.Goals as goal

pub returns-in-Err : goal.returns-in-Err
returns-in-Err c = rw c.number_of.ensures (text_unread c.args.text.now _ _ (sym c.in-Err.is ∙ c.read_text.ensures))

pub returns-in_err-m : goal.returns-in_err-m
returns-in_err-m c =
    let p = err_from_is_err_and c.from_residual.result c.from_residual.ensures.1 in
    rw (p.1, p.2)
    (text_fault c.in-Ok.history _ c.args.text.now (sym c.in-Ok.is ∙ c.read_text.ensures) c.judge_reading-verdict.ensures _ _ c.in_err-m.was)

pub put_sheet-requires : goal.put_sheet-requires
put_sheet-requires c =
    (text_ready c.in-Ok.history _ c.args.text.now (sym c.in-Ok.is ∙ c.read_text.ensures) c.judge_reading-verdict.ensures _ c.in_ok-m.was).there

pub returns : goal.returns
returns c =
    text_laid c.in-Ok.history _ c.args.text.now (sym c.in-Ok.is ∙ c.read_text.ensures) c.judge_reading-verdict.ensures _ c.in_ok-m.was _ _ _ c.put_sheet.ensures
