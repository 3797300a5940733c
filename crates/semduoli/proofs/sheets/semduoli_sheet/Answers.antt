-- The whole outcome of `lay`, its answer as a number. Assumes nothing.
use Rattle.semduoli.proofs.Laws.{sheet_done}
use Rattle.semduoli.proofs.sheets.semduoli_sheet.Goals as goal

pub returns : goal.returns
returns c = sheet_done _ _ _ _ _ c.lay.ensures c.sheet_answer.ensures
