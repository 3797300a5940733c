use Rattle.history_sheet.proofs.Lines.{blank_put}
use Rattle.history_sheet.proofs.line.put_blank.Goals as goal

pub returns : goal.returns
returns c = blank_put _ _ _ c.fill.ensures
