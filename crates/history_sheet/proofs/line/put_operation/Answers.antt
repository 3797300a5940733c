-- Fields, spaces and a newline end to end. Assumes nothing.
use Rattle.history_sheet.proofs.Lines.{operation_put}
use Rattle.history_sheet.proofs.line.put_operation.Goals as goal

pub returns : goal.returns
returns c =
    operation_put c.args.a c.requires.2 c.args.place c.requires.1 c.args.out.now _ _ _ c.args.at
    c.put_interval.ensures c.put_stamp.ensures c.fill.ensures
