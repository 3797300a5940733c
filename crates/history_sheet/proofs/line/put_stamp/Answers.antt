-- The fields end to end. Assumes nothing.
use Rattle.history_sheet.proofs.Lines.{stamp_fits, writer_fits, sequence_fits, caller_fits, stamp_put}
use borrow.Author.Rules.{rules}
use Rattle.history_sheet.proofs.line.put_stamp.Goals as goal

pub put_field-requires : goal.put_field-requires
put_field-requires c = (search rules, stamp_fits c.args.a c.requires.1)

pub put_field-requires-2 : goal.put_field-requires-2
put_field-requires-2 c = (search rules, writer_fits c.args.a c.requires.1)

pub put_field-requires-3 : goal.put_field-requires-3
put_field-requires-3 c = (search rules, sequence_fits c.args.a c.requires.1)

pub put_field-requires-4 : goal.put_field-requires-4
put_field-requires-4 c = (search rules, caller_fits c.args.a c.requires.1)

pub returns : goal.returns
returns c =
    stamp_put c.args.a c.requires.1 c.args.out.now _ _ _ _ c.args.at
    c.put_field.ensures c.put_field-2.ensures c.put_field-3.ensures c.put_field-4.ensures
