-- The fields end to end. Assumes nothing.
use Rattle.history_sheet.proofs.Lines.{place_fits, start_fits, end_fits, interval_put}
use borrow.Author.Rules.{rules}
use Rattle.history_sheet.proofs.line.put_interval.Goals as goal

pub put_field-requires : goal.put_field-requires
put_field-requires c = (search rules, place_fits _ c.requires.1)

pub put_field-requires-2 : goal.put_field-requires-2
put_field-requires-2 c = (search rules, start_fits c.args.a c.requires.2)

pub put_field-requires-3 : goal.put_field-requires-3
put_field-requires-3 c = (search rules, end_fits c.args.a c.requires.2)

pub returns : goal.returns
returns c =
    interval_put c.args.a c.requires.2 c.args.place c.requires.1 c.args.out.now _ _ _ _ c.args.at
    c.put_field.ensures c.put_kind.ensures c.put_field-2.ensures c.put_field-3.ensures
