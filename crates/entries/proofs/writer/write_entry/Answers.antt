-- Each outcome, by the laws of Writings.antt. Assumes nothing.
use Rattle.entries.proofs.Writings.{too_long_lem, too_short, entry_put}
use borrow.Author.Rules.{rules}
use Rattle.entries.proofs.writer.write_entry.Goals as goal

pub returns-then-f-gt-LONGEST : goal.returns-then-f-gt-LONGEST
returns-then-f-gt-LONGEST c = too_long_lem _ _ _ (search rules)

pub returns-then-out-size : goal.returns-then-out-size
returns-then-out-size c = too_short _ _ _ (search rules) (search rules)

pub returns : goal.returns
returns c =
    let a = c.args in
    entry_put a.sender a.f.now a.out.now _ _ _ (search rules) (search rules)
    c.lead_bytes-lead.ensures
    c.put.ensures c.put-2.ensures
