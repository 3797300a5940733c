-- Two bytes stored. Assumes nothing.
use native.Mathlib.Numerals.{add-one}
use Rattle.history_sheet.proofs.line.put_kind.Goals as goal

pub returns : goal.returns
returns c = rw (add-one, c.kind.ensures)
