use mathlib.Core.Path.{ap, ◌∙◌}
use Prim.Native.Nat.{◌+◌}
use lib.ListN.{set}
use Rattle.history_text.specs.Decimals.{decimal}
use Rattle.history_sheet.specs.Sheet.{aligned}
use Rattle.history_sheet.proofs.Columns.{length_aligned}
use Rattle.history_sheet.proofs.Spaced.{put_last}
use Rattle.history_sheet.proofs.number.put_field.Goals as goal

pub returns : goal.returns
returns c =
    let a = c.args in
    ap (λ o. set o (a.at + a.w) a.end) c.put_number.ensures
    ∙ put_last a.out.now a.at a.w (aligned a.w (decimal a.n)) a.end (length_aligned a.w (decimal a.n) c.requires.1)
