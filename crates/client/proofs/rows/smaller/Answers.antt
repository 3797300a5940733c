use mathlib.Core.Path.{refl}
use Rattle.area.proofs.Tests.{pick_yes, pick_no}
use native.Mathlib.Omega.{arith}
use Rattle.client.proofs.rows.smaller.Goals as goal

pub returns-then-is_older : goal.returns-then-is_older
returns-then-is_older c = (pick_yes _ _ _ c.is_older.ensures c.if-is_older.true refl, omega arith)

pub returns-else-is_older : goal.returns-else-is_older
returns-else-is_older c = (pick_no _ _ _ c.is_older.ensures c.if-is_older.false refl, omega arith)
