use mathlib.Core.Path.{sym}
use borrow.Author.Tests.{le-leb, lt-leb}
use Rattle.history_text.proofs.Laws.{fits_equal}
use Prim.Native.Nat.{◌+◌, ◌*◌}
use native.Mathlib.Omega.{arith}
use Rattle.history_text.proofs.number.fits.Goals as goal

pub returns-then-value-most : goal.returns-then-value-most
returns-then-value-most c = let a = c.args in sym (le-leb (a.value * 10 + a.d) a.limit (omega arith))

pub returns-then-most-value : goal.returns-then-most-value
returns-then-most-value c = let a = c.args in sym (lt-leb (a.value * 10 + a.d) a.limit (omega arith))

pub returns : goal.returns
returns c = let a = c.args in fits_equal a.value a.d a.limit (omega arith)
