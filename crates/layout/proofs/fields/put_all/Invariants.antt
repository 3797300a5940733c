-- After j turns the first j elements are stored. Assumes nothing.
use Prim.Native.Nat.{ℕ, ◌*◌}
use mathlib.Core.Path.{◌≡◌}
use lib.Seq.{sets}
use lib.ListN.{length, get_or}
use Rattle.area.specs.Area.{joined}
use Rattle.layout.proofs.fields.put_all.Given as goal

abbrev pub invariant-loop-j : goal.invariant-loop-j
invariant-loop-j g l =
    let f = λ (k : ℕ). g.T.Field.written (get_or l.fn.xs k g.T.Field.blank) in
    (l.out ≡ sets l.fn.out l.at (joined f 0 l.j)) × (length (joined f 0 l.j) ≡ l.j * g.T.Field.WIDTH) × (length l.out ≡ length l.fn.out)
