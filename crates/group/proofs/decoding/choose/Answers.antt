-- After j turns the k lowest flagged servers of 1 to j are stored, c of them. Assumes nothing.
use mathlib.Core.Path.{refl, ◌∙◌}
use borrow.Author.Tests.{lt-ltb, le-ltb}
use native.Mathlib.Omega.{arith}
use Rattle.area.specs.Area.{pick}
use Rattle.group.specs.Entries.{marked}
use Rattle.group.proofs.Choosing.{lowest_none, number_turn, number_end}
use Rattle.group.proofs.decoding.choose.Goals.{then-mark+then-c-k, else-mark, else-mark-via-then-mark+else-c-k, else-mark-via-else-mark}
use Rattle.group.proofs.decoding.choose.Goals as goal

pub loop-j-init : goal.loop-j-init
loop-j-init c = (rw lowest_none, rw lowest_none, omega arith)

pub loop-j-preserved : goal.loop-j-preserved
unfolding marked pick
loop-j-preserved c =
    let inv = c.loop-j.invariant in
    elim c.if-mark.branch [
      | then-mark+then-c-k w ↦
          let t = lt-ltb _ _ w.if-c-k.true in
          number_turn _ _ _ _ _ _ _ _ _ inv.0 inv.1 refl (w.c-is ∙ rw (w.if-mark.true, t)) (w.numbers-is ∙ rw (w.if-mark.true, t))
      | else-mark w ↦ elim w.else-mark.branch [
        | else-mark-via-then-mark+else-c-k v ↦
            let t = le-ltb _ _ v.if-c-k.false in
            number_turn _ _ _ _ _ _ _ _ _ inv.0 inv.1 refl (w.c-is ∙ rw (v.if-mark.true, t)) (w.numbers-is ∙ rw (v.if-mark.true, t))
        | else-mark-via-else-mark v ↦
            number_turn _ _ _ _ _ _ _ _ _ inv.0 inv.1 refl (w.c-is ∙ rw v.if-mark.false) (w.numbers-is ∙ rw v.if-mark.false)
      ]
    ]

pub returns : goal.returns
returns c = number_end _ _ _ _ _ _ (omega arith) (omega arith) c.loop-j.invariant.0
