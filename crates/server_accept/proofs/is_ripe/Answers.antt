use Prim.Native.Nat.{◌<◌}
use mathlib.Core.Path.{sym, ◌∙◌}
use borrow.Author.Tests.{le-leb, leb-true, leb-false, ltb-true}
use Rattle.server_accept.proofs.Acceptance.{last_time_lem, no_sequence, own_reaches, is_vouched}
use native.Mathlib.Omega.{arith}
use Rattle.server_accept.proofs.is_ripe.Goals as goal
use Rattle.server_accept.proofs.is_ripe.Goals.{then-time-lt-LAST_TIME, else-time-lt-LAST_TIME}

pub returns-then-time-own : goal.returns-then-time-own
returns-then-time-own c =
    let a = c.args in
    elim c.if-time-lt-LAST_TIME.branch [
      | then-time-lt-LAST_TIME w ↦
          le-leb _ _ c.if-time-own.true
          ∙ own_reaches a.g a.own a.reports a.time a.sequence (omega (arith, w.if-time-lt-LAST_TIME.true))
          (leb-true _ _ (sym w.value-is ∙ c.if-sequence.true)) (omega (arith, c.if-time-own.true))
      | else-time-lt-LAST_TIME w ↦
          let t = ltb-true _ _ (sym w.value-is ∙ c.if-sequence.true) in
          absurd (omega (arith, w.if-time-lt-LAST_TIME.false))
    ]

pub returns-else-time-own : goal.returns-else-time-own
returns-else-time-own c =
    let a = c.args in
    elim c.if-time-lt-LAST_TIME.branch [
      | then-time-lt-LAST_TIME w ↦
          is_vouched a.g a.own a.reports a.time a.sequence (omega (arith, w.if-time-lt-LAST_TIME.true))
          (leb-true _ _ (sym w.value-is ∙ c.if-sequence.true)) (omega (arith, c.if-time-own.false)) _ c.is_backed.ensures
      | else-time-lt-LAST_TIME w ↦
          let t = ltb-true _ _ (sym w.value-is ∙ c.if-sequence.true) in
          absurd (omega (arith, w.if-time-lt-LAST_TIME.false))
    ]

pub returns-else-sequence : goal.returns-else-sequence
returns-else-sequence c =
    let a = c.args in
    let f = c.if-sequence.false in
    f ∙ elim c.if-time-lt-LAST_TIME.branch [
      | then-time-lt-LAST_TIME w ↦ no_sequence a.g a.own a.reports a.time a.sequence (leb-false _ _ (sym w.value-is ∙ f))
      | else-time-lt-LAST_TIME w ↦ last_time_lem a.g a.own a.reports a.time a.sequence (omega (arith, w.if-time-lt-LAST_TIME.false))
    ]
