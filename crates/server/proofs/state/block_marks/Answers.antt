-- Each mark by its test. Assumes nothing.
use mathlib.Core.Bool.{Bool, true, false, not, ◌&&◌, ◌||◌}
use mathlib.Core.Path.{◌≡◌, refl, ap, ap₂, sym, ◌∙◌}
use Rattle.area.specs.Area.{pick}
use Rattle.server.proofs.state.block_marks.Goals as goal
use Rattle.server.proofs.state.block_marks.Goals.{then-not-b+then-full, else-not-b, else-not-b-via-then-not-b+else-full, else-not-b-via-else-not-b}
use Rattle.server.proofs.state.block_marks.Goals.{then-b, else-b, then-b-2, else-b-2}

pub returns : goal.returns
unfolding pick
returns c =
    let a = c.args in
    let b = a.x.blocks in
    let ready : c.if-b.result ≡ (b.ready || a.due) =
    elim c.if-b.branch [
      | then-b w ↦ w.result-is ∙ w.if-b.true ∙ sym (ap (λ (z : Bool). z || a.due) w.if-b.true)
      | else-b w ↦ w.result-is ∙ sym (ap (λ (z : Bool). z || a.due) w.if-b.false)
    ] in
    let complete : c.if-b-2.result ≡ (b.complete || a.full) =
    elim c.if-b-2.branch [
      | then-b-2 w ↦ w.result-is ∙ w.if-b-2.true ∙ sym (ap (λ (z : Bool). z || a.full) w.if-b-2.true)
      | else-b-2 w ↦ w.result-is ∙ sym (ap (λ (z : Bool). z || a.full) w.if-b-2.false)
    ] in
    let time : c.if-not-b.time ≡ pick (not b.complete && a.full) a.time b.time =
    elim c.if-not-b.branch [
      | then-not-b+then-full w ↦ w.time-is ∙ sym (ap₂ (λ (y z : Bool). pick (y && z) a.time b.time) (ap not w.if-not-b.true) w.if-full.true)
      | else-not-b w ↦
          w.time-is
          ∙ elim w.else-not-b.branch [
            | else-not-b-via-then-not-b+else-full v ↦ sym (ap₂ (λ (y z : Bool). pick (y && z) a.time b.time) (ap not v.if-not-b.true) v.if-full.false)
            | else-not-b-via-else-not-b v ↦ sym (ap (λ (y : Bool). pick (y && a.full) a.time b.time) (ap not v.if-not-b.false))
          ]
    ] in
    cc
