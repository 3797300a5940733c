use Rattle.frame.proofs.Writing.{none_sent, one_more, room_for_one, place_after, after_one, length_written}
use mathlib.Core.Path.{◌≡◌, refl, ap, ◌∙◌}
use mathlib.Core.List.{◌++◌}
use Rattle.frame.specs.Frames.{frame_of}
use Rattle.frame.specs.Outbox.{outbox, wrote, wrote_to}
use native.Mathlib.Omega.{arith}
use Rattle.frame.proofs.send.deposit_all.Goals as goal

pub loop-j-init : goal.loop-j-init
loop-j-init c = (omega arith, none_sent _ _ _, omega arith, omega arith, refl, refl)

pub deposit-q-requires : goal.deposit-q-requires
deposit-q-requires c =
    let i = c.loop-j.invariant in
    room_for_one c.args.p c.loop-j.q c.loop-j.j c.args.n _ _ _ _ _ c.loop-j-test.true c.requires.1 i.2 i.3 i.4 i.5

pub loop-j-preserved : goal.loop-j-preserved
loop-j-preserved c =
    let a = c.args in
    let f = frame_of a.h.kind a.h.client a.h.sequence (a.b.lead.now ++ (a.b.digests.now ++ a.b.block.now)) in
    let l₀ = c.loop-j in
    let i = l₀.invariant in
    let e = c.deposit-q.ensures in
    let p = c.party_in.ensures in
    let w = after_one _ _ _ _ _ _ _ _ e in
    let l = length_written a.h.kind a.h.client a.h.sequence a.b.lead.now a.b.digests.now a.b.block.now in (
      omega arith,
      e ∙ ap (λ z. wrote z c.party_in.result f) i.1 ∙ ap (λ z. wrote (wrote_to a.class (outbox a.out.now a.to.now a.p) f l₀.j) z f) p ∙ one_more a.class _ f l₀.j,
      place_after _ _ _ l₀.j _ _ w.at_is l i.2,
      omega (arith, w.count_is, i.3),
      w.out_long ∙ i.4,
      w.to_long ∙ i.5,
    )

pub shape_of-out : goal.shape_of-out
shape_of-out c = c.loop-j.invariant.4

pub shape_of-to : goal.shape_of-to
shape_of-to c = c.loop-j.invariant.5

pub returns : goal.returns
returns c =
    let a = c.args in
    let e : c.loop-j.j ≡ a.n = omega arith in
    c.loop-j.invariant.1 ∙ ap (wrote_to a.class (outbox a.out.now a.to.now a.p) (frame_of a.h.kind a.h.client a.h.sequence (a.b.lead.now ++ (a.b.digests.now ++ a.b.block.now)))) e
