-- The client's own frame of its write: turned down, or its slot is stored. Assumes nothing.
use Rattle.std.specs.Prelude.{Err}
use borrow.Author.Rules.{rules}
use mathlib.Core.Path.{◌≡◌, refl, ap, ◌∙◌}
use lib.ListN.{length}
use Rattle.sha256.specs.Hash.{digest_of}
use Rattle.frame.specs.Messages.{Offer, send}
use Rattle.frame.specs.Frames.{offer_in}
use Rattle.frame.specs.Outbox.{outbox, first_place}
use Rattle.server.specs.Stages.{block_frame}
use Rattle.server_deliver.proofs.KindSteps.{offer_frame, carried_in, offer_is}
use Rattle.server_deliver.proofs.Votes.{send_says}
use Rattle.server_deliver.proofs.Writes.{write_refused, write_own}
use native.Mathlib.Omega.{arith}
use Rattle.server_deliver.proofs.kinds.step_of_send.Goals as goal

pub read8-time-requires : goal.read8-time-requires
read8-time-requires c =
    let a = c.args in
    let l = offer_frame a.k.params a.k.header.kind (length a.f.now) (omega (arith, c.requires.1)) (omega (arith, c.requires.1)) c.requires.0.frame_is in
    omega (arith, l)

pub slice_bounds-on_block_send-end : goal.slice_bounds-on_block_send-end
slice_bounds-on_block_send-end c =
    let a = c.args in
    let l = offer_frame a.k.params a.k.header.kind (length a.f.now) (omega (arith, c.requires.1)) (omega (arith, c.requires.1)) c.requires.0.frame_is in
    omega (arith, l)

pub slice_bounds-on_block_send-end-2 : goal.slice_bounds-on_block_send-end-2
slice_bounds-on_block_send-end-2 c =
    let a = c.args in
    let l = offer_frame a.k.params a.k.header.kind (length a.f.now) (omega (arith, c.requires.1)) (omega (arith, c.requires.1)) c.requires.0.frame_is in
    omega (arith, l, c.width.ensures.0)

pub on_block_send-requires : goal.on_block_send-requires
on_block_send-requires c =
    let a = c.args in
    let P = c.requires.0 in
    let l = offer_frame a.k.params a.k.header.kind (length a.f.now) (omega (arith, c.requires.1)) (omega (arith, c.requires.1)) P.frame_is in
    (record { bounded = P.bounded; own_low = P.own_low; own_high = P.own_high }, P.room, carried_in a.k.params a.f.now _ c.width.ensures.0 l)

pub returns-in_err-m : goal.returns-in_err-m
returns-in_err-m c =
    let a = c.args in
    let e = c.requires.1 in
    let r : c.from_residual.result ≡ Err c.in_err-m.field-0.0 = search rules in
    λ rs z i w K. rw r (write_refused digest_of a.k a.s rs _ z z a.f.now _ _ _ _ send (offer_in a.k.params a.f.now) (send_says a.k.params a.f.now a.k.header.kind e)
    ((c.on_block_send.ensures z).handles ∙ ap (λ (o : Offer). block_frame digest_of a.k a.s.slot z send o (outbox a.out.now a.to.now first_place)) (offer_is a.k.params a.f.now _ _ c.read8-time.ensures c.width.ensures.0))
    i w K _ c.in_err-m.was)

pub returns : goal.returns
returns c =
    let a = c.args in
    let e = c.requires.1 in
    λ rs z i w K. write_own digest_of a.k a.s rs _ z z a.f.now _ _ _ _ send (offer_in a.k.params a.f.now) (send_says a.k.params a.f.now a.k.header.kind e)
    ((c.on_block_send.ensures z).handles ∙ ap (λ (o : Offer). block_frame digest_of a.k a.s.slot z send o (outbox a.out.now a.to.now first_place)) (offer_is a.k.params a.f.now _ _ c.read8-time.ensures c.width.ensures.0))
    i w K refl _ c.in_ok-m.was
