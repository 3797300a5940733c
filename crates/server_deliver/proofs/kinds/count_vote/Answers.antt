-- An echo or a ready is counted as the message that the frame says. Assumes nothing.
use mathlib.Core.Path.{ap, ◌∙◌}
use lib.ListN.{length}
use Rattle.sha256.specs.Hash.{digest_of}
use Rattle.frame.specs.Messages.{Offer}
use Rattle.frame.specs.Outbox.{outbox, first_place}
use Rattle.server.specs.Stages.{block_frame}
use Rattle.server_blocks.specs.Stage.{vote_stage}
use Rattle.server_deliver.proofs.KindSteps.{offer_frame, carried_in, offer_is}
use native.Mathlib.Omega.{arith}
use Rattle.server_deliver.proofs.kinds.count_vote.Goals as goal

pub read8-time-requires : goal.read8-time-requires
read8-time-requires c =
    let a = c.args in
    let l = offer_frame a.k.params a.k.header.kind (length a.f.now) (omega (arith, c.requires.1)) c.requires.2 c.requires.0.frame_is in
    omega (arith, l)

pub slice_bounds-on_block_vote-end : goal.slice_bounds-on_block_vote-end
slice_bounds-on_block_vote-end c =
    let a = c.args in
    let l = offer_frame a.k.params a.k.header.kind (length a.f.now) (omega (arith, c.requires.1)) c.requires.2 c.requires.0.frame_is in
    omega (arith, l)

pub slice_bounds-on_block_vote-end-2 : goal.slice_bounds-on_block_vote-end-2
slice_bounds-on_block_vote-end-2 c =
    let a = c.args in
    let l = offer_frame a.k.params a.k.header.kind (length a.f.now) (omega (arith, c.requires.1)) c.requires.2 c.requires.0.frame_is in
    omega (arith, l, c.width.ensures.0)

pub on_block_vote-requires : goal.on_block_vote-requires
on_block_vote-requires c =
    let a = c.args in
    let l = offer_frame a.k.params a.k.header.kind (length a.f.now) (omega (arith, c.requires.1)) c.requires.2 c.requires.0.frame_is in
    (c.requires.0.lent, carried_in a.k.params a.f.now _ c.width.ensures.0 l)

pub returns : goal.returns
returns c =
    let a = c.args in
    record {
      handles = c.on_block_vote.ensures.handles
          ∙ ap (λ (o : Offer). block_frame digest_of a.k a.x a.area.now (vote_stage a.k.header.kind) o (outbox a.out.now a.to.now first_place)) (offer_is a.k.params a.f.now _ _ c.read8-time.ensures c.width.ensures.0);
      room = c.on_block_vote.ensures.room;
    }
