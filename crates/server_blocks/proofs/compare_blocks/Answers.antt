-- The comparison tells what is due. Assumes nothing.
use Rattle.server_blocks.proofs.Counts.{voters_few, stored, regaining}
use Rattle.server_blocks.proofs.Comparison.{block_room, block_length_lem, block_front}
use Rattle.server_blocks.proofs.Voting.{compared}
use Rattle.sha256.specs.Hash.{digest_of}
use mathlib.Core.Path.{refl, sym, ◌∙◌}
use native.Mathlib.Omega.{arith}
use Rattle.server_blocks.proofs.compare_blocks.Goals as goal

pub own_block-equal-requires : goal.own_block-equal-requires
own_block-equal-requires c =
    let P = c.requires in
    let a = c.args in
    let G = regaining _ _ a.list.now a.time _ a.x.blocks _ (stored _ _ _ _ _ _ _ P.0) P.3 _ _ P.4 in
    (G, P.2, omega arith)

pub due_for-d-requires : goal.due_for-d-requires
due_for-d-requires c = let P = c.requires in (P.0.bounded, voters_few _ _ _ _ _ _ _ P.0.bounded P.3)

pub slice_bounds-block-end : goal.slice_bounds-block-end
slice_bounds-block-end c =
    let P = c.requires in
    let a = c.args in
    let G = regaining _ _ a.list.now a.time _ a.x.blocks _ (stored _ _ _ _ _ _ _ P.0) P.3 _ _ P.4 in
    block_room _ _ _ _ G _ _ _ _ c.width-w.ensures.0 c.width-w.ensures.2 refl c.own_block-equal.ensures.1

pub slice_bounds-answer-end : goal.slice_bounds-answer-end
slice_bounds-answer-end c =
    let P = c.requires in
    let a = c.args in
    let G = regaining _ _ a.list.now a.time _ a.x.blocks _ (stored _ _ _ _ _ _ _ P.0) P.3 _ _ P.4 in
    block_length_lem _ _ _ _ G _ _ _ _ c.width-w.ensures.0 c.width-w.ensures.2 refl c.own_block-equal.ensures.1

pub answer-requires : goal.answer-requires
answer-requires c =
    let P = c.requires in
    let a = c.args in
    let G = regaining _ _ a.list.now a.time _ a.x.blocks _ (stored _ _ _ _ _ _ _ P.0) P.3 _ _ P.4 in
    (P.0, record { list_is = P.2; block_is_lem = sym (block_length_lem _ _ _ _ G _ _ _ _ c.width-w.ensures.0 c.width-w.ensures.2 refl c.own_block-equal.ensures.1) ∙ c.width-w.ensures.0 })

pub returns : goal.returns
returns c =
    let P = c.requires in
    let a = c.args in
    let G = regaining _ _ a.list.now a.time _ a.x.blocks _ (stored _ _ _ _ _ _ _ P.0) P.3 _ _ P.4 in record {
      leaves = λ b.
          compared digest_of a.k a.area.now a.list.now b (stored _ _ _ _ _ _ _ P.0) a.time a.x P.1 _ a.v c.own_block-equal.result c.due_for-d.result _ _ P.3
          (block_front _ _ _ _ G _ _ _ _ c.width-w.ensures.0 c.width-w.ensures.2 refl c.own_block-equal.ensures.1) c.own_block-equal.ensures.0 c.due_for-d.ensures c.answer.ensures.leaves;
      room = c.answer.ensures.room;
    }
