-- The comparison is made where something depends on it. Assumes nothing.
use Rattle.server_blocks.proofs.Counts.{voters_few, stored}
use Rattle.server_blocks.proofs.Voting.{skipped}
use Rattle.server_blocks.proofs.Rooms.{room_before}
use Rattle.sha256.specs.Hash.{digest_of}
use mathlib.Core.Path.{sym, ◌∙◌}
use Rattle.server_blocks.proofs.voted_group.Goals as goal

pub voters_of-v-requires : goal.voters_of-v-requires
voters_of-v-requires c = stored _ _ _ _ _ _ _ c.requires.0

pub matters-requires : goal.matters-requires
matters-requires c = let P = c.requires in (P.0.bounded, voters_few _ _ _ _ _ _ _ P.0.bounded c.voters_of-v.ensures)

pub compare_blocks-requires : goal.compare_blocks-requires
compare_blocks-requires c = let P = c.requires in (P.0, P.1, P.2, c.voters_of-v.ensures, sym c.matters.ensures ∙ c.if-matters.true)

pub returns-then-matters : goal.returns-then-matters
returns-then-matters c = c.compare_blocks.ensures

pub returns : goal.returns
returns c =
    let P = c.requires in
    let a = c.args in record {
      leaves = λ b.
          skipped digest_of a.k a.area.now a.list.now b (stored _ _ _ _ _ _ _ P.0) a.time a.x P.1 _ c.voters_of-v.result c.voters_of-v.ensures (sym c.matters.ensures ∙ c.if-matters.false);
      room = room_before _ _ _ P.0.room;
    }
