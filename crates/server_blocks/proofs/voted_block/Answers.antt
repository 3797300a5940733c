-- No list is compared where nothing depends on the counted echoes and readies. Assumes nothing.
use Rattle.server_blocks.proofs.Counts.{stored}
use Rattle.server_blocks.proofs.Fewer.{unlisted}
use Rattle.server_blocks.proofs.Rooms.{room_before}
use Rattle.sha256.specs.Hash.{digest_of}
use mathlib.Core.Path.{sym, ◌∙◌}
use native.Mathlib.Omega.{arith}
use Rattle.server_blocks.proofs.voted_block.Goals as goal

pub tally-e-requires : goal.tally-e-requires
tally-e-requires c = c.requires.0.bounded.servers_high

pub tally-r-requires : goal.tally-r-requires
tally-r-requires c = c.requires.0.bounded.servers_high

pub matters-requires : goal.matters-requires
matters-requires c = let B = c.requires.0.bounded in (B, omega (arith, c.tally-e.ensures.1, B.servers_high))

pub returns-then-matters : goal.returns-then-matters
returns-then-matters c = c.voted_group.ensures

pub returns : goal.returns
returns c =
    let P = c.requires in
    let a = c.args in record {
      leaves = λ b.
          unlisted digest_of a.k a.area.now a.list.now b (stored _ _ _ _ _ _ _ P.0) a.time a.x P.1 _ _ _ c.tally-e.ensures.0 c.tally-r.ensures.0 (sym c.matters.ensures ∙ c.if-matters.false);
      room = room_before _ _ _ P.0.room;
    }
