-- The first loop stores the block's words one by one, the second the other words four at a time; after the words so far there are zeros. Assumes nothing.
use Rattle.std.proofs.Common.{◌≡◌, refl, ◌∙◌, append-nil, arith}
use Rattle.sha256.proofs.Words.{word_turn, words_done, length_block_words, store_turn}
use Rattle.sha256.specs.Hash.{schedule}
use Rattle.area.specs.Area.{table, table_from}
use Rattle.sha256.proofs.schedule.Goals as goal

pub loop-j-init : goal.loop-j-init
unfolding table table_from
loop-j-init c = refl

pub loop-j-preserved : goal.loop-j-preserved
loop-j-preserved c = word_turn _ _ _ _ _ _ c.loop-j.invariant c.read4.ensures

pub loop-q-init : goal.loop-q-init
loop-q-init c = words_done _ _ _ _ (omega arith) c.loop-j.invariant

pub loop-q-preserved : goal.loop-q-preserved
loop-q-preserved c = store_turn _ (length_block_words _ _) _ _ _ (omega arith) c.loop-q.invariant c.store_four.ensures

pub returns : goal.returns
unfolding schedule
returns c =
    let e : c.loop-q.q ≡ 12 = omega arith in
    c.loop-q.invariant ∙ rw e (append-nil _)
