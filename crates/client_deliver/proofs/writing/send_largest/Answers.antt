-- The largest time that counts is the last, or the blocks go out with it. Assumes nothing.
use Rattle.client_deliver.proofs.WriteLaws.{out_of_stamps_lem, write_sent}
use Rattle.client_deliver.proofs.writing.send_largest.Goals as goal

pub returns-then-time-ge-LAST_TIME : goal.returns-then-time-ge-LAST_TIME
returns-then-time-ge-LAST_TIME c =
    let a = c.args in
    λ z l. out_of_stamps_lem a.g a.me a.s a.value.now z l _ _ _ _ c.largest_counted-time.ensures c.if-time-ge-LAST_TIME.true c.shut-client.ensures

pub returns : goal.returns
returns c =
    let a = c.args in
    λ z l. write_sent a.g a.me a.s a.value.now z l _ _ _ _ _ _ _ c.largest_counted-time.ensures c.if-time-ge-LAST_TIME.false c.in_phase-client.ensures c.disperse-p.ensures
