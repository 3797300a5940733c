-- Turned down as the tests say, or the whole outcome. Assumes nothing.
use lib.ListN.{length}
use Rattle.sha256.specs.Hash.{digest_of}
use Rattle.server.proofs.Constructing.{sound_of, construct_bad, construct_fine}
use Rattle.server.proofs.setup.construct.Goals as goal

pub returns-in-Err : goal.returns-in-Err
returns-in-Err c =
    let a = c.args in
    construct_bad digest_of a.g a.me a.value.now a.area.now a.initial.now _ _ c.fresh-server.ensures c.construct_test-v.ensures _ c.in-Err.is

pub store_initial-requires : goal.store_initial-requires
store_initial-requires c =
    let a = c.args in
    let S = sound_of digest_of a.g a.me a.value.now (length a.area.now) (length a.initial.now) _ c.construct_test-v.ensures c.in_default.is in
    (S.bounded, S.value_is_lem, S.whole, S.initial_whole)

pub returns : goal.returns
returns c =
    let a = c.args in
    construct_fine digest_of a.g a.me a.value.now a.area.now a.initial.now _ _ c.fresh-server.ensures c.construct_test-v.ensures _ _ c.in_default.is c.store_initial.ensures.0 c.store_initial.ensures.1
