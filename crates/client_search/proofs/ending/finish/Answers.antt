-- The value, the frames and the client, one by one. Assumes nothing.
use Rattle.client_search.proofs.Endings.{finish_law}
use Rattle.client_search.proofs.ending.finish.Goals as goal

pub returns : goal.returns
returns c =
    let v = c.regain_value-agree.ensures in
    finish_law _ _ _ _ _ _ _ _ _ _ _ _ _ _ _ _ v.0 v.1 c.read_answer-answer.ensures c.ask_all.ensures
    c.in_phase-client.ensures
