-- Assumes nothing.
use Rattle.sha256.specs.Hash.{digest_of}
use Rattle.frame.specs.Frames.{value_at}
use Rattle.client_deliver.proofs.Senders.{fit_in}
use Rattle.client_deliver.proofs.tests.entry_fit.Goals as goal

pub returns : goal.returns
returns c =
    let a = c.args in
    fit_in digest_of a.g a.f.now value_at _ a.j _ c.width.ensures.0 c.fit_test.ensures
