use Rattle.client.proofs.fresh.fresh_rows.Goals as goal

pub returns : goal.returns
returns c = cc
