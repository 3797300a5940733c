-- By the sender's two bytes. Assumes nothing.
use Rattle.entries.proofs.Writings.{lead_of}
use Rattle.entries.proofs.writer.lead_bytes.Goals as goal

pub returns : goal.returns
returns c = lead_of _ _ _ c.party_bytes-party.ensures
