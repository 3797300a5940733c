-- By the two bytes of the sender. Assumes nothing.
use mathlib.Core.Path.{refl}
use Rattle.host_facts.proofs.TraceLaws.{found_done}
use Rattle.host_facts.proofs.traces.found_answer.Goals as goal

pub returns : goal.returns
returns c = found_done _ _ _ _ c.party_bytes-party.ensures refl refl
