-- The number of each phase. Assumes nothing.
use borrow.Author.Rules.{rules}
use Rattle.layout.specs.Clients.{phase_byte}
use Rattle.layout.proofs.clients.phase_byte.Goals as goal

pub returns : goal.returns
unfolding phase_byte
returns c = search rules
