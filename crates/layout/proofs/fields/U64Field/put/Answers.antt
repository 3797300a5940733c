-- There is room, so the number is stored. Assumes nothing.
use native.Mathlib.Omega.{arith}
use Rattle.area.proofs.Numbers.{length_bytes8}
use Rattle.quorum.proofs.Logic.{impossible}
use Rattle.layout.proofs.fields.U64Field.put.Goals as goal

pub returns-clause-wide : goal.returns-clause-wide
returns-clause-wide c = length_bytes8 c.args.self.now
