-- The parts are stored one after the other. Assumes nothing.
use mathlib.Core.Path.{refl}
use Rattle.layout.proofs.Lengths.{length_reader}
use Rattle.layout.proofs.Puts.{reader_put}
use Rattle.layout.proofs.servers.ReaderField.put.Goals as goal

pub returns-clause-puts : goal.returns-clause-puts
returns-clause-puts c = reader_put _ _ _ _ _ c.args.self.now _ refl c.write4.ensures c.put.ensures.puts c.put-2.ensures.puts

pub returns-clause-wide : goal.returns-clause-wide
returns-clause-wide c = length_reader c.args.self.now
