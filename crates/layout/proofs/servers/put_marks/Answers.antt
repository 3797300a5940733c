-- The parts are stored one after the other. Assumes nothing.
use mathlib.Core.Path.{refl}
use Rattle.layout.proofs.Puts.{marks_put}
use Rattle.layout.proofs.servers.put_marks.Goals as goal

pub returns : goal.returns
returns c = marks_put _ _ _ _ _ _ _ _ _ _ _ refl refl refl c.put.ensures.puts c.put-2.ensures.puts c.put-3.ensures.puts
