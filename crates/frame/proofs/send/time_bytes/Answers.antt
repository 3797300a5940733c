use Rattle.area.specs.Numbers.{bytes2, bytes4, bytes8}
use Rattle.frame.proofs.send.time_bytes.Goals as goal

pub returns : goal.returns
unfolding bytes8 bytes4 bytes2
returns c = c.write8.ensures
