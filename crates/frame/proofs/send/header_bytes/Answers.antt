use mathlib.Core.Path.{refl}
use Rattle.area.specs.Numbers.{bytes2, bytes4}
use Rattle.frame.specs.Frames.{header_bytes}
use Rattle.frame.proofs.send.header_bytes.Goals as goal

pub returns : goal.returns
unfolding header_bytes bytes2 bytes4
returns c = refl
