use Prim.Native.Nat.{◌+◌, ◌*◌}
use Rattle.frame.specs.Frames.{length_of, body_length}
use mathlib.Core.Path.{ap, ◌∙◌}
use Rattle.frame.proofs.opener.body_length.Goals as goal

pub returns : goal.returns
unfolding body_length
returns c = (c.length_of.ensures.0 ∙ ap (λ x. length_of c.args.kind (32 * c.args.g.n + x)) c.width.ensures.0, c.length_of.ensures.1)
