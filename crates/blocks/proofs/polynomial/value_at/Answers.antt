-- The fold over the coefficients from the last to the first, by Horner's rule. Assumes nothing.
use mathlib.Core.Path.{◌≡◌, ◌∙◌}
use mathlib.Core.List.{reverse}
use lib.Bits.{bit_xor}
use borrow.Author.Rules.{rules}
use Rattle.std.specs.List.{fold}
use Rattle.field.specs.Field.{◌⊗◌}
use Rattle.blocks.proofs.Turns.{horner}
use Rattle.blocks.proofs.polynomial.value_at.Goals as goal

pub returns : goal.returns
returns c =
    let e : c.fold.result ≡ fold (λ acc y. bit_xor y (c.args.x ⊗ acc)) 0 (reverse c.args.p.now) = search rules in
    e ∙ horner c.args.x c.args.p.now
