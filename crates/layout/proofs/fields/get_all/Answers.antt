-- Each element is read at its place. Assumes nothing.
use Prim.Native.Nat.{ℕ, ◌+◌, ◌*◌}
use mathlib.Core.Path.{◌≡◌, refl}
use borrow.Author.Rules.{rules}
use Rattle.layout.specs.Fields.{row_at}
use Rattle.layout.proofs.Made.{made_table}
use Rattle.layout.proofs.fields.get_all.Goals as goal

pub returns : goal.returns
unfolding row_at
returns g c =
    let a = c.args in
    made_table _ (λ f. (f.0.now ≡ a.bytes.now) × (f.1.now ≡ a.at)) (λ (k : ℕ). g.T.Field.read a.bytes.now (a.at + k * g.T.Field.WIDTH)) (λ p q i y e k. search rules)
    _ _ _ (refl, refl) c.from_fn.ensures.items
