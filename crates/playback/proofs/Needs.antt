-- The room that entries need. Assumes nothing.
use Rattle.frame.specs.Refusals.{fine}
use Rattle.std.specs.Prelude.{Err}
use Prim.Native.Nat.{ℕ, ◌+◌, ◌*◌, ◌/◌, ◌≤◌, ◌<◌}
use native.Mathlib.Omega.{arith}
use native.Mathlib.Nat.{mul-le-mul, div-lt_iff_lt-mul}
use native.Mathlib.Decide.{dec_lt}
use mathlib.Core.Path.{◌≡◌, ap}
use borrow.Author.Tests.{lt-ltb, le-ltb}
use Rattle.area.specs.Area.{pick}
use Rattle.blocks.specs.declared.Params.{Params}
use Rattle.frame.specs.declared.Refusal.TheVariants as R
use Rattle.frame.specs.Params.{largest_frame}
use Rattle.playback.specs.Playback.{entry_need, out_test}

-- a product of the code
pub product_small : (a b : ℕ) → a ≤ 226 → b ≤ 600 → a * b ≤ 135600
product_small a b h g = mul-le-mul h g

pub need_is : (g : Params) (f : ℕ) → f ≡ largest_frame g → 3 + (9 * g.n + 136) * (f + 2) ≡ entry_need g
unfolding entry_need
need_is g f e = ap (λ x. 3 + (9 * g.n + 136) * (x + 2)) e

-- a division in place of a product, which might not fit into a machine number
module _ (g : Params) (need count out : ℕ) (e : need ≡ entry_need g) (some : 1 ≤ need) where
  pub out_short : out / need < count → Err R.Room ≡ out_test g count out
  unfolding out_test pick
  out_short h =
      let w : out < count * need = (div-lt_iff_lt-mul some).0 h in
      let v : out < count * entry_need g = rw (← e) w in
      rw (lt-ltb _ _ v)

  pub out_enough : count ≤ out / need → fine ≡ out_test g count out
  unfolding out_test pick
  out_enough h =
      let w : count * need ≤ out = go (dec_lt out (count * need)) in
      let v : count * entry_need g ≤ out = rw (← e) w in
      rw (le-ltb _ _ v)
    where
      go : Dec (out < count * need) → count * need ≤ out
      go (yes z) = absurd (let d = (div-lt_iff_lt-mul {x = out} {y = count} some).1 z in omega arith)
      go (no z) = omega arith
