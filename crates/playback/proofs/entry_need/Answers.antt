-- The product is small. Assumes nothing.
use Prim.Native.Nat.{◌+◌, ◌*◌}
use Rattle.playback.proofs.Needs.{product_small, need_is}
use native.Mathlib.Omega.{arith}
use borrow.Author.Rules.{rules}
use Rattle.playback.proofs.entry_need.Goals as goal

-- src/lib.rt:48:9
pub overflow_mul-result-2 : goal.overflow_mul-result-2
overflow_mul-result-2 c = let n = c.args.g.n in let f = c.largest_frame.result in let w = product_small (9 * n + 136) (f + 2) (search rules) (search rules) in record { fits = omega arith }

-- src/lib.rt:48:5
pub overflow_add-result-3 : goal.overflow_add-result-3
overflow_add-result-3 c = let n = c.args.g.n in let f = c.largest_frame.result in let w = product_small (9 * n + 136) (f + 2) (search rules) (search rules) in record { fits = omega arith }

-- src/lib.rt:44:1
pub returns : goal.returns
returns c = let n = c.args.g.n in let f = c.largest_frame.result in let w = product_small (9 * n + 136) (f + 2) (search rules) (search rules) in (need_is _ _ c.largest_frame.ensures.0, omega arith, omega arith)
