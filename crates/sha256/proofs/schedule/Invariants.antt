-- The first loop stores the block's words one by one, the second the other words four at a time; after the words so far there are zeros. Assumes nothing.
use lib.Seq.{sets}
use Rattle.std.proofs.Common.{◌≡◌, ◌+◌, ◌-◌, ◌*◌, ◌++◌, replicate}
use Rattle.sha256.specs.Hash.{block_words, extended}
use Rattle.area.specs.Numbers.{be4}
use Rattle.area.specs.Area.{table}
use Rattle.sha256.proofs.schedule.Given as goal

abbrev pub invariant-loop-j : goal.invariant-loop-j
invariant-loop-j l = l.w ≡ sets (replicate 64 0) 0 (table l.j (λ t. be4 l.p (l.at + t * 4)))

abbrev pub invariant-loop-q : goal.invariant-loop-q
invariant-loop-q l = l.w ≡ extended (l.q * 4) (block_words l.p l.at) ++ replicate (48 - l.q * 4) 0
