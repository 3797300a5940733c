-- Each return by its tests. Assumes nothing.
use Prim.Native.Nat.{ℕ, ◌≤◌}
use mathlib.Core.Path.{◌≡◌}
use borrow.Author.Rules.{rules}
use borrow.Author.Tests.{le-ltb}
use Rattle.area.specs.Area.{pick}
use Rattle.area.proofs.Tests.{tests}
use Rattle.frame.specs.declared.Party.{Party}
use Rattle.frame.specs.Outbox.{party_in}
use Rattle.semduoli.specs.Handed.{sender_of}
use Rattle.semduoli.proofs.senders.sender_of.Goals as goal
use Rattle.semduoli.proofs.senders.sender_of.Goals.{then-number-gt255-via-then-number-gt255, then-number-gt255-via-else-number-gt255+then-class-gt1}

named : (class j : ℕ) (p : Party) → p ≡ party_in class j → j ≤ 255 → class ≤ 1 → p ≡ sender_of class j
unfolding sender_of pick
named class j p e h k = rw (le-ltb 255 j h, le-ltb 1 class k) e

pub returns-then-number-gt255 : goal.returns-then-number-gt255
unfolding sender_of pick
returns-then-number-gt255 c = elim c.then-number-gt255.branch [
  | then-number-gt255-via-then-number-gt255 w ↦ search tests
  | then-number-gt255-via-else-number-gt255+then-class-gt1 w ↦ search tests
]

pub returns : goal.returns
returns c = named _ _ _ c.party_in.ensures (search rules) (search rules)
