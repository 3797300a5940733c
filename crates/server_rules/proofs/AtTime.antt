-- The entries of those offers that go by one time: which they are, and how many have a digest list. Assumes nothing.
use Prim.Native.Nat.{ℕ}
use mathlib.Core.Bool.{Bool, true, false, ◌&&◌}
use mathlib.Core.Path.{◌≡◌, refl}
use mathlib.Core.Option.{Option, none, some}
use mathlib.Core.List.{List}
use lib.Dec.{eqb}
use Rattle.quorum.specs.Quorum.{count}
use Rattle.area.specs.Area.{same}
use Rattle.blocks.specs.declared.Params.{Params}
use Rattle.frame.specs.Messages.{Entry, Offer, offer}
use Rattle.group_rules.specs.Coded.{has_list}
use Rattle.server_rules.specs.Broadcast.{kept, is_like, votes}
use Rattle.server_rules.specs.Rules.{entry_by, at_time, block_rules}

-- ---- flags, with times and entries beside them

-- an entry goes by T if its flag is set and its time is T
pub by_flag : (b : Bool) (u T : ℕ) (e : Entry) → entry_by (kept b (offer u e)) T ≡ kept (b && eqb u T) e
by_flag true u T e = refl
by_flag false u T e = refl

-- ---- those of one digest list

module _ (H : List ℕ → List ℕ) (g : Params) where
  -- they are the frames that say the offer
  pub like : (x : Option Offer) (o : Offer) → is_like (block_rules H g) g.n g.t x o ≡ has_list (entry_by x o.time) o.entry.digests
  like none o = refl
  like (some y) o = go (eqb y.time o.time)
    where
      go : (b : Bool) → (b && same y.entry.digests o.entry.digests) ≡ has_list (kept b y.entry) o.entry.digests
      go true = refl
      go false = refl

  pub votes_are : (f : ℕ → Option Offer) (o : Offer)
      → votes (block_rules H g) g.n g.t f o ≡ count (λ j. has_list (at_time f o.time j) o.entry.digests) g.n
  unfolding votes at_time
  votes_are f o i = count (λ j. like (f j) o i) g.n
