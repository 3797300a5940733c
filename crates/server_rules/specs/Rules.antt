-- The broadcast of a write, "Blocks, server" of document 01 with the time in it (request F-4): "a group is frames with equal time and digest list". H is the
-- digest; it is never unfolded. These are definitions.
use Rattle.std.specs.Prelude.{ℕ, ◌+◌, Bool, ◌&&◌, List, leb, eqb}
use Rattle.std.proofs.Math.Option.{Option, none, some}
use Rattle.quorum.specs.Quorum.{count}
use Rattle.area.specs.Area.{pick, same}
use Rattle.blocks.specs.declared.Params.{Params}
use Rattle.frame.specs.Params.{quota}
use Rattle.frame.specs.Messages.{Entry, entry, Offer, offer}
use Rattle.group_rules.specs.Coded.{has_list, block_at, digests_of, lowest_value, agreeing}
use Rattle.server_rules.specs.Broadcast.{Rules, kept}

-- the entry of an offer that goes by the time T
abbrev pub entry_by : Option Offer → ℕ → Option Entry
entry_by none T = none
entry_by (some o) T = kept (eqb o.time T) o.entry

-- the entries of those offers that go by the time T
unfoldable pub at_time : (ℕ → Option Offer) → ℕ → (ℕ → Option Entry)
at_time f T j = entry_by (f j) T

-- "readies if there are q, else echoes"
unfoldable pub chosen : Params → (ℕ → Option Entry) → (ℕ → Option Entry) → List ℕ → (ℕ → Option Entry)
chosen g es rs d = pick (leb (quota g) (count (λ j. has_list (rs j) d) g.n)) rs es

-- "decode", which looks at every block of the chosen group (request F-7): the value that the k lowest senders with that list give, and whether all blocks
-- are blocks of it
unfoldable pub regained : Params → (ℕ → Option Entry) → (ℕ → Option Entry) → List ℕ → List ℕ
regained g es rs d = lowest_value g (chosen g es rs d) d

unfoldable pub unanimous : Params → (ℕ → Option Entry) → (ℕ → Option Entry) → List ℕ → Bool
unanimous g es rs d = agreeing g (chosen g es rs d) d

-- the same of an offer: of the frames of its time and digest list
abbrev pub regained_of : Params → (ℕ → Option Offer) → (ℕ → Option Offer) → Offer → List ℕ
regained_of g es rs o = regained g (at_time es o.time) (at_time rs o.time) o.entry.digests

abbrev pub unanimous_of : Params → (ℕ → Option Offer) → (ℕ → Option Offer) → Offer → Bool
unanimous_of g es rs o = unanimous g (at_time es o.time) (at_time rs o.time) o.entry.digests

module _ (H : List ℕ → List ℕ) (g : Params) where
  -- Offers are equal if their times and their digest lists are. Where the blocks agree, "encode afresh with zero padding and compare all n digests; if equal,
  -- send ready with the server's own block of that encoding"; where they disagree, the comparison is not equal (request F-7).
  -- On q readies a ready is sent; "if there are then q + t readies" the write is complete.
  abbrev pub block_rules : Rules Offer
  block_rules = record {
    alike = λ x y. eqb x.time y.time && same x.entry.digests y.entry.digests;
    supports = λ es rs o. unanimous_of g es rs o && same (digests_of H g (regained_of g es rs o)) o.entry.digests;
    own = λ i es rs o. offer o.time (entry o.entry.digests (block_at H g (regained_of g es rs o) i));
    few = quota g;
    all = quota g + g.t;
  }
