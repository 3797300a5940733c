-- What inner functions of the code ask. The entry point's promise does not speak of these. These are definitions.
use Rattle.std.specs.Prelude.{ℕ, ◌+◌, ◌≤◌, true, false, ◌≡◌, List, length}
use Rattle.sha256.specs.Hash.{digest_of}
use Rattle.blocks.specs.declared.Params.{Params}
use Rattle.frame.specs.Params.{Bounded, largest_frame}
use Rattle.frame.specs.Frames.{body_at, retired, body_length}
use Rattle.group_rules.specs.Coded.{digests_of}
use Rattle.frame.specs.Outbox.{Room, first_place}
use Rattle.client_rules.specs.declared.Client.{Client}
use Rattle.client_rules.specs.State.{writing}
use Rattle.client.specs.Stages.{Lent}

-- the blocks of a value v go out, d being the list of their digests
pub record Dispersing (g : Params) (v d : List ℕ) : Type 0 where
  pub bounded : Bounded g
  pub whole : length v ≡ g.size
  pub list_is : d ≡ digests_of digest_of g v

-- a stamp of a write, or a report: where a write is open its value is whole, and n largest frames have room
pub record Stamping (g : Params) (s : Client) (value out to : ℕ) : Type 0 where
  pub bounded : Bounded g
  pub whole : writing s.phase ≡ true → value ≡ g.size
  pub room : Room first_place g.n (largest_frame g) out to

-- a frame of a kind that opened, all that is lent being long enough
pub record Admitted (g : Params) (s : Client) (kind value frame area result out to : ℕ) : Type 0 where
  pub lent : Lent g area result out to
  pub whole : writing s.phase ≡ true → value ≡ g.size
  pub frame_is : frame ≡ body_at + body_length g kind
  pub kind_low : 1 ≤ kind
  pub kind_high : kind ≤ 13
  pub kind_used : retired kind ≡ false
