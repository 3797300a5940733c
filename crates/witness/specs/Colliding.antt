-- Why a read may disagree. A run, as a list of calls, latest first, with a digest that is 32 bytes long and alike for all blocks: server 1 is false and gives
-- client 2 another block with the initial value's digests. Client 2's read is closed, its blocks disagree; client 3's, with the same stamp, ends with the
-- initial value. The theorem of request F-7 holds of this run: it shows the two blocks. k = 1. These are definitions.
use Rattle.std.specs.Prelude.{ℕ, false, ◌≡◌, List, [], ◌∷◌}
use Rattle.std.proofs.Math.Option.{Option, none, some}
use Rattle.blocks.specs.declared.Params.{Params}
use Rattle.frame.specs.declared.Party.TheVariants as P
use Rattle.frame.specs.Stamps.{zero_stamp}
use Rattle.frame.specs.Messages.{entry, Message, message, ask_read, value_is}
use Rattle.group_rules.specs.Coded.{entry_of, digests_of}
use Rattle.client_rules.specs.Rows.{Found}
use Rattle.runs.specs.World.{Setup, Sound, DigestSize, Call}
use Rattle.runs.specs.Admissible.{Admissible}
use Rattle.runs.specs.Events.{At, CompletesRead, Disagrees}
use Rattle.runs.specs.Blocks.{Collision}
use Rattle.witness.specs.Toy.{zeros, four, setup, hand_server, hand_client, start_read}

-- the digest of every block
unfoldable pub blind : List ℕ → List ℕ
blind b = zeros 32

unfoldable pub g : Params
g = four 1 1

-- the initial value, and the block that server 1 gives in place of its own
unfoldable pub initial : List ℕ
initial = 9 ∷ []

unfoldable pub other : List ℕ
other = 7 ∷ []

-- server 1 is false, and no client
unfoldable pub Z : Setup
Z = setup blind g initial 1 (λ c. false)

-- what client c asks, what server j answers, and what server 1 answers client 2
unfoldable pub question : ℕ → Message
question c = message c 1 ask_read

unfoldable pub answer : ℕ → ℕ → Message
answer c j = message c 1 (value_is zero_stamp (entry_of blind g initial j))

unfoldable pub lie : Message
lie = message 2 1 (value_is zero_stamp (entry (digests_of blind g initial) other))

-- Client 2 reads from servers 1, 2 and 3, up to the last answer;
unfoldable pub first : List Call
first =
    hand_client g 2 (P.Server 2) (answer 2 2) ∷ hand_client g 2 (P.Server 1) lie
    ∷ hand_server g 3 (P.Client 2) (question 2) ∷ hand_server g 2 (P.Client 2) (question 2) ∷ start_read g 2 ∷ []

-- client 3 then from servers 2, 3 and 4, up to the last answer.
unfoldable pub second : List Call
second =
    hand_client g 3 (P.Server 3) (answer 3 3) ∷ hand_client g 3 (P.Server 2) (answer 3 2)
    ∷ hand_server g 4 (P.Client 3) (question 3) ∷ hand_server g 3 (P.Client 3) (question 3) ∷ hand_server g 2 (P.Client 3) (question 3) ∷ start_read g 3
    ∷ hand_client g 2 (P.Server 3) (answer 2 3) ∷ first

unfoldable pub calls : List Call
calls = hand_client g 3 (P.Server 4) (answer 3 4) ∷ second

-- what a read finds whose blocks give v
unfoldable pub found : Option (List ℕ) → Found
found v = record { stamp = zero_stamp; digests = digests_of blind g initial; bytes = v }

-- ---- what is shown

pub record Shown : Type 0 where
  -- the theorem speaks of this run
  pub sound : Sound Z
  pub digest_size : DigestSize blind
  pub admissible : Admissible Z calls
  -- the blocks of one read disagree, and another read with that stamp gives the initial value
  pub disagrees : At (Disagrees Z 2 1 (found none)) calls 5
  pub right : At (CompletesRead Z 3 1 (found (some initial))) calls 12
  -- the pair of blocks: the one that server 1 gave, and the one that is the initial value's
  pub pair : (c : Collision Z calls) × (c.left ≡ other) × (c.right ≡ initial)
