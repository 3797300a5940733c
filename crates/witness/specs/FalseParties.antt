-- A run, as a list of calls, latest first: server 4 and client 1 are false. Client 1 sends its block to one server alone; client 2 reads, and its read
-- completes with the initial value. k = 1. These are definitions.
use Rattle.std.specs.Prelude.{ℕ, List, [], ◌∷◌, eqb}
use Rattle.std.proofs.Math.Option.{some}
use Rattle.blocks.specs.declared.Params.{Params}
use Rattle.frame.specs.declared.Party.TheVariants as P
use Rattle.frame.specs.Stamps.{zero_stamp}
use Rattle.frame.specs.Messages.{offer, send, Message, message, ask_read, block_is, value_is}
use Rattle.group_rules.specs.Coded.{entry_of, digests_of}
use Rattle.client_rules.specs.Rows.{Found}
use Rattle.runs.specs.World.{Setup, Sound, Call}
use Rattle.runs.specs.Admissible.{Admissible}
use Rattle.runs.specs.Events.{At, CompletesRead}
use Rattle.witness.specs.Toy.{toy, four, setup, hand_server, hand_client, start_read}

unfoldable pub g : Params
g = four 1 1

unfoldable pub initial : List ℕ
initial = 9 ∷ []

unfoldable pub Z : Setup
Z = setup toy g initial 4 (λ c. eqb c 1)

-- what false client 1 sends server 1, what client 2 asks, and what server j answers, false server 4 too
unfoldable pub false_block : Message
false_block = message 1 1 (block_is send (offer 5 (entry_of toy g (7 ∷ []) 1)))

unfoldable pub question : Message
question = message 2 1 ask_read

unfoldable pub answer : ℕ → Message
answer j = message 2 1 (value_is zero_stamp (entry_of toy g initial j))

unfoldable pub calls : List Call
calls =
    hand_client g 2 (P.Server 4) (answer 4) ∷ hand_client g 2 (P.Server 2) (answer 2) ∷ hand_client g 2 (P.Server 1) (answer 1)
    ∷ hand_server g 2 (P.Client 2) question ∷ hand_server g 1 (P.Client 2) question ∷ start_read g 2
    ∷ hand_server g 1 (P.Client 1) false_block ∷ []

-- what the read finds
unfoldable pub found : Found
found = record { stamp = zero_stamp; digests = digests_of toy g initial; bytes = some initial }

-- what is shown: the theorem speaks of this run, and the read completes
pub record Shown : Type 0 where
  pub sound : Sound Z
  pub admissible : Admissible Z calls
  pub completes : At (CompletesRead Z 2 1 found) calls 6
