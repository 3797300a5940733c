-- What a host is answered when it asks for a server's present block: this server's block of the value that it holds. These are definitions.
use Rattle.std.specs.Prelude.{ℕ, List, length, ltb, Ok, Err}
use Rattle.std.proofs.lemmas.List.Edits.{sets}
use Rattle.area.specs.Area.{pick}
use Rattle.blocks.specs.declared.Params.{Params}
use Rattle.frame.specs.Refusals.{number_of, Verdict}
use Rattle.frame.specs.Params.{width, bounds_test}
use Rattle.frame.specs.Chunks.{area_bytes}
use Rattle.server_rules.specs.State.{present_block}
use Rattle.layout.specs.Servers.{server_size, server_in}
use Rattle.host_facts.specs.Outcomes.{Wrote, wrote}

-- refusal 10, "lent area short": the record, the state area, the initial block, or the area for the block
unfoldable pub block_given : Params → List ℕ → List ℕ → List ℕ → List ℕ → Wrote
block_given g area initial state block =
    pick (ltb (length state) server_size) (wrote 10 block)
    (pick (ltb (length area) area_bytes) (wrote 10 block)
    (pick (ltb (length initial) (width g)) (wrote 10 block)
    (pick (ltb (length block) (width g)) (wrote 10 block)
    (wrote 0 (sets block 0 (present_block g (server_in state).stamp area initial))))))

-- refusals 1 to 3 come first
unfoldable pub block_by : Verdict → Wrote → List ℕ → Wrote
block_by (Ok _) x block = x
block_by (Err r) x block = wrote (number_of r) block

unfoldable pub block_call : Params → List ℕ → List ℕ → List ℕ → List ℕ → Wrote
block_call g area initial state block = block_by (bounds_test g) (block_given g area initial state block) block
