-- A server's entry points: the whole outcome of a delivery, and of the constructor. H is the digest, g the parameters, me the server's
-- number. These are definitions.
use Rattle.std.specs.Prelude.{ℕ, not, List, [], length, ltb, eqb, Result, Ok, Err}
use Rattle.std.proofs.lemmas.List.Edits.{sets}
use Rattle.area.specs.Area.{pick}
use Rattle.area.specs.Responses.{Response, turned_down, gives}
use Rattle.blocks.specs.declared.Params.{Params}
use Rattle.frame.specs.declared.Party.{Party}
use Rattle.frame.specs.Refusals.{number_of, Verdict, fine, and_then, refused}
use Rattle.frame.specs.Params.{width, params_test}
use Rattle.frame.specs.Messages.{Judged, bad, good}
use Rattle.frame.specs.Outbox.{frames, receivers}
use Rattle.frame.specs.Chunks.{area_bytes, chunk_at, present_at}
use Rattle.group_rules.specs.Coded.{block_at, digests_of}
use Rattle.server_rules.specs.declared.Server.{Server}
use Rattle.frame.specs.declared.Refusal.{Refusal}
use Rattle.server_rules.specs.declared.Served.{Served}
use Rattle.server_rules.specs.State.{fresh_server}
use Rattle.server_rules.specs.Tests.{judge}
use Rattle.server_rules.specs.Steps.{Effect, send_only, effect}

-- a step, with the number of frames that it sent, or the reason why there is none
abbrev pub Reply : Type 0
Reply = Result ℕ Refusal

-- what a reply says: the number, or how many frames were sent
abbrev pub reply_response : Reply → Response ℕ
reply_response (Ok c) = gives c
reply_response (Err r) = turned_down (number_of r)

-- its number, 0 of a step
unfoldable pub reply_number : Response ℕ → ℕ
reply_number (turned_down n) = n
reply_number (gives c) = 0

-- how many frames were sent
unfoldable pub reply_count : Response ℕ → ℕ
reply_count (turned_down n) = 0
reply_count (gives c) = c

-- ---- a frame is handed in

-- the whole outcome: the reply, the server, and every byte of the lent areas
pub record Outcome : Type 0 where
  pub reply : Response ℕ
  pub server : Server
  pub area : List ℕ
  pub out : List ℕ
  pub to : List ℕ

abbrev pub outcome : Served → List ℕ → List ℕ → List ℕ → Outcome
outcome r area out to = record { reply = reply_response r.reply; server = r.server; area = area; out = out; to = to }

module _ (H : List ℕ → List ℕ) (g : Params) (me : ℕ) where
  -- "The answer is the number alone; state and all lent bytes remain unchanged."
  unfoldable pub effect_by : Judged → Server → List ℕ → List ℕ → Party → Effect
  effect_by (bad r) s a initial from = send_only s a []
  effect_by (good m) s a initial from = effect H g me s a initial from m

  -- what a delivery does; one that is turned down does nothing
  unfoldable pub delivered : Server → List ℕ → List ℕ → Party → List ℕ → List ℕ → List ℕ → Effect
  delivered s a initial from f out to = effect_by (judge H g me s a initial from f out to) s a initial from

  unfoldable pub reply_of : Judged → ℕ → Response ℕ
  reply_of (bad r) c = turned_down (number_of r)
  reply_of (good m) c = gives c

  -- frames lie end to end from the start of the out area, two bytes for the receiver of each in the to area; other bytes stay as lent
  unfoldable pub outcome_of : Judged → Effect → List ℕ → List ℕ → Outcome
  outcome_of j x out to = record {
    reply = reply_of j (length x.sends);
    server = x.server;
    area = x.area;
    out = sets out 0 (frames x.sends);
    to = sets to 0 (receivers x.sends);
  }

  -- the entry point
  unfoldable pub delivery : Server → List ℕ → List ℕ → Party → List ℕ → List ℕ → List ℕ → Outcome
  delivery s a initial from f out to = outcome_of (judge H g me s a initial from f out to) (delivered s a initial from f out to) out to

-- ---- the constructor: the own block of the initial value goes to the host's initial area, its digests to the state area

pub record Constructed : Type 0 where
  pub reply : Response ℕ
  pub server : Server
  pub area : List ℕ
  pub initial : List ℕ

abbrev pub constructed : Served → List ℕ → List ℕ → Constructed
constructed r area initial = record { reply = reply_response r.reply; server = r.server; area = area; initial = initial }

module _ (H : List ℕ → List ℕ) (g : Params) (me : ℕ) where
  -- refusals 1, 2, 3, 10
  unfoldable pub construct_test : List ℕ → ℕ → ℕ → Verdict
  construct_test v area initial =
      and_then (params_test g me g.n)
      (pick (not (eqb (length v) g.size)) (refused 3)
      (pick (ltb area area_bytes) (refused 10)
      (pick (ltb initial (width g)) (refused 10)
      fine)))

  unfoldable pub construct_by : Verdict → List ℕ → List ℕ → List ℕ → Constructed
  construct_by (Err r) v a initial = record { reply = turned_down (number_of r); server = fresh_server; area = a; initial = initial }
  construct_by (Ok _) v a initial = record {
    reply = gives 0;
    server = fresh_server;
    area = sets a (chunk_at present_at) (digests_of H g v);
    initial = sets initial 0 (block_at H g v me);
  }

  -- "A fresh server holds stamp 0, client 0 and sequence 0, with the initial value's block and digests."
  unfoldable pub construction : List ℕ → List ℕ → List ℕ → Constructed
  construction v a initial = construct_by (construct_test v (length a) (length initial)) v a initial
