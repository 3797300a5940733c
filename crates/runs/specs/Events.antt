-- What happens in a run, and when: "Acceptance, ends and stamps follow from the calls by the steps above." These are definitions.
use Rattle.frame.specs.Refusals.{fine}
use Rattle.std.specs.Prelude.{ℕ, ◌+◌, ◌≡◌, ◌⊎◌, length}
use Rattle.std.proofs.Math.Option.{none, some}
use mathlib.Core.List.{List, [], ◌∷◌, Memᴰ}
use Rattle.server_rules.specs.Steps.{Write}
use Rattle.client_rules.specs.Rows.{Found}
use Rattle.client_rules.specs.Steps as C
use Rattle.client_rules.specs.Beginning as CB
use Rattle.runs.specs.World.{Setup, Call, to_server, to_client, begin_read, begin_write, run, server_effect, client_effect}

-- what may happen in the call k after the calls ks
abbrev pub Event : Type 1
Event = List Call → Call → Type 0

-- it happens at the place p, the number of calls before
abbrev pub At : Event → List Call → ℕ → Type 0
At E [] p = ⊥
At E (k ∷ ks) p = ((p ≡ length ks) × E ks k) ⊎ At E ks p

module _ (Z : Setup) where
  open Z use {H, g}

  -- server i accepts a write, and maybe others in the same call; calls are on honest parties, so i is honest
  abbrev pub Accepts : ℕ → Write → Event
  Accepts i x ks (to_server j from f out to) = (i ≡ j) × Memᴰ x (server_effect Z (run Z ks) j from f out to).accepted
  Accepts i x ks (to_client c from f lent result out to) = ⊥
  Accepts i x ks (begin_read c out to) = ⊥
  Accepts i x ks (begin_write c v out to) = ⊥

  -- the search of client c's read q stops at x, which closes the read
  abbrev pub StopsRead : ℕ → ℕ → Found → Event
  StopsRead c q x ks (to_server j from f out to) = ⊥
  StopsRead c q x ks (to_client d from f lent result out to) =
      (c ≡ d) × (((run Z ks).clients d).client.reads ≡ q) × ((client_effect Z (run Z ks) d from f lent result out to).event ≡ C.stopped x)
  StopsRead c q x ks (begin_read d out to) = ⊥
  StopsRead c q x ks (begin_write d v out to) = ⊥

  -- "A read is completed by the call that answers its value; its stamp is where its search stopped"
  abbrev pub CompletesRead : ℕ → ℕ → Found → Event
  CompletesRead c q x ks k = StopsRead c q x ks k × ((v : List ℕ) × (x.bytes ≡ some v))

  -- request F-7: the read is closed by the call that reports the disagreement of its blocks
  abbrev pub Disagrees : ℕ → ℕ → Found → Event
  Disagrees c q x ks k = StopsRead c q x ks k × (x.bytes ≡ none)

  -- "a write [ends] at its (n - t)th counted ack": client c's write q
  abbrev pub EndsWrite : ℕ → ℕ → Event
  EndsWrite c q ks (to_server j from f out to) = ⊥
  EndsWrite c q ks (to_client d from f lent result out to) =
      (c ≡ d) × (((run Z ks).clients d).client.writes ≡ q) × ((client_effect Z (run Z ks) d from f lent result out to).event ≡ C.written)
  EndsWrite c q ks (begin_read d out to) = ⊥
  EndsWrite c q ks (begin_write d v out to) = ⊥

  -- "An operation begins when opened": client c's read q, its write q of the value v
  abbrev pub OpensRead : ℕ → ℕ → Event
  OpensRead c q ks (to_server j from f out to) = ⊥
  OpensRead c q ks (to_client d from f lent result out to) = ⊥
  OpensRead c q ks (begin_read d out to) =
      (c ≡ d) × (((run Z ks).clients d).client.reads + 1 ≡ q) × (CB.read_test g d ((run Z ks).clients d).client out to ≡ fine)
  OpensRead c q ks (begin_write d v out to) = ⊥

  abbrev pub OpensWrite : ℕ → ℕ → List ℕ → Event
  OpensWrite c q u ks (to_server j from f out to) = ⊥
  OpensWrite c q u ks (to_client d from f lent result out to) = ⊥
  OpensWrite c q u ks (begin_read d out to) = ⊥
  OpensWrite c q u ks (begin_write d v out to) =
      (c ≡ d) × (((run Z ks).clients d).client.writes + 1 ≡ q) × (u ≡ v) × (CB.write_test g d ((run Z ks).clients d).client v out to ≡ fine)

  -- an honest party decodes v: a server as it compares digests, a client as its read ends
  abbrev pub Decodes : List ℕ → Event
  Decodes v ks (to_server i from f out to) = Memᴰ v (server_effect Z (run Z ks) i from f out to).decodes
  Decodes v ks (to_client c from f lent result out to) =
      (x : Found) × ((client_effect Z (run Z ks) c from f lent result out to).event ≡ C.stopped x) × (x.bytes ≡ some v)
  Decodes v ks (begin_read c out to) = ⊥
  Decodes v ks (begin_write c u out to) = ⊥
