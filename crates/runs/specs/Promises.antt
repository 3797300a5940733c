-- A run goes by what the entry points promise: `deliver` of a server and of a client, `begin_read` and `begin_write`, whose promises cite the
-- definitions that are cited here. The party that is called goes on with the state that its call returns; what its answer sends is in
-- Answers.antt. A write is accepted exactly where its ack goes out, and an operation begins exactly where the call answers that frames were sent.
-- These are definitions.
use Rattle.frame.specs.Refusals.{Verdict, fine}
use Rattle.std.specs.Prelude.{ℕ, ◌≡◌}
use mathlib.Core.List.{List, Memᴰ}
use Rattle.area.specs.Responses.{Response, turned_down, gives}
use Rattle.frame.specs.declared.Party.{Party}
use Rattle.frame.specs.declared.Party.TheVariants as P
use Rattle.frame.specs.Messages.{ack, message, sending}
use Rattle.server_rules.specs.Steps as S
use Rattle.server_rules.specs.Delivery as SD
use Rattle.client_rules.specs.Answers.{Progress, goes_on, write_ends, write_closes, read_gives, read_disagrees}
use Rattle.client_rules.specs.Delivery as CD
use Rattle.client_rules.specs.Beginning as CB
use Rattle.runs.specs.World.{Setup, Call, to_server, to_client, begin_read, begin_write, caller}
use Rattle.runs.specs.World.{ServerSide, ClientSide, World, initial_of, lent_to, server_effect, step}

-- ---- the next state

module _ (Z : Setup) (w : World) where
  open Z use {H, g}

  -- what a call leaves of its party, by its promise
  abbrev pub server_promised : ℕ → Party → List ℕ → List ℕ → List ℕ → ServerSide
  server_promised i from f out to =
      let r = SD.delivery H g i (w.servers i).server (w.servers i).area (initial_of Z i) from f out to in
      record { server = r.server; area = r.area }

  abbrev pub client_promised : ℕ → Party → List ℕ → List ℕ → List ℕ → List ℕ → List ℕ → ClientSide
  client_promised c from f lent result out to =
      let r = CD.delivery H g c (w.clients c).client (w.clients c).area (lent_to Z w c lent) from f result out to in
      record { client = r.client; area = r.area; value = (w.clients c).value }

  -- a beginning is not lent the rows area
  abbrev pub read_promised : ℕ → List ℕ → List ℕ → ClientSide
  read_promised c out to =
      let r = CB.read_beginning g c (w.clients c).client out to in
      record { client = r.client; area = (w.clients c).area; value = (w.clients c).value }

  -- v is the value of the open write from then on if the answer is that frames were sent
  abbrev pub value_by : Response Progress → List ℕ → List ℕ → List ℕ
  value_by (turned_down n) v old = old
  value_by (gives (goes_on m)) v old = v
  value_by (gives write_ends) v old = old
  value_by (gives write_closes) v old = old
  value_by (gives (read_gives s)) v old = old
  value_by (gives read_disagrees) v old = old

  abbrev pub write_promised : ℕ → List ℕ → List ℕ → List ℕ → ClientSide
  write_promised c v out to =
      let r = CB.write_beginning g c (w.clients c).client v out to in
      record { client = r.client; area = (w.clients c).area; value = value_by r.answer v (w.clients c).value }

  -- the world after a call, from the one before
  pub record GoesOn : Type 0 where
    -- the party that is called goes on with what its call leaves,
    pub server : (i : ℕ) (from : Party) (f out to : List ℕ) → (step Z w (to_server i from f out to)).servers i ≡ server_promised i from f out to
    pub client : (c : ℕ) (from : Party) (f lent result out to : List ℕ)
        → (step Z w (to_client c from f lent result out to)).clients c ≡ client_promised c from f lent result out to
    pub reader : (c : ℕ) (out to : List ℕ) → (step Z w (begin_read c out to)).clients c ≡ read_promised c out to
    pub writer : (c : ℕ) (v out to : List ℕ) → (step Z w (begin_write c v out to)).clients c ≡ write_promised c v out to
    -- all others with what they had
    pub servers_stay : (k : Call) (j : ℕ) → (caller k ≡ P.Server j → ⊥) → (step Z w k).servers j ≡ w.servers j
    pub clients_stay : (k : Call) (c : ℕ) → (caller k ≡ P.Client c → ⊥) → (step Z w k).clients c ≡ w.clients c

unfoldable pub RunsGoOn : Type 0
RunsGoOn = (Z : Setup) (w : World) → GoesOn Z w

-- ---- where a write is accepted

-- of a server's step: each accepted write's ack goes to its client, and no other ack goes anywhere
pub record Acknowledges (x : S.Effect) : Type 0 where
  pub acked : (y : S.Write) → Memᴰ y x.accepted → Memᴰ (sending (P.Client y.client) (message y.client y.sequence ack)) x.sends
  pub acked_only : (b : Party) (c q : ℕ) → Memᴰ (sending b (message c q ack)) x.sends
      → (b ≡ P.Client c) × (y : S.Write) × Memᴰ y x.accepted × (y.client ≡ c) × (y.sequence ≡ q)

unfoldable pub AcceptedWhereAcked : Type 0
AcceptedWhereAcked = (Z : Setup) (w : World) (i : ℕ) (from : Party) (f out to : List ℕ) → Acknowledges (server_effect Z w i from f out to)

-- ---- where an operation begins

-- the tests of a beginning pass, and its answer is that frames were sent
pub record Begins (b : Verdict) (answer : Response Progress) : Type 0 where
  pub sent : b ≡ fine → (m : ℕ) × (answer ≡ gives (goes_on m))
  pub sent_only : (m : ℕ) → answer ≡ gives (goes_on m) → b ≡ fine

pub record BeginningsTell (Z : Setup) (w : World) : Type 0 where
  pub read : (c : ℕ) (out to : List ℕ)
      → Begins (CB.read_test Z.g c (w.clients c).client out to) (CB.read_beginning Z.g c (w.clients c).client out to).answer
  pub write : (c : ℕ) (v out to : List ℕ)
      → Begins (CB.write_test Z.g c (w.clients c).client v out to) (CB.write_beginning Z.g c (w.clients c).client v out to).answer

unfoldable pub BegunWhereAnswered : Type 0
BegunWhereAnswered = (Z : Setup) (w : World) → BeginningsTell Z w
