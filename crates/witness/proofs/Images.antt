-- A run seen by chunks: the world with entries in place of areas, what was sent, and whether the list of calls is admissible so far, each from one pass over
-- the list, so that it can be computed. Assumes nothing.
use Rattle.std.specs.Prelude.{Ok, Err}
use Prim.Native.Nat.{ℕ}
use mathlib.Core.Bool.{Bool, true, false, not, ◌&&◌, ◌||◌}
use mathlib.Core.List.{List, [], ◌∷◌}
use mathlib.Core.Option.{Option, none, some}
use lib.Dec.{eqb, leb, ltb}
use Rattle.area.specs.Area.{pick, same}
use Rattle.frame.specs.declared.Party.{Party}
use Rattle.frame.specs.Frames.{Opened}
use Rattle.frame.specs.declared.Party.TheVariants as P
use Rattle.frame.specs.Refusals.{number_of, Verdict}
use Rattle.frame.specs.Messages.{Entry, Sending, Judged, bad, good}
use Rattle.frame.specs.Frames.{build, opened}
use Rattle.frame.specs.Chunks.{entry_at}
use Rattle.server_rules.specs.declared.Server.{Server}
use Rattle.server_rules.specs.State.{fresh_server}
use Rattle.client_rules.specs.declared.Client.{Client}
use Rattle.client_rules.specs.State.{fresh_client, writing}
use Rattle.client_rules.specs.Steps as C
use Rattle.client_rules.specs.Beginning as CB
use Rattle.runs.specs.World.{Setup, Call, to_server, to_client, begin_read, begin_write, put, initial_of, start, lent_by, run, sends}
use Rattle.server_rules.specs.Steps.{Write}
use Rattle.runs.specs.Events.{Event}
use Rattle.witness.proofs.Served.{Seen, served}
use Rattle.witness.proofs.Served as Served
use Rattle.witness.proofs.Asked.{Heard, asked}
use Rattle.witness.proofs.Asked as Asked

-- ---- what is seen

pub record ServerImage : Type 0 where
  pub server : Server
  pub entries : ℕ → Entry

pub record ClientImage : Type 0 where
  pub client : Client
  pub entries : ℕ → Entry
  pub value : List ℕ

-- an answer: who gave it, and what it sends
pub record Answer : Type 0 where
  pub by : Party
  pub sends : List Sending

-- all servers and clients, the answers, latest first, and whether all calls so far were proper
pub record Image : Type 0 where
  pub servers : ℕ → ServerImage
  pub clients : ℕ → ClientImage
  pub log : List Answer
  pub proper : Bool

-- ---- tests of one call

unfoldable pub same_party : Party → Party → Bool
same_party (P.Server i) (P.Server j) = eqb i j
same_party (P.Server i) (P.Client d) = false
same_party (P.Client c) (P.Server j) = false
same_party (P.Client c) (P.Client d) = eqb c d

unfoldable pub among_sends : List Sending → Party → List ℕ → Bool
among_sends [] b f = false
among_sends (x ∷ l) b f = (same_party x.receiver b && same (build x.says) f) || among_sends l b f

unfoldable pub was_sent : List Answer → Party → Party → List ℕ → Bool
was_sent [] a b f = false
was_sent (x ∷ l) a b f = (same_party x.by a && among_sends x.sends b f) || was_sent l a b f

unfoldable pub all_bytes : List ℕ → Bool
all_bytes [] = true
all_bytes (x ∷ l) = ltb x 256 && all_bytes l

unfoldable pub judged_bad : Judged → Option ℕ
judged_bad (bad r) = some (number_of r)
judged_bad (good m) = none

unfoldable pub verdict_bad : Verdict → Option ℕ
verdict_bad (Err r) = some (number_of r)
verdict_bad (Ok _) = none

unfoldable pub is_frame : Opened → Bool
is_frame (Ok h) = true
is_frame (Err r) = false

module _ (Z : Setup) where
  open Z use {H, g, faulty_server, faulty_client}

  unfoldable pub honest : Party → Bool
  honest (P.Server j) = (leb 1 j && leb j g.n) && not (faulty_server j)
  honest (P.Client c) = (leb 1 c && leb c 8) && not (faulty_client c)

  -- a frame handed to b from a: b is honest, and an honest a has sent it to b, unless it does not open
  unfoldable pub proper_frame : List Answer → Party → Party → List ℕ → Bool
  proper_frame l b a f = honest b && (all_bytes f && (not (honest a) || (was_sent l a b f || not (is_frame (opened g f)))))

  unfoldable pub proper_call : List Answer → Call → Bool
  proper_call l (to_server i from f out to) = proper_frame l (P.Server i) from f
  proper_call l (to_client c from f lent result out to) = proper_frame l (P.Client c) from f
  proper_call l (begin_read c out to) = honest (P.Client c)
  proper_call l (begin_write c v out to) = honest (P.Client c) && all_bytes v

  -- ---- the pass

  abbrev pub seen_server : Image → ℕ → Party → List ℕ → List ℕ → List ℕ → Seen
  seen_server w i from f out to = served H g i (w.servers i).server (w.servers i).entries (initial_of Z i) from f out to

  -- what client c's host lends
  abbrev pub lent_in : Image → ℕ → List ℕ → List ℕ
  lent_in w c lent = pick (writing (w.clients c).client.phase) (w.clients c).value lent

  abbrev pub seen_client : Image → ℕ → Party → List ℕ → List ℕ → List ℕ → List ℕ → List ℕ → Heard
  seen_client w c from f lent result out to = asked H g c (w.clients c).client (w.clients c).entries (lent_in w c lent) from f result out to

  unfoldable pub advance : Image → Call → Image
  advance w (to_server i from f out to) =
      let r = seen_server w i from f out to in
      let p = w.proper && proper_call w.log (to_server i from f out to) in
      record {
        servers = put w.servers i (record { server = r.server; entries = r.entries });
        clients = w.clients;
        log = record { by = P.Server i; sends = r.sends } ∷ w.log;
        proper = p;
      }
  advance w (to_client c from f lent result out to) =
      let r = seen_client w c from f lent result out to in
      let p = w.proper && proper_call w.log (to_client c from f lent result out to) in
      record {
        servers = w.servers;
        clients = put w.clients c (record { client = r.client; entries = r.entries; value = (w.clients c).value });
        log = record { by = P.Client c; sends = r.sends } ∷ w.log;
        proper = p;
      }
  advance w (begin_read c out to) =
      let r = CB.read_begun g c (w.clients c).client out to in
      let p = w.proper && proper_call w.log (begin_read c out to) in
      record {
        servers = w.servers;
        clients = put w.clients c (record { client = r.client; entries = (w.clients c).entries; value = (w.clients c).value });
        log = record { by = P.Client c; sends = r.sends } ∷ w.log;
        proper = p;
      }
  advance w (begin_write c v out to) =
      let r = CB.write_begun g c (w.clients c).client v out to in
      let p = w.proper && proper_call w.log (begin_write c v out to) in
      record {
        servers = w.servers;
        clients = put w.clients c (record {
          client = r.client;
          entries = (w.clients c).entries;
          value = lent_by Z (CB.write_test g c (w.clients c).client v out to) v (w.clients c).value;
        });
        log = record { by = P.Client c; sends = r.sends } ∷ w.log;
        proper = p;
      }

  unfoldable pub image : List Call → Image
  image [] = record {
    servers = λ i. record { server = fresh_server; entries = entry_at g ((start Z).servers i).area };
    clients = λ c. record { client = fresh_client; entries = entry_at g ((start Z).clients c).area; value = [] };
    log = [];
    proper = true;
  }
  image (k ∷ ks) = advance (image ks) k

  -- whether a call is refused, and with which number
  unfoldable pub refused_in : Image → Call → Option ℕ
  refused_in w (to_server i from f out to) = judged_bad (Served.judge_by H g i (w.servers i).server from f out to)
  refused_in w (to_client c from f lent result out to) = judged_bad (Asked.judge_by H g c (w.clients c).client (lent_in w c lent) from f result out to)
  refused_in w (begin_read c out to) = verdict_bad (CB.read_test g c (w.clients c).client out to)
  refused_in w (begin_write c v out to) = verdict_bad (CB.write_test g c (w.clients c).client v out to)

  -- what a call accepts, and what it ends
  unfoldable pub accepted_in : Image → Call → List Write
  accepted_in w (to_server i from f out to) = (seen_server w i from f out to).accepted
  accepted_in w (to_client c from f lent result out to) = []
  accepted_in w (begin_read c out to) = []
  accepted_in w (begin_write c v out to) = []

  unfoldable pub end_in : Image → Call → C.Event
  end_in w (to_server i from f out to) = C.nothing
  end_in w (to_client c from f lent result out to) = (seen_client w c from f lent result out to).event
  end_in w (begin_read c out to) = C.nothing
  end_in w (begin_write c v out to) = C.nothing
