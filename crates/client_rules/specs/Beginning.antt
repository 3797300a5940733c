-- A client begins a read or a write: the tests in the order of their numbers (1, 2, 3, 10, 15, 16, 17), and the whole outcome. g are the
-- parameters, me the client's number. These are definitions.
use Rattle.std.specs.Prelude.{ℕ, ◌+◌, Bool, false, not, List, [], length, replicate, leb, eqb, Ok, Err}
use Rattle.std.proofs.lemmas.List.Edits.{sets}
use Rattle.area.specs.Area.{pick}
use Rattle.area.specs.Responses.{Response}
use Rattle.blocks.specs.declared.Params.{Params}
use Rattle.frame.specs.Refusals.{refused, answered_by, and_then, Verdict, fine}
use Rattle.frame.specs.Params.{params_test}
use Rattle.frame.specs.Stamps.{last_sequence, last_client}
use Rattle.frame.specs.Messages.{get_stamp, ask_read, message, to_all}
use Rattle.frame.specs.Outbox.{frames, receivers}
use Rattle.client_rules.specs.declared.Client.{Client}
use Rattle.client_rules.specs.declared.Answered.{Answered}
use Rattle.client_rules.specs.declared.Phase.{Phase}
use Rattle.client_rules.specs.declared.Phase.TheVariants as F
use Rattle.client_rules.specs.Answers.{Progress, goes_on, answer_response}
use Rattle.client_rules.specs.State.{fresh_row, idle}
use Rattle.client_rules.specs.Tests.{send_room}
use Rattle.client_rules.specs.Steps.{nothing, Effect, quiet}

-- the whole outcome of a beginning; the rows area is not lent
pub record Begun : Type 0 where
  pub answer : Response Progress
  pub client : Client
  pub out : List ℕ
  pub to : List ℕ

abbrev pub begun : Answered → List ℕ → List ℕ → Begun
begun r out to = record { answer = answer_response r.answer; client = r.client; out = out; to = to }

-- ---- the tests

-- refusal 15, "an operation is open"; 16, "sequences used up": last is the last number used
abbrev pub idle_test : Phase → ℕ → Verdict
idle_test p last =
    pick (not (idle p)) (refused 15)
    (pick (leb last_sequence last) (refused 16)
    fine)

-- refusal 17: "a write by a client whose earlier write closed as out of stamps"
abbrev pub closed_test : Bool → Verdict
closed_test closed = pick closed (refused 17) fine

-- refusal 3: "value not L long"
unfoldable pub length_test : Params → ℕ → Verdict
length_test g v = pick (eqb v g.size) fine (refused 3)

module _ (g : Params) (me : ℕ) where
  unfoldable pub read_test : Client → List ℕ → List ℕ → Verdict
  read_test s out to = and_then (params_test g me last_client) (and_then (send_room g (length out) (length to)) (idle_test s.phase s.reads))

  unfoldable pub write_test : Client → List ℕ → List ℕ → List ℕ → Verdict
  write_test s v out to =
      and_then (params_test g me last_client)
      (and_then (length_test g (length v))
      (and_then (send_room g (length out) (length to))
      (and_then (idle_test s.phase s.writes)
      (closed_test s.closed))))

  -- ---- what a beginning does

  -- "Read to all."; the rows are empty
  unfoldable pub open_read : Client → Effect
  open_read s = record {
    client = record {
      writes = s.writes;
      reads = s.reads + 1;
      closed = s.closed;
      phase = F.Reading;
      heard = s.heard;
      times = s.times;
      rows = replicate 11 fresh_row;
      reports = s.reports;
    };
    area = [];
    sends = to_all g (λ j. message me (s.reads + 1) ask_read);
    event = nothing;
  }

  -- "Get-stamp to all."
  unfoldable pub open_write : Client → Effect
  open_write s = record {
    client = record {
      writes = s.writes + 1;
      reads = s.reads;
      closed = s.closed;
      phase = F.Asking;
      heard = replicate 11 false;
      times = replicate 11 0;
      rows = s.rows;
      reports = s.reports;
    };
    area = [];
    sends = to_all g (λ j. message me (s.writes + 1) get_stamp);
    event = nothing;
  }

  unfoldable pub begin_by : Verdict → Client → Effect → Effect
  begin_by (Ok _) s x = x
  begin_by (Err r) s x = quiet s []

  unfoldable pub read_begun : Client → List ℕ → List ℕ → Effect
  read_begun s out to = begin_by (read_test s out to) s (open_read s)

  unfoldable pub write_begun : Client → List ℕ → List ℕ → List ℕ → Effect
  write_begun s v out to = begin_by (write_test s v out to) s (open_write s)

  -- ---- the whole outcome

  unfoldable pub begun_of : Verdict → Effect → List ℕ → List ℕ → Begun
  begun_of b x out to = record {
    answer = answered_by b (goes_on (length x.sends));
    client = x.client;
    out = sets out 0 (frames x.sends);
    to = sets to 0 (receivers x.sends);
  }

  -- the entry points
  unfoldable pub read_beginning : Client → List ℕ → List ℕ → Begun
  read_beginning s out to = begun_of (read_test s out to) (read_begun s out to) out to

  unfoldable pub write_beginning : Client → List ℕ → List ℕ → List ℕ → Begun
  write_beginning s v out to = begun_of (write_test s v out to) (write_begun s v out to) out to
