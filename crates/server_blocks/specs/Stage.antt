-- How the code handles a frame of a write, stage by stage: what each stage asks, and what it leaves. These are definitions.
use Rattle.std.specs.Prelude.{ℕ, ◌+◌, ◌*◌, ◌-◌, ◌≤◌, ◌≡◌, Bool, false, not, ◌&&◌, List, [], length, get_or, eqb, Ok}
use Rattle.area.specs.Area.{pick}
use Rattle.blocks.specs.declared.Params.{Params}
use Rattle.sha256.specs.Hash.{digest_of}
use Rattle.frame.specs.Refusals.{and_then, refused, Verdict}
use Rattle.frame.specs.Params.{Bounded, width, listed, largest_frame, server_frames}
use Rattle.frame.specs.Messages.{Entry, entry, Offer, offer, Stage, echo, ready, message, Sending, to_all, block_is, number_in, from_server}
use Rattle.frame.specs.Outbox.{outbox, first_place, Room}
use Rattle.frame.specs.Chunks.{store_if, complete_at, echoes_from, readies_from}
use Rattle.server_rules.specs.declared.BlockPart.{BlockPart}
use Rattle.server_rules.specs.declared.Slot.{Slot}
use Rattle.server_rules.specs.State.{with_blocks, block_echo, block_ready, block_marks}
use Rattle.group_rules.specs.Coded.{fit_test}
use Rattle.server_rules.specs.Tests.{from_owner, open_test, block_test}
use Rattle.server_rules.specs.Steps.{Counting, voted_block}
use Rattle.server.specs.declared.Call.{Call}
use Rattle.server.specs.declared.Moved.{Moved}
use Rattle.server.specs.Stages.{left, counts, Counted, handled, sent_by, block_frame, Lent}
use Rattle.server_blocks.specs.declared.Due.{Due}

-- ---- what the stages ask

-- a digest list and a block of these lengths
pub record Carried (g : Params) (list block : ℕ) : Type 0 where
  pub list_is : list ≡ listed g
  pub block_is_lem : block ≡ width g

-- the parameters are within their bounds, and server me is one of 1 to n
pub record Own (g : Params) (me : ℕ) : Type 0 where
  pub bounded : Bounded g
  pub own_low : 1 ≤ me
  pub own_high : me ≤ g.n

-- the frames of eight acceptances: to each of them belong at most eight values, an ack, and reports to n servers and eight clients
abbrev pub freed_frames : Params → ℕ
freed_frames g = 8 * g.n + 136

-- room for all frames of the step k: readies, and those of an acceptance
abbrev pub RoomFor : Call → ℕ → ℕ → Type 0
RoomFor k out to = Room first_place (server_frames k.params) (largest_frame k.params) out to

-- and a whole state area
abbrev pub LentFor : Call → ℕ → ℕ → ℕ → Type 0
LentFor k area out to = Lent k.params k.header.client area first_place (server_frames k.params) out to

-- ---- echoes and readies, kinds 4 and 5

unfoldable pub vote_stage : ℕ → Stage
vote_stage kind = pick (eqb kind 4) echo ready

-- server j's, of time T, is counted
unfoldable pub vote_counted : Bool → BlockPart → ℕ → ℕ → BlockPart
vote_counted echoes b j T = pick echoes (block_echo b j T) (block_ready b j T)

-- server j's, of client c, is kept in the chunk that comes j after this one
unfoldable pub votes_from : Bool → ℕ → ℕ
votes_from echoes c = pick echoes (echoes_from c) (readies_from c)

-- ---- refusals 11 to 14

-- of the frame k, of the stage z and with the offer o, whose write has the slot x
unfoldable pub verdict_of : Call → Slot → Stage → Offer → Verdict
verdict_of k x z o = sent_by k (block_is z o) (block_test digest_of k.params k.me x (number_in k.from) k.header.sequence z o)

-- the same of the owner's frame, whose time is tested against nothing
unfoldable pub send_verdict : Call → Slot → Entry → Verdict
send_verdict k x e =
    pick (from_owner k.from k.header.client) (and_then (open_test x k.header.sequence x.blocks.sent) (fit_test digest_of e k.me)) (refused 11)

-- whether the sender's echo or ready was counted already
unfoldable pub voted_before : Call → Slot → Bool
voted_before k x = get_or (pick (eqb k.header.kind 4) x.blocks.echoes x.blocks.readies) (number_in k.from) false

-- of an echo or a ready
unfoldable pub vote_verdict : Call → Slot → Entry → Verdict
vote_verdict k x e =
    pick (from_server k.params k.from) (and_then (open_test x k.header.sequence (voted_before k x)) (fit_test digest_of e (number_in k.from)))
    (refused 11)

-- ---- what they leave

-- readies of the own offer to all
abbrev pub readies_of : Call → Offer → List Sending
readies_of k own = to_all k.params (λ j. message k.header.client k.header.sequence (block_is ready own))

-- What is due is known: readies of the own entry go out with the time, and both become the completed ones if there are none. (The decoded values are left
-- out.)
unfoldable pub answered_by : Call → List ℕ → Slot → Due → Entry → Counting
answered_by k a x d own = record {
  slot = with_blocks x (block_marks x.blocks d.ready d.complete d.time);
  area = store_if (not x.blocks.complete && d.complete) a (complete_at k.header.client) own;
  sends = pick d.ready (readies_of k (offer d.time own)) [];
  decodes = [];
}

module _ (k : Call) (x : Slot) where
  -- the stage left m, and there is room for the frames of the acceptances
  pub record Answered (d : Due) (own : Entry) (a₀ out₀ to₀ : List ℕ) (m : Moved) (a out to : List ℕ) : Type 0 where
    pub leaves : left m.slot a (outbox out to m.place) ≡ counts (answered_by k a₀ x d own) (outbox out₀ to₀ first_place)
    pub room : Room m.place (freed_frames k.params) (largest_frame k.params) (length out) (length to)

  -- an echo or a ready of the time T and the list d was counted in the slot x; its block does not matter
  pub record BlockVoted (T : ℕ) (d a₀ out₀ to₀ : List ℕ) (m : Moved) (a out to : List ℕ) : Type 0 where
    pub leaves : (b : List ℕ)
        → left m.slot a (outbox out to m.place)
        ≡ counts (voted_block digest_of k.params k.me a₀ k.header.client x (offer T (entry d b))) (outbox out₀ to₀ first_place)
    pub room : Room m.place (freed_frames k.params) (largest_frame k.params) (length out) (length to)

  -- a frame of the stage z, with the offer o, reached the slot x
  pub record BlockHandled (z : Stage) (o : Offer) (a₀ out₀ to₀ : List ℕ) (r : Counted) (a out to : List ℕ) : Type 0 where
    pub handles : handled x r a out to ≡ block_frame digest_of k x a₀ z o (outbox out₀ to₀ first_place)
    pub room : (m : Moved) → r ≡ Ok m → Room m.place (freed_frames k.params) (largest_frame k.params) (length out) (length to)
