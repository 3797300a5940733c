-- From the outcome of a frame that was let in, or was not, to the outcome at the record's bytes. Assumes nothing.
use Rattle.std.specs.Prelude.{Ok, Err}
use Prim.Native.Nat.{ℕ, ◌≤◌, ◌<◌}
use native.Mathlib.Omega.{arith}
use native.Mathlib.Decide.{dec_lt}
use mathlib.Core.Path.{◌≡◌, refl, sym, ap, ap₂, ◌∙◌}
use mathlib.Core.List.{List}
use lib.ListN.{length}
use lib.Seq.{get_or-set_same}
use lib.Dec.{ltb}
use borrow.Author.Tests.{lt-ltb, le-ltb}
use Rattle.area.specs.Area.{pick, table}
use Rattle.area.specs.Responses.{turned_down, is_turned_down}
use Rattle.area.proofs.Fills.{length_table_from}
use Rattle.sha256.specs.Hash.{digest_of}
use Rattle.blocks.specs.declared.Params.{Params}
use Rattle.frame.specs.declared.Header.{Header}
use Rattle.frame.specs.Frames.{Opened}
use Rattle.frame.specs.declared.Party.{Party}
use Rattle.frame.specs.declared.Refusal.{Refusal}
use Rattle.frame.specs.Refusals.{number_of, answered_by, Verdict}
use Rattle.frame.specs.Messages.{Message, Judged, judged_by}
use Rattle.frame.specs.Frames.{header_in, message_in}
use Rattle.frame.specs.Outbox.{frames, receivers}
use Rattle.server_rules.specs.declared.Reader.{Reader}
use Rattle.server_rules.specs.declared.Scope.{Scope}
use Rattle.server_rules.specs.declared.Slot.{Slot}
use Rattle.server_rules.specs.State.{no_slot, no_reader}
use Rattle.server_rules.specs.Scopes.{scope_of, with_scope}
use Rattle.server_rules.specs.Tests.{message_test}
use Rattle.server_rules.specs.Steps.{Effect, effect}
use Rattle.server_rules.specs.Delivery.{Outcome, effect_by, delivered, reply_of, outcome_of, delivery}
use Rattle.server.specs.declared.Call.{Call}
use Rattle.server.specs.Stages.{stepped, answered}
use Rattle.layout.specs.Fields.{row_at}
use Rattle.layout.specs.Left.{left_by}
use Rattle.layout.specs.Servers.{server_size, slots_at, readers_at, server_at, server_in}
use Rattle.server_deliver.specs.Handed.{admitted, step_for, byte_step}
use Rattle.server_deliver.specs.Records.{ByteOutcome, byte_outcome, outcome_at, short_reply, byte_delivery}
use Rattle.server_deliver.proofs.Openings.{handed, refused_tests, short_tests, fine_tests, refused_delivery, judged_fine}

-- ---- a record has nine slots and nine readers

pub nine_slots : (state : List ℕ) → length (server_in state).slots ≡ 9
unfolding server_in server_at slots_at row_at table
nine_slots state = length_table_from _ 0 9

pub nine_readers : (state : List ℕ) → length (server_in state).readers ≡ 9
unfolding server_in server_at readers_at row_at table
nine_readers state = length_table_from _ 0 9

abbrev scope_of_lem : Scope → Slot → Reader → Scope
scope_of_lem x y z = record { stamp = x.stamp; slot = y; reader = z }

-- the scope of the record with that scope put back
pub scope_in : (state : List ℕ) (c : ℕ) (x : Scope) → c ≤ 8 → scope_of (with_scope (server_in state) c x) c ≡ x
scope_in state c x h =
    ap₂ (scope_of_lem x) (get_or-set_same (server_in state).slots c x.slot no_slot (omega (arith, h, nine_slots state)))
    (get_or-set_same (server_in state).readers c x.reader no_reader (omega (arith, h, nine_readers state)))

-- ---- the outcome

module _ (g : Params) (me : ℕ) (from : Party) (f area initial state out to : List ℕ) where
  -- the outcome for the server that the bytes say
  abbrev handed_in_lem : Outcome
  handed_in_lem = delivery digest_of g me (server_in state) area initial from f out to

  abbrev does : Effect
  does = delivered digest_of g me (server_in state) area initial from f out to

  -- the record's area is short
  pub short_record : length state < server_size → byte_outcome (short_reply g me f) area state out to ≡ byte_delivery digest_of g me from f area initial state out to
  unfolding byte_delivery pick
  short_record h = rw (lt-ltb _ _ h)

  -- or it holds a record
  pub whole_record : server_size ≤ length state → outcome_at handed_in_lem does (header_in f) from state ≡ byte_delivery digest_of g me from f area initial state out to
  unfolding byte_delivery pick
  whole_record h = rw (le-ltb _ _ h)

  module _ (q : Opened) (e : q ≡ admitted g me f (length state) (length area) (length initial) (length out) (length to)) where
    -- refusals 1 to 10
    pub refused_bytes : (r : Refusal) → q ≡ Err r
        → byte_outcome (turned_down (number_of r)) area state out to ≡ byte_delivery digest_of g me from f area initial state out to
    unfolding outcome_at left_by is_turned_down pick short_reply
    refused_bytes r p = go (dec_lt (length state) server_size)
      where
        go : Dec (length state < server_size)
            → byte_outcome (turned_down (number_of r)) area state out to ≡ byte_delivery digest_of g me from f area initial state out to
        go (yes h) =
            let w = short_tests g me f (length state) (length area) (length initial) (length out) (length to) q e h r p in
            ap (λ (v : Verdict). byte_outcome (answered_by v 0) area state out to) (sym w) ∙ short_record h
        go (no h) =
            let l : server_size ≤ length state = omega (arith, h) in
            let w = refused_tests g me f (length state) (length area) (length initial) (length out) (length to) q e l r p in
            ap (λ (z : Outcome). outcome_at z does (header_in f) from state) (refused_delivery digest_of g me (server_in state) area initial from f out to r w)
            ∙ whole_record l

    -- refusals 11 to 14, and the step
    abbrev by : Judged → ByteOutcome
    by j =
        outcome_at (outcome_of digest_of g me j (effect_by digest_of g me j (server_in state) area initial from) out to)
        (effect_by digest_of g me j (server_in state) area initial from) (header_in f) from state

    answered_by_lem : (v : Verdict) (m : Message)
        → outcome_at (answered v (server_in state) area (effect digest_of g me (server_in state) area initial from m) out to)
        (effect digest_of g me (server_in state) area initial from m) (header_in f) from state
        ≡ by (judged_by v m)
    unfolding outcome_at answered stepped outcome_of effect_by reply_of left_by is_turned_down pick frames receivers
    answered_by_lem (Err r) m = refl
    answered_by_lem (Ok _) m = refl

    pub taken_bytes : (d : Header) → q ≡ Ok d
        → byte_step digest_of (record { params = g; me = me; from = from; header = d }) f area initial state out to
        ≡ byte_delivery digest_of g me from f area initial state out to
    unfolding byte_step step_for delivery delivered
    taken_bytes d p =
        let s = server_in state in
        let t : Call = record { params = g; me = me; from = from; header = d } in
        let D = handed t f (length state) (length area) (length initial) (length out) (length to) q e p in
        let F = fine_tests g me f (length state) (length area) (length initial) (length out) (length to) q e D.2 d p in
        let h = F.1 in
        let m : Header → Message = λ h. message_in g h f in
        sym (ap (λ (h : Header). outcome_at (answered (message_test digest_of g me s from (m h)) s area (effect digest_of g me s area initial from (m h)) out to)
        (effect digest_of g me s area initial from (m h)) h from state) h)
        ∙ answered_by_lem (message_test digest_of g me s from (m (header_in f))) (m (header_in f))
        ∙ ap by (sym (judged_fine digest_of g me s area initial from f out to F.0))
        ∙ whole_record D.2
