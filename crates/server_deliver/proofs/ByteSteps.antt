-- From the stages of a step in a record's bytes to its outcome. Assumes nothing.
use Rattle.std.specs.Prelude.{Ok, Err}
use Prim.Native.Nat.{ℕ, ◌+◌, ◌*◌, ◌≤◌, ◌<◌}
use native.Mathlib.Omega.{arith}
use native.Mathlib.Nat.{zero-add}
use mathlib.Core.Path.{◌≡◌, refl, ap, ap₂, sym, ◌∙◌}
use mathlib.Core.Bool.{Bool, true, false}
use mathlib.Core.List.{List, [], ◌++◌}
use lib.ListN.{length, get_or, set, length-set}
use lib.Seq.{set-get_or, get_or-set_same}
use lib.Dec.{eqb, ltb}
use borrow.Author.Tests.{ne_eqb, eq-eqb, lt-ltb, le-ltb}
use Rattle.area.specs.Area.{pick, Bytes}
use Rattle.area.specs.Numbers.{be8}
use Rattle.area.specs.Responses.{Response, turned_down, gives, is_turned_down}
use Rattle.area.proofs.Numbers.{be8_range}
use Rattle.blocks.specs.declared.Params.{Params}
use Rattle.frame.specs.declared.Place.{Place}
use Rattle.frame.specs.declared.Refusal.{Refusal}
use Rattle.frame.specs.declared.Refusal.TheVariants as R
use Rattle.frame.specs.Refusals.{number_of, Verdict, fine}
use Rattle.frame.specs.Messages.{Offer, Stage, Message, Body, message, number_in, from_server, block_is, report}
use Rattle.frame.specs.Frames.{body_at, offer_in, body_in, message_in}
use Rattle.frame.specs.Outbox.{Outbox, outbox, sent, first_place}
use Rattle.frame.proofs.Outbox.{sent_append}
use Rattle.server_rules.specs.declared.Reader.{Reader}
use Rattle.server_rules.specs.declared.Scope.{Scope}
use Rattle.server_rules.specs.declared.Server.{Server}
use Rattle.server_rules.specs.declared.Slot.{Slot}
use Rattle.server_rules.specs.State.{no_slot, no_reader, slot_of, reader_of, report_of, with_slot, with_report}
use Rattle.server_rules.specs.Scopes.{scope_of}
use Rattle.server_rules.specs.Tests.{sender_right, order_test, report_test, message_test}
use Rattle.server_rules.specs.Steps.{Effect, Counting, behind, free, free_all, freed, settle, rounds, on_body, effect}
use Rattle.server_rules.proofs.Shapes as L
use Rattle.server_rules.proofs.Freeing.{freed_readers, freed_reports}
use Rattle.server_rules.proofs.Within.{slot_within, reader_within, with_slot_lem, with_report_lem, counted_within}
use Rattle.server.specs.declared.Call.{Call}
use Rattle.server.specs.declared.Moved.{Moved}
use Rattle.server.specs.declared.Taken.{Taken}
use Rattle.server_rules.specs.Delivery.{Outcome}
use Rattle.server.specs.Stages.{slot_in, Left, left, counts, Counted, handled, handled_by, block_frame, outcome_in, stepped, answered}
use Rattle.server_blocks.specs.Stage.{vote_stage}
use Rattle.layout.specs.Left.{left_by}
use Rattle.layout.specs.Servers.{server_size, server_in, scope_sets, report_sets}
use Rattle.layout.specs.Typed.{Long, TypedSlot, TypedServer, widths}
use Rattle.layout.proofs.ScopeBack.{scope_back, report_back}
use Rattle.layout.proofs.TypedSteps.{typed_in}
use Rattle.server_deliver.specs.Handed.{step_for, byte_step}
use Rattle.server_deliver.specs.Records.{ByteOutcome, byte_outcome, frame_sets, accepted_sets, effect_sets, outcome_at}
use Rattle.server_deliver.specs.Rounds.{Settled, settled, opened_in, freed_in}
use Rattle.server_deliver.proofs.Finals.{opened_final, scope_final}
use Rattle.server_deliver.proofs.Records.{nine_slots, scope_in}
use Rattle.server_deliver.proofs.Settling.{turned_down_lem, counted}
use Rattle.server_deliver.proofs.Votes.{vote_says, vote_frees, counting, vote_handled, vote_effect}

module _ (H : List ℕ → List ℕ) (k : Call) (f a initial st out to : List ℕ) where
  abbrev g : Params
  g = k.params

  abbrev c : ℕ
  c = k.header.client

  abbrev j : ℕ
  j = number_in k.from

  abbrev s : Server
  s = server_in st

  abbrev m : Message
  m = message_in g k.header f

  -- what the tests 11 to 14 say
  abbrev test : Verdict
  test = message_test H g k.me s k.from m

  abbrev does : Effect
  does = effect H g k.me s a initial k.from m

  -- ---- the two outcomes

  abbrev by : Verdict → Effect → ByteOutcome
  by v x = outcome_at (answered v s a x out to) x k.header k.from st

  pub byte_refused : (r : Refusal) → test ≡ Err r → byte_outcome (turned_down (number_of r)) a st out to ≡ byte_step H k f a initial st out to
  unfolding byte_step step_for outcome_at answered left_by is_turned_down pick
  byte_refused r e = sym (ap (λ v. by v does) e)

  byte_taken : test ≡ fine → (x : Effect) → does ≡ x → (l b o t : List ℕ) (p : Place)
      → settled l b (outbox o t p) ≡ settled (effect_sets x k.header k.from st) x.area (sent (outbox out to first_place) x.sends)
      → byte_outcome (gives p.count) b l o t ≡ byte_step H k f a initial st out to
  unfolding byte_step step_for outcome_at answered stepped left_by is_turned_down pick sent
  byte_taken e x d l b o t p h =
      let n : p.count ≡ length x.sends = ap (λ (y : Settled). y.box.place.count) h ∙ zero-add (length x.sends) in
      (λ i. byte_outcome (gives (n i)) (h i).area (h i).state (h i).box.out (h i).box.to) ∙ sym (ap (λ v. by v does) e ∙ ap (by fine) d)

  module _ (long : server_size ≤ length st) (B : Bytes st) (few : c ≤ 8) where
    typed : TypedServer s
    typed = typed_in st B

    -- what is accepted from s₁ on, whose record's bytes are l₁, with the area a₁ and after the frames xs
    settles : (s₁ : Server) (l₁ l₂ a₁ a₂ o₁ t₁ o₂ t₂ : List ℕ) (p₁ p₂ : Place) (q : Outbox) → server_in l₁ ≡ s₁ → outbox o₁ t₁ p₁ ≡ q
        → settled l₂ a₂ (outbox o₂ t₂ p₂) ≡ freed_in g 8 l₁ a₁ (outbox o₁ t₁ p₁)
        → let x = free_all g s₁ a₁ in settled l₂ a₂ (outbox o₂ t₂ p₂) ≡ settled (opened_in s₁.stamp x.accepted l₁) x.area (sent q x.sends)
    unfolding freed_in
    settles s₁ l₁ l₂ a₁ a₂ o₁ t₁ o₂ t₂ p₁ p₂ q e h z =
        z ∙ (λ i. let x = free_all g (e i) a₁ in settled (opened_in (e i).stamp x.accepted l₁) x.area (sent (h i) x.sends))

    -- ---- an echo or a ready

    module _ (low : 4 ≤ k.header.kind) (high : k.header.kind ≤ 5) where
      abbrev z : Stage
      z = vote_stage k.header.kind

      abbrev p : Counting
      p = counting H k a s z (offer_in g f)

      abbrev voted : Message
      voted = message c k.header.sequence (block_is z (offer_in g f))

      is_voted : m ≡ voted
      unfolding message_in
      is_voted = ap (message c k.header.sequence) (vote_says g f k.header.kind low high)

      -- the server that has counted it, and its record's bytes
      abbrev s₁ : Server
      s₁ = with_slot s c p.slot

      abbrev counts_in : List ℕ
      counts_in = scope_sets st c s.stamp p.slot (reader_of s c)

      -- what is accepted after it
      abbrev x : Effect
      x = free_all g s₁ p.area

      pub votes : does ≡ behind p x
      unfolding settle
      votes =
          ap (effect H g k.me s a initial k.from) is_voted
          ∙ vote_effect H k a s z (offer_in g f) initial
          ∙ ap (behind p) (vote_frees g k.header.kind s₁ p.area)

      module _ (F : Bytes f) where
        typed_slot : TypedSlot p.slot
        typed_slot =
            counted_within widths H g k.me s a initial j c (λ l d. length-set l j true ∙ d) (slot_within widths typed c few) (L.block z (offer_in g f))
            (be8_range f body_at F)

        pub vote_typed : TypedServer s₁
        vote_typed = with_slot_lem widths typed c p.slot typed_slot

        pub vote_back : server_in counts_in ≡ s₁
        vote_back =
            scope_back st c s.stamp p.slot (reader_of s c) long few typed.stamp typed_slot (reader_within widths typed c few)
            ∙ (λ i. record { stamp = s.stamp; slots = set s.slots c p.slot; readers = set-get_or s.readers c no_reader i; reports = s.reports })

      pub vote_final : opened_in s₁.stamp x.accepted counts_in ≡ effect_sets (behind p x) k.header k.from st
      unfolding effect_sets frame_sets pick
      vote_final =
          let fr = L.free g rounds s₁ p.area in
          let here : slot_of s₁ c ≡ p.slot = get_or-set_same s.slots c p.slot no_slot (omega (arith, few, nine_slots st)) in
          let none : eqb k.header.kind 13 ≡ false = ne_eqb k.header.kind 13 (λ d. omega (arith, d, high)) in
          ap (λ y. opened_in s₁.stamp x.accepted (scope_sets st c s.stamp y (reader_of s c))) (sym here)
          ∙ scope_final fr (length-set s.slots c p.slot ∙ nine_slots st) st c (reader_of s c) few
          ∙ ap (λ rs. accepted_sets x.server x.accepted (scope_sets st c x.server.stamp (slot_of x.server c) (get_or rs c no_reader)))
          (sym (freed_readers fr))
          ∙ ap (λ b. accepted_sets x.server x.accepted (pick b (report_sets st j (report_of x.server j))
          (scope_sets st c x.server.stamp (slot_of x.server c) (reader_of x.server c)))) (sym none)

      module _ (n : Counted) (a₁ o₁ t₁ : List ℕ)
          (h : handled (slot_of s c) n a₁ o₁ t₁ ≡ block_frame H k (slot_of s c) a (vote_stage k.header.kind) (offer_in g f) (outbox out to first_place)) where
        handles : handled (slot_of s c) n a₁ o₁ t₁ ≡ handled_by (message_test H g k.me s k.from voted) (slot_of s c) a p (outbox out to first_place)
        handles = h ∙ vote_handled H k a s z (offer_in g f) (slot_of s c) (outbox out to first_place) refl

        pub vote_refused : (r : Refusal) → n ≡ Err r → byte_outcome (turned_down (number_of r)) a₁ st o₁ t₁ ≡ byte_step H k f a initial st out to
        vote_refused r e =
            let (u, x, y, v) = turned_down_lem n (slot_of s c) a a₁ out o₁ to t₁ p _ r handles e in
            (λ i. byte_outcome (turned_down (number_of r)) (x i) st (y i) (v i)) ∙ byte_refused r (ap (message_test H g k.me s k.from) is_voted ∙ u)

        module _ (d : Moved) (e : n ≡ Ok d) (y : Scope) (q : y ≡ slot_in (scope_of s c) d.slot) (F : Bytes f) (l₁ : List ℕ)
            (w : l₁ ≡ scope_sets st c y.stamp y.slot y.reader) where
          passes : message_test H g k.me s k.from voted ≡ fine
          passes = (counted n (slot_of s c) a a₁ out o₁ to t₁ p _ d handles e).0

          count : left d.slot a₁ (outbox o₁ t₁ d.place) ≡ counts p (outbox out to first_place)
          count = (counted n (slot_of s c) a a₁ out o₁ to t₁ p _ d handles e).1

          written : l₁ ≡ counts_in
          unfolding counts
          written =
              w
              ∙ ap (λ (x : Scope). scope_sets st c x.stamp x.slot x.reader) q
              ∙ ap (λ (x : Left). scope_sets st c s.stamp x.slot (reader_of s c)) count

          pub vote_taken : (l₂ a₂ o₂ t₂ : List ℕ) (p₂ : Place) → settled l₂ a₂ (outbox o₂ t₂ p₂) ≡ freed_in g 8 l₁ a₁ (outbox o₁ t₁ d.place)
              → byte_outcome (gives p₂.count) a₂ l₂ o₂ t₂ ≡ byte_step H k f a initial st out to
          unfolding counts
          vote_taken l₂ a₂ o₂ t₂ p₂ r =
              let D : a₁ ≡ p.area = ap (λ (x : Left). x.area) count in
              let b : outbox o₁ t₁ d.place ≡ sent (outbox out to first_place) p.sends = ap (λ (x : Left). x.box) count in
              byte_taken (ap (message_test H g k.me s k.from) is_voted ∙ passes) (behind p x) votes l₂ a₂ o₂ t₂ p₂
              (settles s₁ l₁ l₂ p.area a₂ o₁ t₁ o₂ t₂ d.place p₂ _ (ap server_in written ∙ vote_back F) b
              (r ∙ ap (λ y. freed_in g 8 l₁ y (outbox o₁ t₁ d.place)) D)
              ∙ ap (λ y. settled (opened_in s₁.stamp x.accepted y) x.area (sent (sent (outbox out to first_place) p.sends) x.sends)) written
              ∙ (λ i. settled (vote_final i) x.area (sent_append (outbox out to first_place) p.sends x.sends i)))

    -- ---- a report

    module _ (K : k.header.kind ≡ 13) where
      abbrev T : ℕ
      T = be8 f body_at

      abbrev reported : Message
      reported = message c k.header.sequence (report T)

      is_reported : m ≡ reported
      unfolding message_in body_in pick
      is_reported = ap (λ (n : ℕ). message c k.header.sequence (body_in g n f)) K

      -- the server that keeps it, and its record's bytes
      abbrev s₂ : Server
      s₂ = with_report s j T

      abbrev keeps_in : List ℕ
      keeps_in = report_sets st j T

      -- what is accepted after it
      abbrev y : Effect
      y = free_all g s₂ a

      pub reports : does ≡ y
      unfolding on_body effect
      reports = ap (effect H g k.me s a initial k.from) is_reported

      module _ (high : j ≤ 10) where
        module _ (F : Bytes f) where
          pub report_typed : TypedServer s₂
          report_typed = with_report_lem widths typed j T (be8_range f body_at F)

          pub report_in_lem : server_in keeps_in ≡ s₂
          report_in_lem = report_back st j T long high (be8_range f body_at F)

        pub report_final : opened_in s₂.stamp y.accepted keeps_in ≡ effect_sets y k.header k.from st
        unfolding effect_sets frame_sets pick
        report_final =
            let fr = L.free g rounds s₂ a in
            let here : report_of y.server j ≡ T =
            ap (λ rs. get_or rs j 0) (freed_reports fr) ∙ get_or-set_same s.reports j T 0 (omega (arith, high, typed.reports.0)) in
            opened_final fr (nine_slots st) keeps_in
            ∙ ap (λ T. accepted_sets y.server y.accepted (report_sets st j T)) (sym here)
            ∙ ap (λ b. accepted_sets y.server y.accepted (pick b (report_sets st j (report_of y.server j))
            (scope_sets st c y.server.stamp (slot_of y.server c) (reader_of y.server c)))) (sym (eq-eqb k.header.kind 13 K))

      abbrev tests : Bool → Bool → Verdict
      tests b d = pick b (pick d fine (Err R.Stale)) (Err R.Sender)

      tested : test ≡ tests (from_server g k.from) (ltb (report_of s j) T)
      unfolding message_test sender_right order_test report_test
      tested = ap (message_test H g k.me s k.from) is_reported

      pub report_sender : (b : Bool) → b ≡ from_server g k.from → b ≡ false → byte_outcome (turned_down 11) a st out to ≡ byte_step H k f a initial st out to
      unfolding pick
      report_sender b e h = byte_refused R.Sender (tested ∙ ap (λ b. tests b (ltb (report_of s j) T)) (sym e ∙ h))

      module _ (b : Bool) (e : b ≡ from_server g k.from) (h : b ≡ true) (U x : ℕ) (u : U ≡ T) (v : x ≡ report_of s j) where
        pub report_stale : U ≤ x → byte_outcome (turned_down 12) a st out to ≡ byte_step H k f a initial st out to
        unfolding pick
        report_stale l = byte_refused R.Stale (tested ∙ ap₂ tests (sym e ∙ h) (le-ltb (report_of s j) T (omega (arith, l, u, v))))

        module _ (l : x < U) (F : Bytes f) (high : j ≤ 10) (i : ℕ) (p : i ≡ j) (l₁ : List ℕ) (w : l₁ ≡ report_sets st i U) where
          fine_report : test ≡ fine
          unfolding pick
          fine_report = tested ∙ ap₂ tests (sym e ∙ h) (lt-ltb (report_of s j) T (omega (arith, l, u, v)))

          stored : l₁ ≡ keeps_in
          stored = w ∙ ap₂ (report_sets st) p u

          pub report_taken : (l₂ a₂ o₂ t₂ : List ℕ) (p₂ : Place) → settled l₂ a₂ (outbox o₂ t₂ p₂) ≡ freed_in g 8 l₁ a (outbox out to first_place)
              → byte_outcome (gives p₂.count) a₂ l₂ o₂ t₂ ≡ byte_step H k f a initial st out to
          report_taken l₂ a₂ o₂ t₂ p₂ r =
              byte_taken fine_report y reports l₂ a₂ o₂ t₂ p₂
              (settles s₂ l₁ l₂ a a₂ out to o₂ t₂ first_place p₂ (outbox out to first_place) (ap server_in stored ∙ report_in_lem high F) refl r
              ∙ ap (λ q. settled (opened_in s₂.stamp y.accepted q) y.area (sent (outbox out to first_place) y.sends)) stored
              ∙ (λ i. settled (report_final high i) y.area (sent (outbox out to first_place) y.sends)))

    -- ---- any other frame: nothing is accepted

    module _ (N : does.accepted ≡ []) (K : k.header.kind ≡ 13 → ⊥) where
      -- what it writes
      pub quiet_sets : effect_sets does k.header k.from st ≡ scope_sets st c does.server.stamp (slot_of does.server c) (reader_of does.server c)
      unfolding effect_sets frame_sets accepted_sets pick
      quiet_sets =
          ap (λ ws. accepted_sets does.server ws (frame_sets does.server k.header k.from st)) N
          ∙ ap (λ b. pick b (report_sets st j (report_of does.server j))
          (scope_sets st c does.server.stamp (slot_of does.server c) (reader_of does.server c)))
          (ne_eqb k.header.kind 13 K)

      pub scope_refused : (r : Refusal) (a₁ o₁ t₁ : List ℕ) → outcome_in s c (Err r) a₁ o₁ t₁ ≡ step_for H k s a initial f out to
          → byte_outcome (turned_down (number_of r)) a₁ st o₁ t₁ ≡ byte_step H k f a initial st out to
      unfolding byte_step step_for outcome_at answered stepped left_by is_turned_down pick
      scope_refused r a₁ o₁ t₁ e = go test e
        where
          go : (v : Verdict) → outcome_in s c (Err r) a₁ o₁ t₁ ≡ answered v s a does out to → byte_outcome (turned_down (number_of r)) a₁ st o₁ t₁ ≡ by v does
          go (Err x) e = λ i. byte_outcome (e i).reply (e i).area st (e i).out (e i).to
          go (Ok _) e =
              let z : st ≡ effect_sets does k.header k.from st = ap (λ (o : Outcome). left_by o.reply st (effect_sets does k.header k.from st)) e in
              λ i. byte_outcome (e i).reply (e i).area (z i) (e i).out (e i).to

      pub scope_taken : (r : Taken) (x : Response ℕ) (a₁ o₁ t₁ l₁ : List ℕ) → x ≡ gives r.place.count
          → outcome_in s c (Ok r) a₁ o₁ t₁ ≡ step_for H k s a initial f out to
          → l₁ ≡ scope_sets st c r.scope.stamp r.scope.slot r.scope.reader
          → byte_outcome x a₁ l₁ o₁ t₁ ≡ byte_step H k f a initial st out to
      unfolding byte_step step_for outcome_at answered stepped left_by is_turned_down pick
      scope_taken r x a₁ o₁ t₁ l₁ q e w = ap (λ (y : Response ℕ). byte_outcome y a₁ l₁ o₁ t₁) q ∙ go test e
        where
          go : (v : Verdict) → outcome_in s c (Ok r) a₁ o₁ t₁ ≡ answered v s a does out to → byte_outcome (gives r.place.count) a₁ l₁ o₁ t₁ ≡ by v does
          go (Err x) e =
              let z : l₁ ≡ st = w ∙ ap (λ (o : Outcome). left_by o.reply st (scope_sets st c r.scope.stamp r.scope.slot r.scope.reader)) e in
              λ i. byte_outcome (e i).reply (e i).area (z i) (e i).out (e i).to
          go (Ok _) e =
              let d = ap (λ (o : Outcome). scope_of o.server c) e in
              let z : l₁ ≡ effect_sets does k.header k.from st =
              w
              ∙ ap (λ (x : Scope). scope_sets st c x.stamp x.slot x.reader) (sym (scope_in st c r.scope few) ∙ d)
              ∙ sym quiet_sets in
              λ i. byte_outcome (e i).reply (e i).area (z i) (e i).out (e i).to
