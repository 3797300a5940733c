-- After a delivery the record's bytes say the server that it leaves; their number stays the same, and they stay bytes. The same of a fresh server.
-- Assumes nothing.
use Rattle.std.specs.Prelude.{Ok, Err}
use Rattle.frame.specs.Refusals.{Verdict, fine}
use Prim.Native.Nat.{ℕ, zero, suc, ◌+◌, ◌*◌, ◌≤◌, ◌<◌}
use native.Mathlib.Omega.{arith}
use mathlib.Core.Path.{◌≡◌, refl, sym, ap, subst, ◌∙◌}
use mathlib.Core.Bool.{Bool, true, false}
use mathlib.Core.List.{List, [], ◌∷◌}
use lib.ListN.{length, set}
use lib.Seq.{sets, length-sets}
use lib.Dec.{ltb, eqb}
use Rattle.quorum.proofs.Logic.{impossible}
use Rattle.area.specs.Area.{pick, Bytes}
use Rattle.area.specs.Numbers.{bytes8}
use Rattle.area.specs.Responses.{is_turned_down}
use Rattle.area.proofs.Numbers.{Bytes-bytes8}
use Rattle.sha256.specs.Hash.{digest_of}
use Rattle.blocks.specs.declared.Params.{Params}
use Rattle.frame.specs.declared.Header.{Header}
use Rattle.frame.specs.declared.Party.{Party}
use Rattle.frame.specs.declared.Refusal.{Refusal}
use Rattle.frame.specs.declared.Refusal.TheVariants as R
use Rattle.frame.specs.Params.{params_test}
use Rattle.frame.specs.Stamps.{zero_stamp}
use Rattle.frame.specs.Messages.{Message, number_in, Judged, bad, good, judged_by, after}
use Rattle.frame.specs.Frames.{header_in, frame_test, opened_by, opened, stamp_bytes, body_in, message_in}
use Rattle.frame.specs.Outbox.{frames, receivers}
use Rattle.frame.proofs.Opening.{Opens, opens_facts}
use Rattle.frame.proofs.PartyLaws.{server_number}
use Rattle.frame.proofs.Verdicts.{fine_is}
use Rattle.frame.proofs.Within.{admitted_of}
use Rattle.server_rules.specs.declared.Server.{Server}
use Rattle.server_rules.specs.State.{slot_of, reader_of, report_of, fresh_reader, fresh_server}
use Rattle.server_rules.specs.Tests.{room_test, sender_right, message_test, judge_opened, judge}
use Rattle.server_rules.specs.Steps.{Write, Effect, effect}
use Rattle.server_rules.specs.Delivery.{Outcome, effect_by, delivered, reply_of, outcome_of, delivery, Constructed, construct_test, construct_by, construction}
use Rattle.server_rules.proofs.Within.{either, server_within, reader_within}
use Rattle.server.specs.declared.Call.{Call}
use Rattle.layout.specs.Left.{left_by}
use Rattle.layout.specs.Servers.{server_size, slot_size, reader_size, slots_place, readers_place, reports_place, slot_bytes, reader_bytes, server_bytes, server_in}
use Rattle.layout.specs.Servers.{slot_sets, scope_sets, report_sets}
use Rattle.layout.specs.Typed.{TypedStamp, widths, TypedServer}
use Rattle.layout.proofs.ServerBack.{server_stored}
use Rattle.layout.proofs.TypedSteps.{typed_in, typed_delivery}
use Rattle.layout.proofs.AreBytes.{stamp_bytes_lem, slot_bytes_lem, reader_bytes_lem, server_bytes_lem}
use Rattle.server_deliver.specs.Records.{ByteOutcome, byte_outcome, frame_sets, accepted_sets, effect_sets, outcome_at, short_reply, byte_delivery}
use Rattle.server_deliver.specs.Records.{ByteConstructed, fresh_after, constructed_at, byte_construction}
use Rattle.server_deliver.proofs.Records.{whole_record}
use Rattle.server_deliver.proofs.FreshRecords.{whole_made}
use Rattle.server_deliver.proofs.Written.{written_length, written_back, written_stored}

-- ---- stores

bytes_set : (l : List ℕ) (i x : ℕ) → Bytes l → x < 256 → Bytes (set l i x)
bytes_set [] i x p h = p
bytes_set (y ∷ l) zero x p h = (h, p.1)
bytes_set (y ∷ l) (suc i) x p h = (p.0, bytes_set l i x p.1 h)

pub bytes_sets : (l : List ℕ) (i : ℕ) (vs : List ℕ) → Bytes l → Bytes vs → Bytes (sets l i vs)
bytes_sets l i [] p q = p
bytes_sets l i (v ∷ vs) p q = bytes_sets (set l i v) (suc i) vs (bytes_set l i v p q.0) q.1

-- what a step writes
accepted_bytes : (s : Server) (ws : List Write) (l : List ℕ) → Bytes l → TypedServer s → Bytes (accepted_sets s ws l)
unfolding accepted_sets slot_sets
accepted_bytes s [] l p t = p
accepted_bytes s (w ∷ ws) l p t =
    accepted_bytes s ws _ (bytes_sets _ (slots_place + w.client * slot_size) (slot_bytes (slot_of s w.client))
    (bytes_sets l 0 (stamp_bytes s.stamp) p (stamp_bytes_lem s.stamp t.stamp)) (slot_bytes_lem (slot_of s w.client))) t

written_bytes : (x : Effect) (h : Header) (from : Party) (l : List ℕ) → Bytes l → TypedServer x.server → h.client ≤ 8 → Bytes (effect_sets x h from l)
unfolding effect_sets frame_sets scope_sets slot_sets report_sets
written_bytes x h from l p t few =
    let s = x.server in
    let c = h.client in
    accepted_bytes s x.accepted _
    (either Bytes (eqb h.kind 13) _ _ (bytes_sets l (reports_place + number_in from * 8) (bytes8 (report_of s (number_in from))) p (Bytes-bytes8 _))
    (bytes_sets _ (readers_place + c * reader_size) (reader_bytes (reader_of s c))
    (bytes_sets _ (slots_place + c * slot_size) (slot_bytes (slot_of s c))
    (bytes_sets l 0 (stamp_bytes s.stamp) p (stamp_bytes_lem s.stamp t.stamp))
    (slot_bytes_lem (slot_of s c)))
    (reader_bytes_lem (reader_of s c) (reader_within _ t c few)))) t

-- ---- what the reply says of a delivery

module _ (H : List ℕ → List ℕ) (g : Params) (me : ℕ) (s : Server) (a initial : List ℕ) (from : Party) (f out to : List ℕ) where
  stays_by : (j : Judged) (m : ℕ) → is_turned_down (reply_of H g me j m) ≡ true → (effect_by H g me j s a initial from).server ≡ s
  unfolding is_turned_down reply_of effect_by
  stays_by (bad r) m e = refl
  stays_by (good x) m e = impossible (cc e)

  -- a frame that is turned down leaves the server as it was
  stays : is_turned_down (delivery H g me s a initial from f out to).reply ≡ true → (delivery H g me s a initial from f out to).server ≡ s
  unfolding delivery outcome_of delivered
  stays e = stays_by (judge H g me s a initial from f out to) _ e

  -- it leaves every lent byte as it was
  pub record Untouched (o : Outcome) : Type 0 where
    pub area_is : o.area ≡ a
    pub out_is : o.out ≡ out
    pub to_is : o.to ≡ to

  untouched_by : (j : Judged) → is_turned_down (outcome_of H g me j (effect_by H g me j s a initial from) out to).reply ≡ true
      → Untouched (outcome_of H g me j (effect_by H g me j s a initial from) out to)
  unfolding is_turned_down outcome_of reply_of effect_by frames receivers
  untouched_by (bad r) e = record { area_is = refl; out_is = refl; to_is = refl }
  untouched_by (good m) e = impossible (cc e)

  untouched : is_turned_down (delivery H g me s a initial from f out to).reply ≡ true → Untouched (delivery H g me s a initial from f out to)
  unfolding delivery delivered
  untouched e = untouched_by (judge H g me s a initial from f out to) e

  -- what a frame that is not turned down is
  record Fair : Type 0 where
    open_facts : frame_test g f ≡ fine
    test : message_test H g me s from (message_in g (header_in f) f) ≡ fine
    bounds : params_test g me g.n ≡ fine
    does_is : delivered H g me s a initial from f out to ≡ effect H g me s a initial from (message_in g (header_in f) f)

  fair_by : (p t v : Verdict) → params_test g me g.n ≡ p → frame_test g f ≡ t → room_test g (length a) (length initial) (length out) (length to) ≡ v
      → is_turned_down (delivery H g me s a initial from f out to).reply ≡ false → Fair
  unfolding is_turned_down reply_of delivery outcome_of delivered judge judge_opened opened effect_by
  fair_by p t v ep et ev e = go p t v (message_test H g me s from (message_in g (header_in f) f)) ep et ev refl
    where
      m : Message
      m = message_in g (header_in f) f

      by : Verdict → Verdict → Verdict → Judged
      by p t v = after p (judge_opened H g me (opened_by t (header_in f)) v s from f)

      down : (r : Refusal) → judge H g me s a initial from f out to ≡ bad r → Fair
      down r q = impossible (cc (ap (λ (j : Judged). is_turned_down (reply_of H g me j (length (effect_by H g me j s a initial from).sends))) q, e))

      go : (p t v w : Verdict) → params_test g me g.n ≡ p → frame_test g f ≡ t → room_test g (length a) (length initial) (length out) (length to) ≡ v
          → message_test H g me s from m ≡ w → Fair
      go (Err r) t v w ep et ev ew = down r (λ i. after (ep i)
          (judge_opened H g me (opened_by (frame_test g f) (header_in f)) (room_test g (length a) (length initial) (length out) (length to)) s from f))
      go (Ok _) (Err r) v w ep et ev ew =
          down r (λ i. after (ep i) (judge_opened H g me (opened_by (et i) (header_in f))
          (room_test g (length a) (length initial) (length out) (length to)) s from f))
      go (Ok _) (Ok _) (Err r) w ep et ev ew = down r (λ i. by (ep i) (et i) (ev i))
      go (Ok _) (Ok _) (Ok _) (Err r) ep et ev ew = down r ((λ i. by (ep i) (et i) (ev i)) ∙ ap (λ (w : Verdict). judged_by w m) ew)
      go (Ok _) (Ok _) (Ok _) (Ok _) ep et ev ew = record {
        open_facts = et;
        test = ew;
        bounds = ep;
        does_is = ap (λ (j : Judged). effect_by H g me j s a initial from) ((λ i. by (ep i) (et i) (ev i)) ∙ ap (λ (w : Verdict). judged_by w m) ew);
      }

  fair : is_turned_down (delivery H g me s a initial from f out to).reply ≡ false → Fair
  fair e = fair_by _ _ _ refl refl refl e

-- ---- a delivery

module _ (g : Params) (me : ℕ) (from : Party) (f area initial state out to : List ℕ) (long : server_size ≤ length state) where
  -- the outcome of the delivery to the server that the bytes say, and what it does
  abbrev handed : Outcome
  handed = delivery digest_of g me (server_in state) area initial from f out to

  abbrev does : Effect
  does = delivered digest_of g me (server_in state) area initial from f out to

  -- the record's bytes afterwards
  abbrev pub left : List ℕ
  left = (byte_delivery digest_of g me from f area initial state out to).state

  abbrev written : List ℕ
  written = effect_sets does (header_in f) from state

  left_is : left ≡ pick (is_turned_down handed.reply) state written
  unfolding outcome_at left_by
  left_is = sym (ap (λ (z : ByteOutcome). z.state) (whole_record g me from f area initial state out to long))

  -- it goes by the reply: all is as it was, or what the step changes is written
  left_cases : (P : List ℕ → Type 0) → (handed.server ≡ server_in state → P state) → (is_turned_down handed.reply ≡ false → P written) → P left
  unfolding pick
  left_cases P p q = subst P (sym left_is) (go (is_turned_down handed.reply) refl)
    where
      go : (b : Bool) → is_turned_down handed.reply ≡ b → P (pick b state written)
      go true e = p (stays digest_of g me (server_in state) area initial from f out to e)
      go false e = q e

  pub record_length : length left ≡ length state
  record_length = left_cases (λ (l : List ℕ). length l ≡ length state) (λ e. refl) (λ e. written_length does (header_in f) from state)

  module _ (p : Bytes state) (q : Bytes f) where
    typed_left : TypedServer handed.server
    typed_left = typed_delivery digest_of g me (server_in state) (typed_in state p) area initial from f out to q

    abbrev call : Call
    call = record { params = g; me = me; from = from; header = header_in f }

    module _ (e : is_turned_down handed.reply ≡ false) where
      abbrev step : Effect
      step = effect digest_of g me (server_in state) area initial from (message_in g (header_in f) f)

      A : Fair digest_of g me (server_in state) area initial from f out to
      A = fair digest_of g me (server_in state) area initial from f out to e

      O : Opens g f (header_in f)
      unfolding opened
      O = opens_facts g f (header_in f) (ap (λ (z : Verdict). opened_by z (header_in f)) A.open_facts)

      -- a report comes from a server
      sender : (header_in f).kind ≡ 13 → number_in from ≤ 10
      unfolding message_test sender_right message_in body_in pick
      sender K =
          let b = (admitted_of g me g.n A.bounds).bounded in
          let r : sender_right g from (header_in f).client (body_in g (header_in f).kind f) ≡ true = (fine_is _ R.Sender _ A.test).0 in
          let n = server_number g from (ap (λ (k : ℕ). sender_right g from (header_in f).client (body_in g k f)) (sym K) ∙ r) in
          omega (arith, n.1, b.servers_high)

      same : handed.server ≡ step.server
      unfolding delivery outcome_of
      same = ap (λ (x : Effect). x.server) A.does_is

      sets_same : written ≡ effect_sets step (header_in f) from state
      sets_same = ap (λ (x : Effect). effect_sets x (header_in f) from state) A.does_is

      typed_step : TypedServer step.server
      typed_step = subst TypedServer same typed_left

      back : server_in written ≡ handed.server
      back =
          ap server_in sets_same
          ∙ written_back digest_of call f area initial state out to long p q O.client_high O.kind_low O.kind_high O.kind_used sender typed_step
          ∙ sym same

      stored : (l : List ℕ) → state ≡ sets l 0 (server_bytes (server_in state)) → written ≡ sets l 0 (server_bytes handed.server)
      stored l h =
          sets_same
          ∙ written_stored digest_of call f area initial state out to long p q O.client_high O.kind_low O.kind_high O.kind_used sender typed_step l h
          ∙ ap (λ (x : Server). sets l 0 (server_bytes x)) (sym same)

      are_bytes : Bytes written
      unfolding delivery outcome_of
      are_bytes = written_bytes does (header_in f) from state p typed_left O.client_high

    -- the bytes say the server that the delivery leaves, whether it was turned down or not
    pub record_back : server_in left ≡ handed.server
    record_back = left_cases (λ (l : List ℕ). server_in l ≡ handed.server) sym back

    -- where the bytes are those of the server that they say, stored in l, so are those that are left
    pub record_stored : (l : List ℕ) → state ≡ sets l 0 (server_bytes (server_in state)) → left ≡ sets l 0 (server_bytes handed.server)
    record_stored l h =
        left_cases (λ (k : List ℕ). k ≡ sets l 0 (server_bytes handed.server)) (λ u. h ∙ ap (λ (s : Server). sets l 0 (server_bytes s)) (sym u))
        (λ e. stored e l h)

    pub record_bytes : Bytes left
    record_bytes = left_cases Bytes (λ e. p) are_bytes

-- ---- a frame that is turned down leaves every lent byte, whatever the record's length

module _ (g : Params) (me : ℕ) (from : Party) (f area initial state out to : List ℕ) where
  abbrev whole : ByteOutcome
  whole = byte_delivery digest_of g me from f area initial state out to

  kept_by_lem : (b : Bool) → let o = pick b (byte_outcome (short_reply g me f) area state out to)
      (outcome_at (delivery digest_of g me (server_in state) area initial from f out to)
      (delivered digest_of g me (server_in state) area initial from f out to) (header_in f) from state) in
      is_turned_down o.reply ≡ true → o ≡ byte_outcome o.reply area state out to
  unfolding pick outcome_at left_by
  kept_by_lem true e = refl
  kept_by_lem false e =
      let D = delivery digest_of g me (server_in state) area initial from f out to in
      let U = untouched digest_of g me (server_in state) area initial from f out to e in
      let w = effect_sets (delivered digest_of g me (server_in state) area initial from f out to) (header_in f) from state in
      let q : pick (is_turned_down D.reply) state w ≡ state = ap (λ (b : Bool). pick b state w) e in
      λ i. byte_outcome D.reply (U.area_is i) (q i) (U.out_is i) (U.to_is i)

  pub kept_all : is_turned_down whole.reply ≡ true → whole ≡ byte_outcome whole.reply area state out to
  unfolding byte_delivery
  kept_all e = kept_by_lem (ltb (length state) server_size) e

-- ---- a fresh server

pub typed_fresh : TypedServer fresh_server
unfolding fresh_reader
typed_fresh =
    let s : TypedStamp zero_stamp = record { time = omega arith; writer = omega arith; sequence = omega arith } in
    server_within widths (record { flags = refl; time = omega arith }) (omega arith) s (record { sequence = omega arith; noted = s })

module _ (g : Params) (me : ℕ) (value area initial : List ℕ) where
  fresh_by : (v : Verdict) → (construct_by digest_of g me v value area initial).server ≡ fresh_server
  unfolding construct_by
  fresh_by (Ok _) = refl
  fresh_by (Err r) = refl

  -- what the constructor answers and leaves
  abbrev constructs : Constructed
  constructs = construction digest_of g me value area initial

  pub fresh_server_lem : constructs.server ≡ fresh_server
  unfolding construction
  fresh_server_lem = fresh_by (construct_test digest_of g me value (length area) (length initial))

  module _ (state : List ℕ) (long : server_size ≤ length state) where
    abbrev pub kept : List ℕ
    kept = (byte_construction digest_of g me value area initial state).state

    -- which bytes are left depends on the reply
    kept_is : kept ≡ pick (is_turned_down constructs.reply) state (sets state 0 (server_bytes fresh_server))
    unfolding constructed_at fresh_after left_by
    kept_is =
        sym (ap (λ (z : ByteConstructed). z.state) (whole_made g me value area initial state long))
        ∙ ap (λ (s : Server). pick (is_turned_down constructs.reply) state (sets state 0 (server_bytes s))) fresh_server_lem

    -- where the call is not turned down a fresh server is written
    pub made_is : is_turned_down constructs.reply ≡ false → kept ≡ sets state 0 (server_bytes fresh_server)
    unfolding pick
    made_is e = kept_is ∙ ap (λ (b : Bool). pick b state (sets state 0 (server_bytes fresh_server))) e

    pub made_back : is_turned_down constructs.reply ≡ false → server_in kept ≡ fresh_server
    unfolding server_in
    made_back e = ap server_in (made_is e) ∙ server_stored state 0 fresh_server typed_fresh long

    pub made_length : length kept ≡ length state
    made_length =
        ap length kept_is
        ∙ either (λ (l : List ℕ). length l ≡ length state) (is_turned_down constructs.reply) state _ refl (length-sets state 0 (server_bytes fresh_server))

    pub made_bytes : Bytes state → Bytes kept
    made_bytes p =
        subst Bytes (sym kept_is)
        (either Bytes (is_turned_down constructs.reply) state _ p (bytes_sets state 0 (server_bytes fresh_server) p (server_bytes_lem fresh_server typed_fresh)))
