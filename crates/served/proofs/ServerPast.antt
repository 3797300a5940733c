-- A server does not go back: a frame that it has counted, answered or gone beyond stays past. In a finished run each frame that an honest party sent to an
-- honest server is past there, or its write is ahead. Assumes nothing.
use Rattle.std.specs.Prelude.{Ok, Err}
use Prim.Native.Nat.{ℕ, ◌≤◌, ◌<◌}
use native.Mathlib.Omega.{arith}
use mathlib.Core.Bool.{Bool, true, false, not, ◌&&◌}
use mathlib.Core.Path.{◌≡◌, refl, ap, sym, ◌∙◌, subst}
use mathlib.Core.Logic.{◌⊎◌, inl, inr, ⊎_elim}
use mathlib.Core.Option.{Option, none, some}
use mathlib.Core.List.{List, [], ◌∷◌}
use lib.ListN.{length, replicate, length-replicate}
use lib.Dec.{ltb, leb, eqb}
use borrow.Author.Tests.{ltb-true, ltb-false, leb-true, le-leb, le-ltb, eq-eqb}
use Rattle.quorum.specs.Quorum.{Among}
use Rattle.quorum.proofs.Logic.{impossible, and_true}
use Rattle.area.specs.Area.{pick}
use Rattle.area.specs.Responses.{refusal_number}
use Rattle.blocks.specs.declared.Params.{Params}
use Rattle.group_rules.specs.Coded.{entry_of, fits, fit_test}
use Rattle.frame.specs.declared.Party.{Party}
use Rattle.frame.specs.declared.Party.TheVariants as A
use Rattle.frame.specs.declared.Refusal.TheVariants as X
use Rattle.frame.specs.Chunks.{area_bytes}
use Rattle.frame.specs.Frames.{build}
use Rattle.frame.specs.Messages.{Offer, Stage, send, echo, ready, Body}
use Rattle.frame.specs.Messages.{get_stamp, ack, ask_read, read_complete, stamp_is, block_is, value_is, report}
use Rattle.frame.specs.Messages.{Message, message, sending, number_in, Judged, good, judged_by, Formed}
use Rattle.frame.specs.Params.{width, server_frames, out_room, to_room}
use Rattle.frame.specs.Refusals.{number_of, and_then, Verdict, fine}
use Rattle.frame.proofs.RoundTrip.{opened_build}
use Rattle.frame.proofs.Sizes.{Small}
use Rattle.server_rules.specs.declared.Slot.{Slot}
use Rattle.server_rules.specs.State.{reader_of, slot_of, report_of}
use Rattle.server_rules.specs.Delivery as SD
use Rattle.server_rules.specs.Tests as ST
use Rattle.server_rules.proofs.Taking.{took}
use Rattle.steps.proofs.CastFacts.{part_at}
use Rattle.runs.specs.Admissible.{Sent, Honest, Admissible}
use Rattle.runs.specs.Events.{At}
use Rattle.runs.specs.World.{Setup, Call, to_server, to_client, begin_read, begin_write, ServerSide, initial_of, run}
use Rattle.runs.proofs.Agreement.{small}
use Rattle.runs.proofs.Assumed.{Assumed}
use Rattle.runs.proofs.Broadcasts.{server_at, Takes, effect_of, server_next, server_left_lem, left_part, left_seq, shape}
use Rattle.runs.proofs.Formation.{formed, initial_long}
use Rattle.runs.proofs.OrderLaws.{params_fine}
use Rattle.taking.proofs.Does as D
use Rattle.taking.proofs.Does.{Got, counted_got}
use Rattle.taking.proofs.Readers.{Note, same, noted, ended, note, stamp_told, Right}
use Rattle.served.specs.Finished.{Final, server_answer, Answered, NoStep, Finished}
use Rattle.served.proofs.ClientState.{SentBy}
use Rattle.served.proofs.ClientWords.{Word, words}
use Rattle.served.proofs.ReaderState.{reader, reader_up}
use Rattle.served.proofs.ServerState.{seq, part, sent_now, seq_up, rises}
use Rattle.served.proofs.ServerWords.{entry_fits, Fitting, server_word}

-- with what number a verdict turns down
abbrev pub refusal_in : Verdict → Option ℕ
refusal_in (Ok _) = none
refusal_in (Err r) = some (number_of r)

-- four areas that may be too short: the test says nothing or 10
abbrev pub rooms : Bool → Bool → Bool → Bool → Verdict
rooms a b c d = pick a (Err X.Room) (pick b (Err X.Room) (pick c (Err X.Room) (pick d (Err X.Room) fine)))

pub rooms_cases : (a b c d : Bool) → (rooms a b c d ≡ fine) ⊎ (rooms a b c d ≡ Err X.Room)
unfolding pick
rooms_cases true b c d = inr refl
rooms_cases false true c d = inr refl
rooms_cases false false true d = inr refl
rooms_cases false false false true = inr refl
rooms_cases false false false false = inl refl

room_cases : (g : Params) (area initial out to : ℕ) → (ST.room_test g area initial out to ≡ fine) ⊎ (ST.room_test g area initial out to ≡ Err X.Room)
unfolding ST.room_test
room_cases g area initial out to =
    rooms_cases (ltb area area_bytes) (ltb initial (width g)) (ltb out (out_room g (server_frames g))) (ltb to (to_room (server_frames g)))

room_fine : (g : Params) (area initial out to : ℕ) → area_bytes ≤ area → width g ≤ initial → out_room g (server_frames g) ≤ out → to_room (server_frames g) ≤ to
    → ST.room_test g area initial out to ≡ fine
unfolding ST.room_test pick
room_fine g area initial out to a b c d =
    rw (le-ltb area area_bytes a, le-ltb initial (width g) b, le-ltb out (out_room g (server_frames g)) c, le-ltb to (to_room (server_frames g)) d)

module _ (Z : Setup) (G : Assumed Z) where
  open Z use {H, g}

  abbrev M : Small g
  M = small Z G

  -- server j has answered or counted party a's frame of client c's operation q, or is beyond it
  abbrev pub ServerPast : List Call → ℕ → Party → ℕ → ℕ → Body → Type 0
  ServerPast ks j a c q get_stamp = (T : ℕ) × SentBy Z G ks (A.Server j) (A.Client c) (message c q (stamp_is T))
  ServerPast ks j a c q ack = Unit {0}
  ServerPast ks j a c q ask_read = q ≤ (reader Z G ks j c).sequence
  ServerPast ks j a c q read_complete = Unit {0}
  ServerPast ks j a c q (stamp_is T) = Unit {0}
  ServerPast ks j a c q (block_is z o) = (q < seq Z G ks j c) ⊎ ((q ≡ seq Z G ks j c) × Got z (part Z G ks j c) (number_in a))
  ServerPast ks j a c q (value_is x e) = Unit {0}
  ServerPast ks j a c q (report T) = Unit {0}

  -- its write is not open yet
  abbrev pub Ahead : List Call → ℕ → ℕ → ℕ → Body → Type 0
  Ahead ks j c q get_stamp = ⊥
  Ahead ks j c q ack = ⊥
  Ahead ks j c q ask_read = ⊥
  Ahead ks j c q read_complete = ⊥
  Ahead ks j c q (stamp_is T) = ⊥
  Ahead ks j c q (block_is z o) = seq Z G ks j c < q
  Ahead ks j c q (value_is x e) = ⊥
  Ahead ks j c q (report T) = ⊥

  -- ---- it stays so

  its_note : (ks : List Call) (k : Call) (j : ℕ) (C : Takes Z G M ks k j) (c : ℕ) → Note (server_at Z G M ks j).server C.from C.m (effect_of Z G M C) c
  its_note ks k j C c = note H g j (server_at Z G M ks j).server (shape Z G M ks j).within (server_at Z G M ks j).area (initial_of Z j) C.from C.m
      C.took.client C.took.passes c

  left_reader : (ks : List Call) (k : Call) (j : ℕ) (C : Takes Z G M ks k j) (c : ℕ) → reader Z G (k ∷ ks) j c ≡ reader_of (effect_of Z G M C).server c
  left_reader ks k j C c = ap (λ h. reader_of h.server c) (server_left_lem Z G M ks k j C)

  module _ (ks : List Call) (k : Call) (j : ℕ) (C : Takes Z G M ks k j) where
    abbrev h : ServerSide
    h = server_at Z G M ks j

    keeps_got : (c : ℕ) → Among 8 c → (z : Stage) (i : ℕ) → seq Z G (k ∷ ks) j c ≡ seq Z G ks j c → Got z (part Z G ks j c) i → Got z (part Z G (k ∷ ks) j c) i
    keeps_got c is z i e u = subst (λ w. Got z w i) (sym (left_part Z G M ks k j C c))
        (D.keeps_got H g G.bounded j h.server h.area (initial_of Z j) (shape Z G M ks j) C.from C.m
        C.took.client C.took.sized C.took.passes c is z i (sym (left_seq Z G M ks k j C c) ∙ e) u)

    -- ---- what is taken is past

    block_taken : (c q : ℕ) → Among 8 c → (z : Stage) (o : Offer) → C.m ≡ message c q (block_is z o)
        → (q < seq Z G (k ∷ ks) j c) ⊎ ((q ≡ seq Z G (k ∷ ks) j c) × Got z (part Z G (k ∷ ks) j c) (number_in C.from))
    block_taken c q is z o e =
        let (n, w) = D.takes_got H g G.bounded j h.server h.area (initial_of Z j) (shape Z G M ks j) C.from C.m
        C.took.client C.took.sized C.took.passes c q is z o e in
        ⊎_elim
        (λ r. inl (omega (arith, n, r, left_seq Z G M ks k j C c)))
        (λ (r, u). inr (n ∙ sym (left_seq Z G M ks k j C c ∙ r), subst (λ w. Got z w (number_in C.from)) (sym (left_part Z G M ks k j C c)) u))
        w

    read_taken : (c q : ℕ) → C.m ≡ message c q ask_read → q ≤ (reader Z G (k ∷ ks) j c).sequence
    read_taken c q e = go (its_note ks k j C c)
      where
        go : Note h.server C.from C.m (effect_of Z G M C) c → q ≤ (reader Z G (k ∷ ks) j c).sequence
        go (same r n) = absurd (n q e)
        go (noted p m f l r) =
            let n = ap (λ r. r.sequence) (left_reader ks k j C c ∙ r) in
            let z = ap (λ m. m.sequence) (sym e ∙ m) in
            omega (arith, n, z)
        go (ended p m f l r) = impossible (cc (ap (λ m. m.body) (sym e ∙ m)))

    taken_past : (c q : ℕ) (b : Body) → C.m ≡ message c q b → ServerPast (k ∷ ks) j C.from c q b
    taken_past c q get_stamp e =
        (_, sent_now Z G ks k j C _ _ (stamp_told H g j h.server h.area (initial_of Z j) C.from C.m c q e))
    taken_past c q ack e = tt
    taken_past c q ask_read e = read_taken c q e
    taken_past c q read_complete e = tt
    taken_past c q (stamp_is T) e = tt
    taken_past c q (block_is z o) e = block_taken c q (subst (λ m. Among 8 m.client) e C.took.client) z o e
    taken_past c q (value_is x y) e = tt
    taken_past c q (report T) e = tt

  block_later : (ks : List Call) (k : Call) (j c : ℕ) → Among 8 c → (q : ℕ) (z : Stage) (i : ℕ)
      → (q < seq Z G ks j c) ⊎ ((q ≡ seq Z G ks j c) × Got z (part Z G ks j c) i)
      → (q < seq Z G (k ∷ ks) j c) ⊎ ((q ≡ seq Z G (k ∷ ks) j c) × Got z (part Z G (k ∷ ks) j c) i)
  block_later ks k j c is q z i (inl l) = inl (omega (arith, l, seq_up Z G ks k j c is))
  block_later ks k j c is q z i (inr (e, u)) = ⊎_elim
      (λ s. inr (
        e ∙ sym (ap (λ h. (slot_of h.server c).sequence) s),
        subst (λ w. Got z w i) (sym (ap (λ h. part_at g h.server h.area c) s)) u,
      ))
      (λ N. ⊎_elim
      (λ r. inr (e ∙ sym r, keeps_got ks k j N.0 c is z i r u))
      (λ w. inl (omega (arith, e, w.0)))
      (rises Z G ks k j N.0 c is))
      (server_next Z G M ks k j)

  pub past_later : (ks : List Call) (k : Call) (j : ℕ) (a : Party) (c q : ℕ) → Among 8 c → (b : Body) → ServerPast ks j a c q b → ServerPast (k ∷ ks) j a c q b
  past_later ks k j a c q is get_stamp (T, u) = (T, inr u)
  past_later ks k j a c q is ack p = tt
  past_later ks k j a c q is ask_read l = omega (arith, l, reader_up Z G ks k j c)
  past_later ks k j a c q is read_complete p = tt
  past_later ks k j a c q is (stamp_is T) p = tt
  past_later ks k j a c q is (block_is z o) p = block_later ks k j c is q z (number_in a) p
  past_later ks k j a c q is (value_is x e) p = tt
  past_later ks k j a c q is (report T) p = tt

  -- ---- the tests of a frame that fits

  -- the block of a frame from party i to server j fits
  abbrev pub FitsAt : ℕ → ℕ → Body → Type 0
  FitsAt j i get_stamp = Unit {0}
  FitsAt j i ack = Unit {0}
  FitsAt j i ask_read = Unit {0}
  FitsAt j i read_complete = Unit {0}
  FitsAt j i (stamp_is T) = Unit {0}
  FitsAt j i (block_is z o) = fits H o.entry (ST.place_in j z i) ≡ true
  FitsAt j i (value_is x e) = Unit {0}
  FitsAt j i (report T) = Unit {0}

  -- it passes, it is old and past, or it is ahead
  abbrev Order : List Call → ℕ → Party → ℕ → ℕ → Body → Verdict → Type 0
  Order ks j a c q b v = (v ≡ fine) ⊎ (((v ≡ Err X.Stale) × ServerPast ks j a c q b) ⊎ ((v ≡ Err X.Ahead) × Ahead ks j c q b))

  module _ (ks : List Call) (j : ℕ) (a : Party) (c q : ℕ) where
    abbrev slot : Slot
    slot = slot_of (server_at Z G M ks j).server c

    block_order : (z : Stage) (o : Offer) → fits H o.entry (ST.place_in j z (number_in a)) ≡ true
        → Order ks j a c q (block_is z o) (ST.block_test H g j slot (number_in a) q z o)
    unfolding ST.open_test fit_test pick
    block_order z o f = go (ltb q slot.sequence) (ltb slot.sequence q) (ST.counted slot (number_in a) (block_is z o)) refl refl refl
      where
        fit : Verdict
        fit = pick (fits H o.entry (ST.place_in j z (number_in a))) fine (Err X.Digest)

        go : (l b d : Bool) → ltb q slot.sequence ≡ l → ltb slot.sequence q ≡ b → ST.counted slot (number_in a) (block_is z o) ≡ d
            → Order ks j a c q (block_is z o) (and_then (pick l (Err X.Stale) (pick b (Err X.Ahead) (pick d (Err X.Stale) fine))) fit)
        go true b d el eb ed = inr (inl (refl, inl (ltb-true q slot.sequence el)))
        go false true d el eb ed = inr (inr (refl, ltb-true slot.sequence q eb))
        go false false true el eb ed = inr (inl (
          refl,
          inr (
            omega (arith, ltb-false q slot.sequence el, ltb-false slot.sequence q eb),
            counted_got g (server_at Z G M ks j).area c slot (number_in a) z o ed,
          ),
        ))
        go false false false el eb ed = inl (ap (λ b. pick b fine (Err X.Digest)) f)

    read_order : Order ks j a c q ask_read (ST.read_test (reader Z G ks j c) q)
    unfolding ST.read_test pick
    read_order = go (leb q (reader Z G ks j c).sequence) refl
      where
        go : (b : Bool) → leb q (reader Z G ks j c).sequence ≡ b → Order ks j a c q ask_read (pick b (Err X.Stale) fine)
        go true e = inr (inl (refl, leb-true q (reader Z G ks j c).sequence e))
        go false e = inl refl

    done_order : Order ks j a c q read_complete (ST.done_test (reader Z G ks j c) q)
    unfolding ST.done_test pick
    done_order = go (ltb q (reader Z G ks j c).sequence) (eqb q (reader Z G ks j c).sequence && not (reader Z G ks j c).listening)
      where
        go : (l b : Bool) → Order ks j a c q read_complete (pick l (Err X.Stale) (pick b (Err X.Stale) fine))
        go true b = inr (inl (refl, tt))
        go false true = inr (inl (refl, tt))
        go false false = inl refl

    report_order : (T : ℕ) → Order ks j a c q (report T) (ST.report_test (report_of (server_at Z G M ks j).server (number_in a)) T)
    unfolding ST.report_test pick
    report_order T = go (ltb (report_of (server_at Z G M ks j).server (number_in a)) T)
      where
        go : (b : Bool) → Order ks j a c q (report T) (pick b fine (Err X.Stale))
        go true = inl refl
        go false = inr (inl (refl, tt))

    order : (b : Body) → FitsAt j (number_in a) b → Order ks j a c q b (ST.order_test H g j (server_at Z G M ks j).server (number_in a) c q b)
    unfolding ST.order_test
    order get_stamp f = inl refl
    order ack f = inl refl
    order ask_read f = read_order
    order read_complete f = done_order
    order (stamp_is T) f = inl refl
    order (block_is z o) f = block_order z o f
    order (value_is y e) f = inl refl
    order (report T) f = report_order T

  -- ---- a frame of an honest party

  pub record Fair (a : Party) (j : ℕ) (m : Message) : Type 0 where
    pub said : Formed g m
    pub right : ST.sender_right g a m.client m.body ≡ true
    pub fit : FitsAt j (number_in a) m.body

  module _ (a : Party) (j : ℕ) (is : Among g.n j) (m : Message) (W : Fair a j m) (ks : List Call) where
    abbrev sv : ServerSide
    sv = server_at Z G M ks j

    abbrev room : List ℕ → List ℕ → Verdict
    room out to = ST.room_test g (length sv.area) (length (initial_of Z j)) (length out) (length to)

    abbrev ordered : Verdict
    ordered = ST.order_test H g j sv.server (number_in a) m.client m.sequence m.body

    abbrev judged : List ℕ → List ℕ → Judged
    judged out to = ST.judge H g j sv.server sv.area (initial_of Z j) a (build m) out to

    judge_is : (out to : List ℕ) → judged out to ≡ judged_by (and_then (room out to) ordered) m
    unfolding ST.judge ST.judge_opened ST.message_test pick
    judge_is out to =
        let b = opened_build g G.bounded m W.said in
        rw (params_fine g G.bounded j g.n is, b.opens, b.says, W.right) refl

    reply_by_lem : (v : Verdict) (n : ℕ) → refusal_number (SD.reply_of H g j (judged_by v m) n) ≡ refusal_in v
    unfolding SD.reply_of
    reply_by_lem (Ok _) n = refl
    reply_by_lem (Err r) n = refl

    answer_is : (out to : List ℕ) (v : Verdict) → and_then (room out to) ordered ≡ v → server_answer Z (run Z ks) j a (build m) out to ≡ refusal_in v
    unfolding SD.delivery SD.outcome_of
    answer_is out to v e =
        ap (λ y. refusal_number (SD.reply_of H g j y (length (SD.delivered H g j sv.server sv.area (initial_of Z j) a (build m) out to).sends)))
        (judge_is out to ∙ ap (λ v. judged_by v m) e)
        ∙ reply_by_lem v _

    -- it is taken where it passes
    takes : (out to : List ℕ) → judged out to ≡ good m → Takes Z G M ks (to_server j a (build m) out to) j
    unfolding SD.delivered SD.effect_by
    takes out to e = record {
      from = a;
      f = build m;
      out = out;
      to = to;
      is = refl;
      m = m;
      took = took H g j sv.server sv.area (initial_of Z j) a (build m) out to m e;
      moves = ap (λ y. SD.effect_by H g j y sv.server sv.area (initial_of Z j) a) e;
    }

    its_order : Order ks j a m.client m.sequence m.body ordered
    its_order = order ks j a m.client m.sequence m.body W.fit

    abbrev Past : List Call → Type 0
    Past ks = ServerPast ks j a m.client m.sequence m.body

    -- answered with a step or a number other than 10 and 13, it is past
    past_here : (out to : List ℕ) → Final (server_answer Z (run Z ks) j a (build m) out to) → Past (to_server j a (build m) out to ∷ ks)
    unfolding takes
    past_here out to F = go (room out to) (room_cases g (length sv.area) (length (initial_of Z j)) (length out) (length to)) refl its_order
      where
        final : (v : Verdict) → and_then (room out to) ordered ≡ v → Final (refusal_in v)
        final v e = subst Final (answer_is out to v e) F

        go : (r : Verdict) → (r ≡ fine) ⊎ (r ≡ Err X.Room) → room out to ≡ r → Order ks j a m.client m.sequence m.body ordered
            → Past (to_server j a (build m) out to ∷ ks)
        go r (inr z) e o = absurd ((final (Err X.Room) (ap (λ r. and_then r ordered) (e ∙ z))).0 refl)
        go r (inl z) e (inl o) =
            let d : and_then (room out to) ordered ≡ fine = ap (λ r. and_then r ordered) (e ∙ z) ∙ o in
            taken_past ks (to_server j a (build m) out to) j (takes out to (judge_is out to ∙ ap (λ v. judged_by v m) d)) m.client m.sequence m.body refl
        go r (inl z) e (inr (inl (o, p))) =
            past_later ks (to_server j a (build m) out to) j a m.client m.sequence (W.said.client_low, W.said.client_high) m.body p
        go r (inl z) e (inr (inr (o, p))) = absurd ((final (Err X.Ahead) (ap (λ r. and_then r ordered) (e ∙ z) ∙ o)).1 refl)

    -- with room it gives no step now: it is past, or ahead
    past_or_ahead : NoStep Z (run Z ks) a (A.Server j) (build m) → Past ks ⊎ Ahead ks j m.client m.sequence m.body
    past_or_ahead N = go its_order
      where
        out : List ℕ
        out = replicate (out_room g (server_frames g)) 0

        to : List ℕ
        to = replicate (to_room (server_frames g)) 0

        many : out_room g (server_frames g) ≤ length out
        many = omega (arith, length-replicate {A = ℕ} (out_room g (server_frames g)) 0)

        named : to_room (server_frames g) ≤ length to
        named = omega (arith, length-replicate {A = ℕ} (to_room (server_frames g)) 0)

        roomy : room out to ≡ fine
        roomy = room_fine g (length sv.area) (length (initial_of Z j)) (length out) (length to) (shape Z G M ks j).room (initial_long Z G M j)
            many named

        go : Order ks j a m.client m.sequence m.body ordered → Past ks ⊎ Ahead ks j m.client m.sequence m.body
        go (inl o) =
            let (r, e) = N out to many named in
            impossible (cc (e, answer_is out to fine (ap (λ r. and_then r ordered) roomy ∙ o)))
        go (inr (inl (o, p))) = inl p
        go (inr (inr (o, p))) = inr p

  past_at : (a : Party) (j : ℕ) → Among g.n j → (m : Message) → Fair a j m → (ks : List Call) (p : ℕ) → At (Answered Z a (A.Server j) (build m)) ks p
      → ServerPast ks j a m.client m.sequence m.body
  past_at a j is m W [] p u = absurd u
  past_at a j is m W (k ∷ ks) p (inr u) =
      past_later ks k j a m.client m.sequence (W.said.client_low, W.said.client_high) m.body (past_at a j is m W ks p u)
  past_at a j is m W (to_server i from f out to ∷ ks) p (inl u) =
      let (ei, ea, ef, F) = u.1 in
      let ij : j ≡ i = cc ei in
      subst (λ k. ServerPast (k ∷ ks) j a m.client m.sequence m.body) (λ z. to_server (ij z) (ea z) (ef z) out to)
      (past_here a j is m W ks out to
      (subst (λ f. Final (server_answer Z (run Z ks) j a f out to)) (sym ef)
      (subst (λ y. Final (server_answer Z (run Z ks) j y f out to)) (sym ea)
      (subst (λ y. Final (server_answer Z (run Z ks) y from f out to)) (sym ij) F))))
  past_at a j is m W (to_client c from f lent result out to ∷ ks) p (inl u) = impossible (cc u.1.0)
  past_at a j is m W (begin_read c out to ∷ ks) p (inl u) = absurd u.1
  past_at a j is m W (begin_write c v out to ∷ ks) p (inl u) = absurd u.1

  -- ---- what honest parties send to servers is fair

  pub sent_frame : (ks : List Call) (a b : Party) (m : Message) → SentBy Z G ks a b m → Sent Z ks a b (build m)
  sent_frame [] a b m u = absurd u
  sent_frame (k ∷ ks) a b m (inl (e, u)) = inl (e, sending b m, u, refl, refl)
  sent_frame (k ∷ ks) a b m (inr u) = inr (sent_frame ks a b m u)

  -- servers send them echoes, readies and reports
  from_server_lem : (i j c : ℕ) → Among g.n i → (b : Body) → Right g (A.Server j) c b → Fitting Z G i b
      → (ST.sender_right g (A.Server i) c b ≡ true) × FitsAt j i b
  unfolding ST.sender_right
  from_server_lem i j c is get_stamp r f = absurd r
  from_server_lem i j c is ack r f = impossible (cc r)
  from_server_lem i j c is ask_read r f = absurd r
  from_server_lem i j c is read_complete r f = absurd r
  from_server_lem i j c is (stamp_is T) r f = impossible (cc r)
  from_server_lem i j c is (block_is send o) r f = absurd r
  from_server_lem i j c is (block_is echo o) r f = (and_true _ _ (le-leb 1 i is.0) (le-leb i g.n is.1), f)
  from_server_lem i j c is (block_is ready o) r f = (and_true _ _ (le-leb 1 i is.0) (le-leb i g.n is.1), f)
  from_server_lem i j c is (value_is x e) r f = impossible (cc r)
  from_server_lem i j c is (report T) r f = (and_true _ _ (le-leb 1 i is.0) (le-leb i g.n is.1), tt)

  from_client : (ks : List Call) (c j d q : ℕ) (b : Body) → Word Z G ((run Z ks).clients c).client c (A.Server j) d q b
      → (ST.sender_right g (A.Client c) d b ≡ true) × FitsAt j c b
  unfolding ST.sender_right
  from_client ks c j d q get_stamp (e, t, l) = (eq-eqb c d (sym e), tt)
  from_client ks c j d q ack w = absurd w
  from_client ks c j d q ask_read (e, t, l) = (eq-eqb c d (sym e), tt)
  from_client ks c j d q read_complete (e, t, l) = (eq-eqb c d (sym e), tt)
  from_client ks c j d q (stamp_is T) w = absurd w
  from_client ks c j d q (block_is send o) (e, i, ii, r, l, T, v, w) =
      let ij : i ≡ j = cc r in
      (eq-eqb c d (sym e), subst (λ y. fits H y.entry j ≡ true) (sym w) (subst (λ j. fits H (entry_of H g v i) j ≡ true) ij (entry_fits Z G v i ii)))
  from_client ks c j d q (block_is echo o) w = absurd w
  from_client ks c j d q (block_is ready o) w = absurd w
  from_client ks c j d q (value_is x e) w = absurd w
  from_client ks c j d q (report T) w = absurd w

  fair : (ks : List Call) → Admissible Z ks → (a : Party) (j : ℕ) (m : Message) → Honest Z a → SentBy Z G ks a (A.Server j) m → Fair a j m
  fair ks adm (A.Server i) j m h u =
      let (r, f) = server_word Z G ks adm i h.0 (A.Server j) m u in
      let (s, t) = from_server_lem i j m.client h.0 m.body r f in
      record { said = formed Z G M ks adm (A.Server i) (A.Server j) m h u; right = s; fit = t }
  fair ks adm (A.Client c) j m h u =
      let (s, t) = from_client ks c j m.client m.sequence m.body (words Z G ks adm c (A.Server j) m u) in
      record { said = formed Z G M ks adm (A.Client c) (A.Server j) m h u; right = s; fit = t }

  -- ---- in a finished run

  pub reached : (ks : List Call) → Admissible Z ks → Finished Z ks → (a : Party) (j : ℕ) (m : Message) → Honest Z a → Honest Z (A.Server j)
      → SentBy Z G ks a (A.Server j) m
      → ServerPast ks j a m.client m.sequence m.body ⊎ Ahead ks j m.client m.sequence m.body
  reached ks adm F a j m ha hj u =
      let W = fair ks adm a j m ha u in
      ⊎_elim
      (λ (p, v). inl (past_at a j hj.0 m W ks p v))
      (λ N. past_or_ahead a j hj.0 m W ks N)
      (F a (A.Server j) (build m) ha hj (sent_frame ks a (A.Server j) m u))
