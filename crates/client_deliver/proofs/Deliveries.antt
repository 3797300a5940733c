-- From the tests and the step to the outcome of a delivery. Assumes nothing.
use Rattle.std.specs.Prelude.{Ok, Err}
use Prim.Native.Nat.{ℕ, suc, ◌+◌, ◌≤◌}
use native.Mathlib.Omega.{arith}
use native.Mathlib.Decide.{dec_le}
use mathlib.Core.Path.{◌≡◌, refl, ap, sym, ◌∙◌}
use mathlib.Core.Bool.{Bool, true, false, ◌&&◌}
use mathlib.Core.List.{List}
use lib.ListN.{length}
use lib.Dec.{eqb, leb, ltb}
use borrow.Author.Tests.{ltb-false, ne_eqb, eqb-false, le-leb}
use Rattle.area.specs.Area.{pick}
use Rattle.area.proofs.Tests.{impossible, pick_no}
use Rattle.sha256.specs.Hash.{digest_of}
use Rattle.blocks.specs.declared.Params.{Params}
use Rattle.frame.specs.declared.Party.{Party}
use Rattle.frame.specs.declared.Header.{Header}
use Rattle.frame.specs.Frames.{Opened}
use Rattle.frame.specs.declared.Refusal.{Refusal}
use Rattle.frame.specs.declared.Refusal.TheVariants as R
use Rattle.frame.specs.Refusals.{and_then, Verdict, fine}
use Rattle.frame.specs.Params.{Bounded, entry_length, params_test}
use Rattle.frame.specs.Stamps.{last_client}
use Rattle.frame.specs.Messages.{Body, Message, message, number_in, from_server, Judged, bad, judged_by, after}
use Rattle.frame.specs.Messages.{stamp_is, ack, value_is, report}
use Rattle.frame.specs.Frames.{stamp_in, entry_in, body_in, message_in, opened, body_at, offer_at, value_at, retired, length_of, body_length}
use Rattle.frame.specs.Chunks.{rows_bytes}
use Rattle.frame.specs.Outbox.{frames, receivers}
use Rattle.frame.proofs.Verdicts.{fine_not, fine_both}
use Rattle.frame.proofs.Within.{admitted_of}
use Rattle.frame.proofs.Opening.{opens_facts}
use Rattle.area.specs.Numbers.{be8}
use Rattle.client_rules.specs.declared.Client.{Client}
use Rattle.client_rules.specs.declared.Answer.TheVariants as Y
use Rattle.client_rules.specs.Tests.{room_test, value_test, answers, owner_right, order_test, message_test, judge_opened, judge}
use Rattle.client_rules.specs.Steps.{on_body, effect, on_stamp, on_ack, on_value, on_report}
use Rattle.client_rules.specs.Delivery.{Outcome, outcome, answer_of, result_of, outcome_of, effect_by, delivered, delivery}
use Rattle.client_rules.proofs.CallFacts.{value_whole}
use Rattle.client.specs.Stages.{Lent, stepped, answered}
use Rattle.client.proofs.SendRooms.{room_of_send}
use Rattle.client_deliver.specs.Needs.{Admitted}

-- ---- what the tests leave

pub bounded_of_call : (g : Params) (me : ℕ) (v w : Verdict) → v ≡ and_then (params_test g me last_client) w → v ≡ fine → Bounded g
bounded_of_call g me v w e f = (admitted_of g me last_client (fine_both (params_test g me last_client) w (sym e ∙ f)).0).bounded

lent_of : (g : Params) (area result out to : ℕ) → Bounded g → room_test g area result out to ≡ fine → Lent g area result out to
unfolding room_test
lent_of g area result out to B e =
    let a = fine_not (ltb area rows_bytes) R.Room _ e in
    let b = fine_not (ltb result g.size) R.Room _ a.1 in
    record { bounded = B; whole = ltb-false _ _ a.0; value_room = ltb-false _ _ b.0; room = room_of_send g out to b.1 }

pub admitted_by : (g : Params) (me : ℕ) (s : Client) (h : Header) (f : List ℕ) (value area result out to : ℕ) (v w : Verdict) (o : Opened)
    → v ≡ and_then (params_test g me last_client) (value_test g s.phase value) → v ≡ fine
    → o ≡ opened g f → o ≡ Ok h → w ≡ room_test g area result out to → w ≡ fine
    → Admitted g s h.kind value (length f) area result out to
admitted_by g me s h f value area result out to v w o e e' q q' r r' =
    let a = fine_both (params_test g me last_client) _ (sym e ∙ e') in
    let x = opens_facts g f h (sym q ∙ q') in
    record {
      lent = lent_of g area result out to (admitted_of g me last_client a.0).bounded (sym r ∙ r');
      whole = value_whole g s.phase value a.1;
      frame_is = x.length_is;
      kind_low = x.kind_low;
      kind_high = x.kind_high;
      kind_used = x.kind_used;
    }

-- ---- the outcome of a delivery

module _ (g : Params) (me : ℕ) (s : Client) (a v : List ℕ) (from : Party) (f l out to : List ℕ) where
  -- turned down, or a step
  by_verdict : (w : Verdict) (m : Message) → outcome_of (judged_by w m) (effect_by digest_of g me (judged_by w m) s a v from) l out to
      ≡ answered w s a (effect digest_of g me s a v from m) l out to
  unfolding outcome_of effect_by answer_of result_of answered stepped frames receivers
  by_verdict (Ok _) m = refl
  by_verdict (Err r) m = refl

  by_judged : (j : Judged) → judge digest_of g me s a v from f l out to ≡ j
      → outcome_of j (effect_by digest_of g me j s a v from) l out to ≡ delivery digest_of g me s a v from f l out to
  unfolding delivery delivered
  by_judged j e = ap (λ z. outcome_of z (effect_by digest_of g me z s a v from) l out to) (sym e)

  bad_judged : (r : Refusal) → judge digest_of g me s a v from f l out to ≡ bad r
      → outcome (record { answer = Y.Refused r; client = s }) a l out to ≡ delivery digest_of g me s a v from f l out to
  unfolding outcome_of effect_by answer_of result_of frames receivers
  bad_judged r e = by_judged (bad r) e

  module _ (c : Verdict) (call : c ≡ and_then (params_test g me last_client) (value_test g s.phase (length v))) where
    pub call_refused : (r : Refusal) → c ≡ Err r
        → outcome (record { answer = Y.Refused r; client = s }) a l out to ≡ delivery digest_of g me s a v from f l out to
    unfolding judge
    call_refused r e =
        bad_judged r
        (ap (λ z. after z (judge_opened digest_of g me (opened g f) (room_test g (length a) (length l) (length out) (length to)) s from f)) (sym call ∙ e))

    module _ (passed : c ≡ fine) (o : Opened) (open_is : o ≡ opened g f) where
      judged_opened : judge digest_of g me s a v from f l out to
          ≡ judge_opened digest_of g me o (room_test g (length a) (length l) (length out) (length to)) s from f
      unfolding judge
      judged_opened =
          ap (λ z. after z (judge_opened digest_of g me (opened g f) (room_test g (length a) (length l) (length out) (length to)) s from f)) (sym call ∙ passed)
          ∙ ap (λ z. judge_opened digest_of g me z (room_test g (length a) (length l) (length out) (length to)) s from f) (sym open_is)

      pub not_opened : (r : Refusal) → o ≡ Err r
          → outcome (record { answer = Y.Refused r; client = s }) a l out to ≡ delivery digest_of g me s a v from f l out to
      unfolding judge_opened
      not_opened r q =
          bad_judged r (judged_opened ∙ ap (λ z. judge_opened digest_of g me z (room_test g (length a) (length l) (length out) (length to)) s from f) q)

      module _ (h : Header) (frame_is : o ≡ Ok h) (w : Verdict) (room : w ≡ room_test g (length a) (length l) (length out) (length to)) where
        judged_frame : judge digest_of g me s a v from f l out to ≡ judged_by (and_then w (message_test digest_of g me s from (message_in g h f))) (message_in g h f)
        unfolding judge_opened
        judged_frame =
            judged_opened ∙ ap (λ z. judge_opened digest_of g me z (room_test g (length a) (length l) (length out) (length to)) s from f) frame_is
            ∙ ap (λ z. judged_by (and_then z (message_test digest_of g me s from (message_in g h f))) (message_in g h f)) (sym room)

        pub room_refused : (r : Refusal) → w ≡ Err r
            → outcome (record { answer = Y.Refused r; client = s }) a l out to ≡ delivery digest_of g me s a v from f l out to
        room_refused r e =
            bad_judged r (judged_frame ∙ ap (λ z. judged_by (and_then z (message_test digest_of g me s from (message_in g h f))) (message_in g h f)) e)

        pub frame_answered : (x : Outcome) → w ≡ fine
            → x ≡ answered (message_test digest_of g me s from (message_in g h f)) s a (effect digest_of g me s a v from (message_in g h f)) l out to
            → x ≡ delivery digest_of g me s a v from f l out to
        frame_answered x e q =
            let m = message_in g h f in
            q ∙ sym (by_verdict (message_test digest_of g me s from m) m)
            ∙ by_judged (judged_by (message_test digest_of g me s from m) m)
            (judged_frame ∙ ap (λ z. judged_by (and_then z (message_test digest_of g me s from m)) m) e)

-- ---- the kinds

above : (m k : ℕ) → m ≤ k → (k ≡ m → ⊥) → suc m ≤ k
above m k l h = omega (arith, h)

past : (m k : ℕ) → (k ≤ m → ⊥) → suc m ≤ k
past m k h = omega (arith, h)

over : (m k : ℕ) → suc m ≤ k → k ≤ m → ⊥
over m k l h = omega arith

module _ (g : Params) (me : ℕ) (s : Client) (a v : List ℕ) (from : Party) (f l out to : List ℕ) (h : Header) where
  abbrev told : Body → Outcome
  told b = answered (message_test digest_of g me s from (message h.client h.sequence b)) s a (on_body digest_of g me s a v (number_in from) b) l out to

  -- what the body says
  told_in_lem : (b : Body) (x : Outcome) → body_in g h.kind f ≡ b → x ≡ told b
      → x ≡ answered (message_test digest_of g me s from (message_in g h f)) s a (effect digest_of g me s a v from (message_in g h f)) l out to
  unfolding message_in effect
  told_in_lem b x e q = q ∙ ap told (sym e)

  pub of_stamp : (x : Outcome) → h.kind ≡ 2
      → x ≡ answered (message_test digest_of g me s from (message h.client h.sequence (stamp_is (be8 f 9)))) s a
      (on_stamp digest_of g me s a v (number_in from) (be8 f 9)) l out to
      → x ≡ answered (message_test digest_of g me s from (message_in g h f)) s a (effect digest_of g me s a v from (message_in g h f)) l out to
  unfolding body_in on_body pick
  of_stamp x k q = told_in_lem (stamp_is (be8 f 9)) x (ap (λ z. body_in g z f) k) q

  pub of_ack : (x : Outcome) → h.kind ≡ 9
      → x ≡ answered (message_test digest_of g me s from (message h.client h.sequence ack)) s a (on_ack digest_of g me s a (number_in from)) l out to
      → x ≡ answered (message_test digest_of g me s from (message_in g h f)) s a (effect digest_of g me s a v from (message_in g h f)) l out to
  unfolding body_in on_body pick
  of_ack x k q = told_in_lem ack x (ap (λ z. body_in g z f) k) q

  pub of_value : (x : Outcome) → h.kind ≡ 11
      → x ≡ answered (message_test digest_of g me s from (message h.client h.sequence (value_is (stamp_in f) (entry_in g f value_at)))) s a
      (on_value digest_of g me s a (number_in from) (stamp_in f) (entry_in g f value_at)) l out to
      → x ≡ answered (message_test digest_of g me s from (message_in g h f)) s a (effect digest_of g me s a v from (message_in g h f)) l out to
  unfolding body_in on_body pick
  of_value x k q = told_in_lem (value_is (stamp_in f) (entry_in g f value_at)) x (ap (λ z. body_in g z f) k) q

  pub of_report : (x : Outcome) → h.kind ≡ 13
      → x ≡ answered (message_test digest_of g me s from (message h.client h.sequence (report (be8 f 9)))) s a
      (on_report digest_of g me s a v (number_in from) (be8 f 9)) l out to
      → x ≡ answered (message_test digest_of g me s from (message_in g h f)) s a (effect digest_of g me s a v from (message_in g h f)) l out to
  unfolding body_in on_body pick
  of_report x k q = told_in_lem (report (be8 f 9)) x (ap (λ z. body_in g z f) k) q

  -- no other kind is for clients
  otherwise : (b : Bool) (x y : Body) → answers x ≡ false → (b ≡ false → answers y ≡ false) → answers (pick b x y) ≡ false
  unfolding pick
  otherwise true x y e d = e
  otherwise false x y e d = d refl

  module _ (i : h.kind ≡ 2 → ⊥) (j : h.kind ≡ 9 → ⊥) (k : h.kind ≡ 11 → ⊥) (n : h.kind ≡ 13 → ⊥) (low : 1 ≤ h.kind) (high : h.kind ≤ 13)
      (used : retired h.kind ≡ false) where
    -- a kind that none of them is
    no_kind : (h.kind ≡ 1 → ⊥) → (h.kind ≡ 3 → ⊥) → (h.kind ≡ 4 → ⊥) → (h.kind ≡ 5 → ⊥) → (h.kind ≡ 10 → ⊥) → (h.kind ≡ 12 → ⊥) → ⊥
    unfolding retired
    no_kind a b c d e u = go (dec_le h.kind 8)
      where
        past_five : 6 ≤ h.kind
        past_five = above 5 _ (above 4 _ (above 3 _ (above 2 _ (above 1 _ low a) i) b) c) d

        go : Dec (h.kind ≤ 8) → ⊥
        go (yes y) =
            let p : leb 6 h.kind ≡ true = le-leb 6 h.kind past_five in
            let q : leb h.kind 8 ≡ true = le-leb h.kind 8 y in
            impossible (cc (p, q, used))
        go (no y) = over 13 _ (above 13 _ (above 12 _ (above 11 _ (above 10 _ (above 9 _ (past 8 _ y) j) e) k) u) n) high

    not_answers : answers (body_in g h.kind f) ≡ false
    unfolding body_in pick answers
    not_answers =
        rw (ne_eqb h.kind 2 i, ne_eqb h.kind 9 j, ne_eqb h.kind 11 k)
        (otherwise (eqb h.kind 1) _ _ refl (λ a.
        otherwise (eqb h.kind 3) _ _ refl (λ b.
        otherwise (eqb h.kind 4) _ _ refl (λ c.
        otherwise (eqb h.kind 5) _ _ refl (λ d.
        otherwise (eqb h.kind 10) _ _ refl (λ e.
        otherwise (eqb h.kind 12) _ _ refl (λ u.
        absurd (no_kind (eqb-false _ 1 a) (eqb-false _ 3 b) (eqb-false _ 4 c) (eqb-false _ 5 d) (eqb-false _ 10 e) (eqb-false _ 12 u)))))))))

  and_false : (x y z : Bool) → y ≡ false → (x && (y && z)) ≡ false
  and_false true y z e = ap (λ w. w && z) e
  and_false false y z e = refl

  pub of_others : (h.kind ≡ 2 → ⊥) → (h.kind ≡ 9 → ⊥) → (h.kind ≡ 11 → ⊥) → (h.kind ≡ 13 → ⊥) → 1 ≤ h.kind → h.kind ≤ 13 → retired h.kind ≡ false
      → outcome (record { answer = Y.Refused R.Sender; client = s }) a l out to
      ≡ answered (message_test digest_of g me s from (message_in g h f)) s a (effect digest_of g me s a v from (message_in g h f)) l out to
  unfolding message_test message_in answered
  of_others i j k n low high used =
      let b = body_in g h.kind f in
      let d = and_false (from_server g from) (answers b) (owner_right me h.client b) (not_answers i j k n low high used) in
      let o = order_test digest_of g me s (number_in from) h.sequence b in
      let e : pick (from_server g from && (answers b && owner_right me h.client b)) o (Err R.Sender) ≡ Err R.Sender =
      sym (pick_no _ o (Err R.Sender) refl d refl) in
      ap (λ (z : Verdict). answered z s a (effect digest_of g me s a v from (message_in g h f)) l out to) (sym e)

-- ---- how long the frame is

pub stamp_long : (g : Params) (kind frame : ℕ) → frame ≡ body_at + body_length g kind → kind ≡ 2 → offer_at ≤ frame
unfolding body_length length_of pick
stamp_long g kind frame e k = let d : frame ≡ body_at + body_length g 2 = e ∙ ap (λ z. body_at + body_length g z) k in omega arith

pub report_long : (g : Params) (kind frame : ℕ) → frame ≡ body_at + body_length g kind → kind ≡ 13 → offer_at ≤ frame
unfolding body_length length_of pick
report_long g kind frame e k = let d : frame ≡ body_at + body_length g 13 = e ∙ ap (λ z. body_at + body_length g z) k in omega arith

pub value_long : (g : Params) (kind frame : ℕ) → frame ≡ body_at + body_length g kind → kind ≡ 11 → value_at + entry_length g ≤ frame
unfolding body_length length_of pick
value_long g kind frame e k = let d : frame ≡ body_at + body_length g 11 = e ∙ ap (λ z. body_at + body_length g z) k in omega arith
