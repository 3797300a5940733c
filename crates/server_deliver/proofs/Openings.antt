-- From the tests for refusals 1 to 10 to the outcome of a delivery. Assumes nothing.
use Rattle.std.specs.Prelude.{Ok, Err}
use Prim.Native.Nat.{ℕ, ◌+◌, ◌*◌, ◌≤◌, ◌<◌}
use native.Mathlib.Omega.{arith}
use mathlib.Core.Path.{◌≡◌, refl, ap, sym, ◌∙◌}
use mathlib.Core.List.{List}
use lib.ListN.{length}
use lib.Dec.{ltb}
use borrow.Author.Tests.{ltb-false, lt-ltb, le-ltb}
use Rattle.area.specs.Area.{pick}
use Rattle.blocks.specs.declared.Params.{Params}
use Rattle.frame.specs.declared.Header.{Header}
use Rattle.frame.specs.Frames.{Opened}
use Rattle.frame.specs.declared.Party.{Party}
use Rattle.frame.specs.declared.Refusal.{Refusal}
use Rattle.frame.specs.declared.Refusal.TheVariants as R
use Rattle.frame.specs.Refusals.{and_then, Verdict, fine}
use Rattle.frame.specs.Params.{width, largest_frame, server_frames, out_room, to_room, params_test}
use Rattle.frame.specs.Messages.{Message, Judged, bad, judged_by, after}
use Rattle.frame.specs.Frames.{header_in, frame_test, opened_by, opened, message_in}
use Rattle.frame.specs.Chunks.{area_bytes}
use Rattle.frame.specs.Outbox.{frames, receivers, first_place, Room}
use Rattle.frame.proofs.Verdicts.{fine_not, fine_both, fine_opened}
use Rattle.frame.proofs.Within.{Admitted, admitted_of}
use Rattle.frame.proofs.Opening.{opens_facts}
use Rattle.quorum.proofs.Logic.{impossible}
use Rattle.server_rules.specs.declared.Server.{Server}
use Rattle.server_rules.specs.Tests.{room_test, message_test, judge_opened, judge}
use Rattle.server_rules.specs.Delivery.{Outcome, outcome, effect_by, delivered, reply_of, outcome_of, delivery}
use Rattle.server.specs.declared.Call.{Call}
use Rattle.layout.specs.Servers.{server_size}
use Rattle.server_deliver.specs.Handed.{Handed, admitted}
use Rattle.server_deliver.specs.Records.{rooms_test}

-- ---- the tests one after the other: p is the verdict of refusals 1 to 3, t of 4 to 9, v of 10

bad_opened : (v : Verdict) (h : Header) (r : Refusal) → opened_by v h ≡ Err r → v ≡ Err r
bad_opened (Ok _) h r e = impossible (cc e)
bad_opened (Err s) h r e = let q : s ≡ r = cc in ap Err q

module _ (g : Params) (me : ℕ) (f : List ℕ) (state area initial out to : ℕ) where
  -- the record's area is short, or long enough
  room_short : state < server_size → Err R.Room ≡ rooms_test g state area initial out to
  unfolding rooms_test pick
  room_short h = rw (lt-ltb _ _ h)

  room_long : server_size ≤ state → room_test g area initial out to ≡ rooms_test g state area initial out to
  unfolding rooms_test pick
  room_long h = rw (le-ltb _ _ h)

  all_said : (p t v : Verdict) → p ≡ params_test g me g.n → t ≡ frame_test g f → v ≡ rooms_test g state area initial out to
      → opened_by (and_then p (and_then t v)) (header_in f) ≡ admitted g me f state area initial out to
  unfolding admitted
  all_said p t v e h i = λ l. opened_by (and_then (e l) (and_then (h l) (i l))) (header_in f)

  module _ (p : Verdict) (e : p ≡ params_test g me g.n) where
    pub out_of_bounds : (r : Refusal) → p ≡ Err r → Err r ≡ admitted g me f state area initial out to
    out_of_bounds r h = all_said (Err r) (frame_test g f) (rooms_test g state area initial out to) (sym h ∙ e) refl refl

    module _ (h : p ≡ fine) (q : Opened) (i : q ≡ opened g f) where
      pub not_opened : (r : Refusal) → q ≡ Err r → q ≡ admitted g me f state area initial out to
      unfolding opened
      not_opened r j =
          j ∙ all_said fine (Err r) (rooms_test g state area initial out to) (sym h ∙ e) (sym (bad_opened (frame_test g f) (header_in f) r (sym i ∙ j))) refl

      module _ (k : Header) (j : q ≡ Ok k) where
        frame_fine : (frame_test g f ≡ fine) × (header_in f ≡ k)
        unfolding opened
        frame_fine = fine_opened (frame_test g f) (header_in f) k (sym i ∙ j)

        pub no_record : state < server_size → Err R.Room ≡ admitted g me f state area initial out to
        no_record l = all_said fine fine (Err R.Room) (sym h ∙ e) (sym frame_fine.0) (room_short l)

        module _ (v : Verdict) (l : v ≡ room_test g area initial out to) (n : server_size ≤ state) where
          pub no_room : (r : Refusal) → v ≡ Err r → Err r ≡ admitted g me f state area initial out to
          no_room r m = all_said fine fine (Err r) (sym h ∙ e) (sym frame_fine.0) (sym m ∙ l ∙ room_long n)

          pub has_room : v ≡ fine → Ok k ≡ admitted g me f state area initial out to
          has_room m = ap Ok (sym frame_fine.1) ∙ all_said fine fine fine (sym h ∙ e) (sym frame_fine.0) (sym m ∙ l ∙ room_long n)

-- ---- what holds of a frame that passes them

record Rooms (g : Params) (area initial out to : ℕ) : Type 0 where
  whole : area_bytes ≤ area
  initial_whole : width g ≤ initial
  room : Room first_place (server_frames g) (largest_frame g) out to

rooms_of : (g : Params) (area initial out to : ℕ) → room_test g area initial out to ≡ fine → Rooms g area initial out to
unfolding room_test out_room to_room
rooms_of g area initial out to e =
    let a = fine_not (ltb area area_bytes) R.Room _ e in
    let b = fine_not (ltb initial (width g)) R.Room _ a.1 in
    let c = fine_not (ltb out ((server_frames g) * largest_frame g)) R.Room _ b.1 in
    let d = fine_not (ltb to (2 * (server_frames g))) R.Room _ c.1 in
    record {
      whole = ltb-false _ _ a.0;
      initial_whole = ltb-false _ _ b.0;
      room = record {
        out_room_lem = omega (arith, ltb-false out ((server_frames g) * largest_frame g) c.0);
        to_room_lem = omega (arith, ltb-false to (2 * (server_frames g)) d.0);
      };
    }

-- the record's area is long enough, and so are the others
rooms_fine : (g : Params) (state area initial out to : ℕ) → rooms_test g state area initial out to ≡ fine
    → (server_size ≤ state) × (room_test g area initial out to ≡ fine)
unfolding rooms_test
rooms_fine g state area initial out to e = let a = fine_not (ltb state server_size) R.Room _ e in (ltb-false _ _ a.0, a.1)

record LetIn (g : Params) (me : ℕ) (f : List ℕ) (state area initial out to : ℕ) (h : Header) : Type 0 where
  params : Admitted g me g.n
  frame : frame_test g f ≡ fine
  whole : server_size ≤ state
  rooms : Rooms g area initial out to
  header : header_in f ≡ h

module _ (g : Params) (me : ℕ) (f : List ℕ) (state area initial out to : ℕ) (q : Opened) (e : q ≡ admitted g me f state area initial out to)
    (h : Header) (p : q ≡ Ok h) where
  let_in : LetIn g me f state area initial out to h
  unfolding admitted
  let_in =
      let A = fine_opened (and_then (params_test g me g.n) (and_then (frame_test g f) (rooms_test g state area initial out to))) (header_in f) h (sym e ∙ p) in
      let B = fine_both (params_test g me g.n) (and_then (frame_test g f) (rooms_test g state area initial out to)) A.0 in
      let C = fine_both (frame_test g f) (rooms_test g state area initial out to) B.1 in
      let D = rooms_fine g state area initial out to C.1 in
      record {
        params = admitted_of g me g.n B.0;
        frame = C.0;
        whole = D.0;
        rooms = rooms_of g area initial out to D.1;
        header = A.1;
      }

-- what its step may ask for
pub handed : (k : Call) (f : List ℕ) (state area initial out to : ℕ) (q : Opened) → q ≡ admitted k.params k.me f state area initial out to
    → q ≡ Ok k.header → Handed k (length f) area out to × (width k.params ≤ initial) × (server_size ≤ state)
unfolding opened
handed k f state area initial out to q e p =
    let L = let_in k.params k.me f state area initial out to q e k.header p in
    let F = opens_facts k.params f k.header (ap (λ (z : Verdict). opened_by z (header_in f)) L.frame ∙ ap Ok L.header) in
    let A = L.params in
    let S = L.rooms in (
      record {
        lent = record { bounded = A.bounded; client_low = F.client_low; client_high = F.client_high; whole = S.whole; room = S.room };
        own_low = A.own_low;
        own_high = A.own_high;
        kind_low = F.kind_low;
        kind_high = F.kind_high;
        kind_used = F.kind_used;
        frame_is = F.length_is;
      },
      S.initial_whole,
      L.whole,
    )

-- ---- the outcome

module _ (H : List ℕ → List ℕ) (g : Params) (me : ℕ) (s : Server) (a initial : List ℕ) (from : Party) (f out to : List ℕ) where
  -- refusals 11 to 14 come after 1 to 10
  judged_after : (p t v : Verdict) (h : Header)
      → after p (judge_opened H g me (opened_by t h) v s from f)
      ≡ judged_by (and_then (and_then p (and_then t v)) (message_test H g me s from (message_in g h f))) (message_in g h f)
  unfolding judge_opened
  judged_after (Err r) t v h = refl
  judged_after (Ok _) (Err r) v h = refl
  judged_after (Ok _) (Ok _) (Err r) h = refl
  judged_after (Ok _) (Ok _) (Ok _) h = refl

  -- the verdict of the tests for refusals 1 to 10
  abbrev before : Verdict
  before = and_then (params_test g me g.n) (and_then (frame_test g f) (room_test g (length a) (length initial) (length out) (length to)))

  -- what the frame says
  abbrev said : Message
  said = message_in g (header_in f) f

  judged : judge H g me s a initial from f out to ≡ judged_by (and_then before (message_test H g me s from said)) said
  unfolding judge opened
  judged = judged_after (params_test g me g.n) (frame_test g f) (room_test g (length a) (length initial) (length out) (length to)) (header_in f)

  -- the outcome, what the tests leave of the frame being known
  abbrev by : Judged → Outcome
  by j = outcome_of H g me j (effect_by H g me j s a initial from) out to

  delivery_by : (v : Verdict) → before ≡ v → by (judged_by (and_then v (message_test H g me s from said)) said) ≡ delivery H g me s a initial from f out to
  unfolding delivery delivered
  delivery_by v e = sym (ap by judged ∙ ap (λ (z : Verdict). by (judged_by (and_then z (message_test H g me s from said)) said)) e)

  refused_by : (r : Refusal) → outcome (record { reply = Err r; server = s }) a out to ≡ by (bad r)
  unfolding outcome_of effect_by reply_of frames receivers
  refused_by r = refl

  -- 1 to 10: nothing is changed
  pub refused_delivery : (r : Refusal) → before ≡ Err r
      → outcome (record { reply = Err r; server = s }) a out to ≡ delivery H g me s a initial from f out to
  refused_delivery r e = refused_by r ∙ delivery_by (Err r) e

  -- and where they find nothing
  pub judged_fine : before ≡ fine → judge H g me s a initial from f out to ≡ judged_by (message_test H g me s from said) said
  judged_fine e = judged ∙ ap (λ (v : Verdict). judged_by (and_then v (message_test H g me s from said)) said) e

-- ---- the tests of a frame handed to a server whose record is lent as bytes, where these are long enough

module _ (g : Params) (me : ℕ) (f : List ℕ) (state area initial out to : ℕ) (q : Opened) (e : q ≡ admitted g me f state area initial out to) where
  -- the tests for refusals 1 to 10 without the record's area
  abbrev pub tests : Verdict
  tests = and_then (params_test g me g.n) (and_then (frame_test g f) (room_test g area initial out to))

  same_tests : server_size ≤ state → and_then (params_test g me g.n) (and_then (frame_test g f) (rooms_test g state area initial out to)) ≡ tests
  same_tests h = ap (λ (v : Verdict). and_then (params_test g me g.n) (and_then (frame_test g f) v)) (sym (room_long g me f state area initial out to h))

  pub refused_tests : server_size ≤ state → (r : Refusal) → q ≡ Err r → tests ≡ Err r
  unfolding admitted
  refused_tests h r p = sym (same_tests h) ∙ bad_opened _ (header_in f) r (sym e ∙ p)

  -- and where they are short
  pub short_tests : state < server_size → (r : Refusal) → q ≡ Err r → and_then (params_test g me g.n) (and_then (frame_test g f) (Err R.Room)) ≡ Err r
  unfolding admitted
  short_tests h r p =
      ap (λ (v : Verdict). and_then (params_test g me g.n) (and_then (frame_test g f) v)) (room_short g me f state area initial out to h)
      ∙ bad_opened _ (header_in f) r (sym e ∙ p)

  pub fine_tests : server_size ≤ state → (h : Header) → q ≡ Ok h → (tests ≡ fine) × (header_in f ≡ h)
  unfolding admitted
  fine_tests l h p = let A = fine_opened _ (header_in f) h (sym e ∙ p) in (sym (same_tests l) ∙ A.0, A.1)
