-- The beginning of an operation: what its tests tell, what it sends, and its whole outcome. Assumes nothing.
use Rattle.std.specs.Prelude.{Err}
use Prim.Native.Nat.{ℕ, ◌+◌, ◌≤◌, ◌<◌}
use native.Mathlib.Omega.{arith}
use mathlib.Core.Bool.{Bool, false, not}
use mathlib.Core.Path.{◌≡◌, refl, ap, sym, ◌∙◌}
use mathlib.Core.List.{List}
use lib.ListN.{length, replicate}
use lib.Seq.{sets}
use lib.Dec.{leb}
use borrow.Author.Tests.{leb-false}
use Rattle.area.specs.Responses.{turned_down, gives}
use Rattle.blocks.specs.declared.Params.{Params}
use Rattle.frame.specs.declared.Place.{Place}
use Rattle.frame.specs.declared.Refusal.{Refusal}
use Rattle.frame.specs.declared.Refusal.TheVariants as R
use Rattle.frame.specs.Refusals.{number_of, and_then, Verdict, fine}
use Rattle.frame.specs.Params.{Bounded, largest_frame, params_test}
use Rattle.frame.specs.Stamps.{last_sequence, last_client}
use Rattle.frame.specs.Messages.{get_stamp, ask_read, message, to_all}
use Rattle.frame.specs.Outbox.{frames, receivers, Outbox, outbox, first_place, sent, Room}
use Rattle.frame.proofs.Verdicts.{fine_not, fine_both}
use Rattle.frame.proofs.Within.{admitted_of}
use Rattle.client_rules.specs.declared.Row.{Row}
use Rattle.client_rules.specs.declared.Client.{Client}
use Rattle.client_rules.specs.declared.Phase.{Phase}
use Rattle.client_rules.specs.declared.Phase.TheVariants as F
use Rattle.client_rules.specs.State.{fresh_row, idle}
use Rattle.client_rules.specs.Tests.{send_room}
use Rattle.client_rules.specs.Steps.{Effect}
use Rattle.client_rules.specs.Answers.{goes_on}
use Rattle.client_rules.specs.Beginning.{Begun, idle_test, closed_test, length_test, open_read, open_write, begin_by, begun_of}
use Rattle.client.specs.Stages.{Opening}
use Rattle.frame.proofs.Rooms.{room_within}
use Rattle.client.proofs.SendRooms.{room_of_send}

-- ---- what the tests tell where none of them refused

room_first : (g : Params) (out to : ℕ) → send_room g out to ≡ fine → Room first_place g.n 9 out to
unfolding largest_frame
room_first g out to e =
    let l : 9 ≤ largest_frame g = omega arith in
    room_within first_place g.n g.n (largest_frame g) 9 out to (omega arith) l (room_of_send g out to e)

left_of : (p : Phase) (last : ℕ) → idle_test p last ≡ fine → last < last_sequence
left_of p last e =
    let x = fine_not (not (idle p)) R.Busy _ e in
    let y = fine_not (leb last_sequence last) R.Exhausted _ x.1 in
    leb-false _ _ y.0

module _ (g : Params) (me last out to : ℕ) (p : Phase) (v : Verdict) (f : v ≡ fine) where
  pub read_facts : v ≡ and_then (params_test g me last_client) (and_then (send_room g out to) (idle_test p last)) → Opening g last out to
  read_facts e =
      let x = fine_both (params_test g me last_client) _ (sym e ∙ f) in
      let y = fine_both (send_room g out to) _ x.1 in
      record { bounded = (admitted_of g me last_client x.0).bounded; left = left_of p last y.1; room = room_first g out to y.0 }

  pub write_facts : (c : Bool) (size : ℕ)
      → v ≡ and_then (params_test g me last_client) (and_then (length_test g size) (and_then (send_room g out to) (and_then (idle_test p last) (closed_test c))))
      → Opening g last out to
  write_facts c size e =
      let x = fine_both (params_test g me last_client) _ (sym e ∙ f) in
      let l = fine_both (length_test g size) _ x.1 in
      let y = fine_both (send_room g out to) _ l.1 in
      let d = fine_both (idle_test p last) _ y.1 in
      record { bounded = (admitted_of g me last_client x.0).bounded; left = left_of p last d.0; room = room_first g out to y.0 }

pub bounded_of_params : (g : Params) (me : ℕ) (v : Verdict) → v ≡ params_test g me last_client → v ≡ fine → Bounded g
bounded_of_params g me v e f = (admitted_of g me last_client (sym e ∙ f)).bounded

-- ---- the outcome

module _ (g : Params) (me : ℕ) where
  -- frames sent, and the client
  pub begun_law : (x : Effect) (y : Client) (out to o t : List ℕ) (q : Place)
      → y ≡ x.client → outbox o t q ≡ sent (outbox out to first_place) x.sends
      → ◌≡◌ {A = Begun} (record { answer = gives (goes_on q.count); client = y; out = o; to = t }) (begun_of g me fine x out to)
  unfolding begun_of sent
  begun_law x y out to o t q p e =
      let z : 0 + length x.sends ≡ length x.sends = omega arith in
      let n : q.count ≡ length x.sends = ap (λ (b : Outbox). b.place.count) e ∙ z in
      let u : o ≡ sets out 0 (frames x.sends) = ap (λ (b : Outbox). b.out) e in
      let w : t ≡ sets to 0 (receivers x.sends) = ap (λ (b : Outbox). b.to) e in
      λ i. record { answer = gives (goes_on (n i)); client = p i; out = u i; to = w i }

  module _ (s : Client) (out to o t : List ℕ) (q : Place) where
    pub read_law : (rows : List Row) → rows ≡ replicate 11 fresh_row
        → outbox o t q ≡ sent (outbox out to first_place) (to_all g (λ j. message me (s.reads + 1) ask_read))
        → ◌≡◌ {A = Begun}
        (record {
          answer = gives (goes_on q.count);
          client = record {
            writes = s.writes;
            reads = s.reads + 1;
            closed = s.closed;
            phase = F.Reading;
            heard = s.heard;
            times = s.times;
            rows = rows;
            reports = s.reports;
          };
          out = o;
          to = t;
        })
        (begun_of g me fine (open_read g me s) out to)
    unfolding open_read
    read_law rows r e =
        begun_law (open_read g me s) _ out to o t q
        (λ i. record {
          writes = s.writes;
          reads = s.reads + 1;
          closed = s.closed;
          phase = F.Reading;
          heard = s.heard;
          times = s.times;
          rows = r i;
          reports = s.reports;
        })
        e

    pub write_law : outbox o t q ≡ sent (outbox out to first_place) (to_all g (λ j. message me (s.writes + 1) get_stamp))
        → ◌≡◌ {A = Begun}
        (record {
          answer = gives (goes_on q.count);
          client = record {
            writes = s.writes + 1;
            reads = s.reads;
            closed = s.closed;
            phase = F.Asking;
            heard = replicate 11 false;
            times = replicate 11 0;
            rows = s.rows;
            reports = s.reports;
          };
          out = o;
          to = t;
        })
        (begun_of g me fine (open_write g me s) out to)
    unfolding open_write
    write_law e = begun_law (open_write g me s) _ out to o t q refl e

  module _ (s : Client) (t : Verdict) (x : Effect) (out to : List ℕ) (v : Verdict) (p : v ≡ t) where
    pub begin_refused : (r : Refusal) → v ≡ Err r
        → ◌≡◌ {A = Begun} (record { answer = turned_down (number_of r); client = s; out = out; to = to }) (begun_of g me t (begin_by g me t s x) out to)
    unfolding begun_of begin_by frames receivers
    begin_refused r q =
        let d : t ≡ Err r = sym p ∙ q in
        sym (ap (λ w. begun_of g me w (begin_by g me w s x) out to) d)

    pub begin_opened : (b : Begun) → v ≡ fine → b ≡ begun_of g me fine x out to → b ≡ begun_of g me t (begin_by g me t s x) out to
    unfolding begin_by
    begin_opened b q e =
        let d : t ≡ fine = sym p ∙ q in
        e ∙ sym (ap (λ w. begun_of g me w (begin_by g me w s x) out to) d)
