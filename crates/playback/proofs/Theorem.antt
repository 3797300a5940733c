-- A playback is the steps one after the other, and its out area says what they answered and sent. Assumes nothing.
use Rattle.std.specs.Prelude.{Ok, Err}
use Prim.Native.Nat.{ℕ, ◌+◌, ◌*◌, ◌≤◌}
use native.Mathlib.Omega.{arith}
use native.Mathlib.Nat.{mul-le-mul_right}
use mathlib.Core.Path.{◌≡◌, refl, sym, ap, ap₂, subst, ◌∙◌}
use mathlib.Core.Bool.{Bool, false}
use mathlib.Core.List.{List, [], ◌++◌, append-nil}
use lib.ListN.{length, take, drop, length-append, length-map}
use lib.Seq.{sets, sets-eq}
use lib.Dec.{ltb}
use borrow.Author.Tests.{ltb-false, le-ltb}
use Rattle.area.specs.Area.{pick, Bytes}
use Rattle.area.specs.Responses.{Response, turned_down, gives}
use Rattle.area.specs.Numbers.{bytes2}
use Rattle.area.proofs.Sets.{sets_append, part_sets_same, part_sets_before}
use Rattle.quorum.proofs.Logic.{impossible}
use Rattle.blocks.specs.declared.Params.{Params}
use Rattle.frame.specs.declared.Refusal.TheVariants as Refusals
use Rattle.frame.specs.Refusals.{and_then, Verdict, fine}
use Rattle.frame.specs.Params.{Bounded}
use Rattle.frame.proofs.Verdicts.{fine_both, fine_not}
use Rattle.server_rules.specs.Delivery as SD
use Rattle.server.proofs.Constructing.{sound_of}
use Rattle.entries.specs.Entries.{TraceEntry, Trace, trace_bytes, before, trace_of, trace_from}
use Rattle.entries.specs.Forms.{AllWritable}
use Rattle.entries.proofs.Theorem.{back, only, whole_closes, frames_of}
use Rattle.playback.specs.Reports.{addressed, report_bytes, reports_bytes}
use Rattle.playback.specs.Playback.{entry_need, out_test, Played, played, play_test, played_from}
use Rattle.playback.specs.Playback.{ending_of, Summed, summary_of, Outcome, outcome_of, playback_by, playback}
use Rattle.playback.specs.Theorem.{Handed, AllEnough, entries_of, taken, taken_from, AllAgree, told_in, IsSteps, GoesOn, Restarts, Unchanged, Theorem}
use Rattle.playback.proofs.Rooms.{same_initial}
use Rattle.playback.proofs.Sound.{sound_fresh}
use Rattle.playback.proofs.Steps as S
use Rattle.playback.proofs.Telling.{AllReported, told_back, reports_few, all_reported, count_reports}

-- ---- the answers

room_by : (b : Bool) → pick b (Err Refusals.Room) fine ≡ fine → b ≡ false
unfolding pick
room_by b e = (fine_not b Refusals.Room fine e).0

module _ (H : List ℕ → List ℕ) (g : Params) (me : ℕ) where
  room : (count out : ℕ) → (out_test g count out ≡ fine → count * entry_need g ≤ out) × (count * entry_need g ≤ out → out_test g count out ≡ fine)
  unfolding out_test pick
  room count out = (λ e. ltb-false out (count * entry_need g) (room_by (ltb out (count * entry_need g)) e), λ h. rw (le-ltb out (count * entry_need g) h))

  module _ (v trace a initial out : List ℕ) where
    abbrev x : SD.Constructed
    x = SD.construction H g me v a initial

    abbrev es : List TraceEntry
    es = (trace_of trace).entries

    abbrev all : Played
    all = played_from H g me x es

    abbrev test : Verdict
    test = play_test H g me v (trace_of trace) (length a) (length initial) (length out)

    refused_by : (w : Verdict) (n : ℕ) → (playback_by H g me w v (trace_of trace) a initial out).answer ≡ turned_down n
        → Unchanged (playback_by H g me w v (trace_of trace) a initial out) a initial out
    unfolding playback_by
    refused_by (Err q) n e = record { area_as_lent = refl; initial_as_lent = refl; out_as_lent = refl }
    refused_by (Ok _) n e = impossible (cc)

    refused : (n : ℕ) → (playback H g me v trace a initial out).answer ≡ turned_down n → Unchanged (playback H g me v trace a initial out) a initial out
    unfolding playback
    refused n e = refused_by test n e

    -- ---- a call that is not refused

    fine_by : (w : Verdict) (y : Summed) → (playback_by H g me w v (trace_of trace) a initial out).answer ≡ gives y → w ≡ fine
    unfolding playback_by
    fine_by (Err q) y e = impossible (cc)
    fine_by (Ok _) y e = refl

    pub fine_of : (y : Summed) → (playback H g me v trace a initial out).answer ≡ gives y → test ≡ fine
    unfolding playback
    fine_of y e = fine_by test y e

    module _ (f : test ≡ fine) where
      is : playback H g me v trace a initial out ≡ outcome_of (trace_of trace) all x.initial out
      unfolding playback playback_by
      is = ap (λ (w : Verdict). playback_by H g me w v (trace_of trace) a initial out) f

      tests : (SD.construct_test H g me v (length a) (length initial) ≡ fine) × (out_test g (length es) (length out) ≡ fine)
      unfolding play_test
      tests = fine_both (SD.construct_test H g me v (length a) (length initial)) _ f

      out_room_lem : length es * entry_need g ≤ length out
      out_room_lem = (room (length es) (length out)).0 tests.1

      bounded : Bounded g
      bounded = (sound_of H g me v (length a) (length initial) _ refl tests.0).bounded

      reported : Bytes trace → AllReported g all.reports
      unfolding played_from
      reported b =
          let K = sound_of H g me v (length a) (length initial) _ refl tests.0 in
          all_reported g bounded H me x.initial (omega (arith, K.initial_whole, same_initial H g me v a initial)) x.server x.area
          (sound_fresh H g bounded me v a initial K.whole) es (frames_of trace b)

      count : length all.reports ≡ length es
      unfolding played_from
      count = count_reports H g me x.initial x.server x.area es

      reports_fit : Bytes trace → length (reports_bytes all.reports) ≤ length es * entry_need g
      reports_fit b = subst (λ (k : ℕ). length (reports_bytes all.reports) ≤ k * entry_need g) count (reports_few g bounded all.reports (reported b))

      steps : Bytes trace → (hs : List Handed) → entries_of hs ≡ es → AllEnough g hs
          → IsSteps H g me v trace a initial out (playback H g me v trace a initial out) hs
      unfolding played_from taken_from
      steps b hs e E =
          let K = S.same_steps H g me x.initial x.server x.area hs E in
          let p : played H g me x.initial x.server x.area (entries_of hs) ≡ all = ap (played H g me x.initial x.server x.area) e in
          let l = reports_bytes all.reports in
          let fit : 0 + length l ≤ length out = omega (arith, reports_fit b, out_room_lem) in
          record {
            server = ap (λ y. y.server) is ∙ sym (K.server ∙ ap (λ y. y.server) p);
            area = ap (λ y. y.area) is ∙ sym (K.area ∙ ap (λ y. y.area) p);
            initial_is = ap (λ y. y.initial) is;
            agree = subst (λ (y : Played). AllAgree hs (taken H g me x.initial x.server x.area hs).outcomes y.reports) p K.agree;
            told = ap (λ y. told_in (length es) y.out) is
                ∙ ap (told_in (length es)) (sets-eq l out 0 fit)
                ∙ ap (λ (k : ℕ). told_in k (l ++ drop (0 + length l) out)) (sym count)
                ∙ told_back g bounded all.reports (reported b) _;
          }

  -- ---- a trace that is cut

  whole_trace : (u w : List ℕ) → Bytes u → (trace_of u).closing ≡ 0 → (trace_of (u ++ w)).entries ≡ (trace_of u).entries ++ (trace_of w).entries
  unfolding before
  whole_trace u w b c =
      let r = only u b in
      let n : r.rest ≡ [] = whole_closes r.closes c in
      let e : u ≡ trace_bytes (trace_of u).entries = r.is ∙ ap (λ l. trace_bytes (trace_of u).entries ++ l) n ∙ append-nil (trace_bytes (trace_of u).entries) in
      ap (λ l. (trace_of (l ++ w)).entries) e ∙ ap (λ t. t.entries) (back (trace_of u).entries r.writable w)

  -- what was stored first is there, whatever is stored after it
  front_stored : (out l m : List ℕ) → length l ≤ length out → take (length l) (sets out 0 (l ++ m)) ≡ l
  front_stored out l m h =
      ap (take (length l)) (sets_append out 0 l m)
      ∙ part_sets_before (sets out 0 l) (0 + length l) m 0 (length l) (omega arith)
      ∙ part_sets_same out 0 l (omega arith)

  module _ (v u w a initial out out' : List ℕ) (b : Bytes u) (c : (trace_of u).closing ≡ 0) where
    cut : (x y : Summed) → (playback H g me v u a initial out).answer ≡ gives x → (playback H g me v (u ++ w) a initial out').answer ≡ gives y
        → GoesOn H g me w (playback H g me v u a initial out) (playback H g me v (u ++ w) a initial out') x
    unfolding played_from
    cut x y p q =
        let k = SD.construction H g me v a initial in
        let f = fine_of v u a initial out x p in
        let f' = fine_of v (u ++ w) a initial out' y q in
        let P = is v u a initial out f in
        let Q = is v (u ++ w) a initial out' f' in
        let t = whole_trace u w b c in
        let us = (trace_of u).entries in
        let ws = (trace_of w).entries in
        let F = S.follows H g me k.initial k.server k.area us ws in
        let one = played H g me k.initial k.server k.area us in
        let two = played H g me k.initial one.server one.area ws in
        let T : played H g me k.initial k.server k.area (trace_of (u ++ w)).entries ≡ played H g me k.initial k.server k.area (us ++ ws) =
        ap (played H g me k.initial k.server k.area) t in
        let o₁ = playback H g me v u a initial out in
        let go : played H g me o₁.initial o₁.server o₁.area ws ≡ two =
        ap (λ (o : Outcome). played H g me o.initial o.server o.area ws) P in
        let l = reports_bytes one.reports in
        let m = reports_bytes two.reports in
        let n : x.bytes ≡ length l =
        let z : ◌≡◌ {A = Response Summed} (gives x) (gives (summary_of (trace_of u) one.reports)) = sym p ∙ ap (λ (o : Outcome). o.answer) P in
        ap (λ (s : Summed). s.bytes) (let s : x ≡ summary_of (trace_of u) one.reports = cc in s) in
        let fit : length l ≤ length us * entry_need g = reports_fit v u a initial out f b in
        let h : length l ≤ length out = omega (arith, fit, out_room_lem v u a initial out f) in
        let more : length us * entry_need g ≤ length (trace_of (u ++ w)).entries * entry_need g =
        mul-le-mul_right (entry_need g) (omega (arith, ap length t, length-append us ws)) in
        let h' : length l ≤ length out' = omega (arith, fit, more, out_room_lem v (u ++ w) a initial out' f') in
        let first : take x.bytes (playback H g me v u a initial out).out ≡ l =
        ap₂ take n (ap (λ (o : Outcome). o.out) P ∙ ap (sets out 0) (sym (append-nil l))) ∙ front_stored out l [] h in
        let all : reports_bytes (played H g me k.initial k.server k.area (trace_of (u ++ w)).entries).reports ≡ l ++ m =
        ap (λ (o : Played). reports_bytes o.reports) T ∙ ap reports_bytes F.reports ∙ S.reports_append one.reports two.reports in
        let second : take x.bytes (playback H g me v (u ++ w) a initial out').out ≡ l =
        ap₂ take n (ap (λ (o : Outcome). o.out) Q ∙ ap (sets out' 0) all) ∙ front_stored out' l m h' in
        record {
          server = ap (λ (o : Outcome). o.server) Q ∙ ap (λ (o : Played). o.server) T ∙ F.server ∙ sym (ap (λ (o : Played). o.server) go);
          area = ap (λ (o : Outcome). o.area) Q ∙ ap (λ (o : Played). o.area) T ∙ F.area ∙ sym (ap (λ (o : Played). o.area) go);
          out = second ∙ sym first;
        }

  -- ---- a restart

  made_fine : (v a initial : List ℕ) → (SD.construction H g me v a initial).reply ≡ gives 0 → SD.construct_test H g me v (length a) (length initial) ≡ fine
  unfolding SD.construction SD.construct_by
  made_fine v a initial = go (SD.construct_test H g me v (length a) (length initial))
    where
      go : (t : Verdict) → (SD.construct_by H g me t v a initial).reply ≡ gives 0 → t ≡ fine
      go (Err r) e = impossible (cc)
      go (Ok _) e = refl

  journal : (hs : List Handed) → AllWritable (entries_of hs) → trace_of (trace_bytes (entries_of hs)) ≡ record { entries = entries_of hs; closing = 0 }
  unfolding before trace_of trace_from
  journal hs W =
      ap trace_of (sym (append-nil (trace_bytes (entries_of hs))))
      ∙ back (entries_of hs) W []
      ∙ (λ i. record { entries = append-nil (entries_of hs) i; closing = 0 })

  length_entries : (hs : List Handed) → length (entries_of hs) ≡ length hs
  unfolding entries_of
  length_entries hs = length-map hs (λ h. h.entry)

  restart : (v a initial out : List ℕ) (hs : List Handed) → (SD.construction H g me v a initial).reply ≡ gives 0 → AllEnough g hs
      → AllWritable (entries_of hs) → length hs * entry_need g ≤ length out
      → Restarts H g me (SD.construction H g me v a initial) hs (playback H g me v (trace_bytes (entries_of hs)) a initial out)
  unfolding play_test played_from taken_from ending_of pick
  restart v a initial out hs m E W h =
      let x = SD.construction H g me v a initial in
      let u = trace_bytes (entries_of hs) in
      let t = journal hs W in
      let e : (trace_of u).entries ≡ entries_of hs = ap (λ (y : Trace). y.entries) t in
      let n : length (trace_of u).entries ≡ length hs = ap length e ∙ length_entries hs in
      let o : out_test g (length (trace_of u).entries) (length out) ≡ fine =
      ap (λ (k : ℕ). out_test g k (length out)) n ∙ (room (length hs) (length out)).1 h in
      let f : play_test H g me v (trace_of u) (length a) (length initial) (length out) ≡ fine = ap₂ and_then (made_fine v a initial m) o in
      let P = is v u a initial out f in
      let K = S.same_steps H g me x.initial x.server x.area hs E in
      let p : played H g me x.initial x.server x.area (trace_of u).entries ≡ played H g me x.initial x.server x.area (entries_of hs) =
      ap (played H g me x.initial x.server x.area) e in
      record {
        summary = summary_of (trace_of u) (played H g me x.initial x.server x.area (trace_of u).entries).reports;
        answer = ap (λ (y : Outcome). y.answer) P;
        entries = n;
        ending = ap (λ (y : Trace). ending_of y.closing (length y.entries)) t;
        server = ap (λ (y : Outcome). y.server) P ∙ ap (λ (y : Played). y.server) p ∙ sym K.server;
        area = ap (λ (y : Outcome). y.area) P ∙ ap (λ (y : Played). y.area) p ∙ sym K.area;
        initial = ap (λ (y : Outcome). y.initial) P;
      }

  pub theorem : Theorem H g me
  unfolding report_bytes SD.reply_number addressed bytes2 out_test pick
  theorem = record {
    refused = refused;
    room = room;
    no_room = (room 0 0).1 (omega arith);
    steps = λ v trace a initial out b y e hs i E. steps v trace a initial out (fine_of v trace a initial out y e) b hs i E;
    turned_down_lem = λ initial s a e es n f. S.turned_down_lem H g me initial s a e es n f;
    turned_down_bytes = λ n. refl;
    cut = cut;
    restart = restart;
  }
