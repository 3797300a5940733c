-- The loop over the entries: what is played so far, and then what is left, is the whole playback. Assumes nothing.
use Rattle.std.specs.Prelude.{Ok, Err}
use Rattle.frame.specs.Refusals.{fine}
use Prim.Native.Nat.{ℕ, ◌+◌, ◌*◌, ◌-◌, ◌≤◌, ◌<◌}
use native.Mathlib.Omega.{arith}
use native.Mathlib.Nat.{suc-mul, mul-add}
use mathlib.Core.Path.{◌≡◌, refl, sym, ap, ap₂, subst, ◌∙◌}
use mathlib.Core.List.{List, [], ◌∷◌, ◌++◌}
use lib.ListN.{length, take, drop, length-append, length-drop}
use lib.Seq.{sets, length-sets}
use lib.Dec.{ltb}
use borrow.Rule.Slice.PartMut.{put_mid}
use borrow.Author.Tests.{ltb-false}
use Rattle.area.specs.Area.{Bytes}
use Rattle.area.specs.Responses.{Response}
use Rattle.area.specs.Numbers.{bytes2}
use Rattle.area.proofs.Sets.{sets_append}
use Rattle.area.proofs.Numbers.{Bytes-take, Bytes-drop, length_bytes2}
use Rattle.blocks.specs.declared.Params.{Params}
use Rattle.frame.specs.Params.{width, largest_frame, server_frames, out_room, to_room, Bounded}
use Rattle.frame.specs.declared.Refusal.TheVariants as Refusals
use Rattle.frame.proofs.Verdicts.{fine_both, fine_not}
use Rattle.frame.specs.Outbox.{frames, receivers}
use Rattle.server_rules.specs.declared.Server.{Server}
use Rattle.server_rules.specs.Delivery as SD
use Rattle.server.proofs.Constructing.{sound_of}
use Rattle.entries.specs.declared.Closing.{Closing}
use Rattle.entries.specs.declared.Found.{Found}
use Rattle.entries.specs.Entries.{Reading, TraceEntry, before, found_in, reading_response, reading_of, trace_of}
use Rattle.entries.proofs.Traces.{lent_rest, rest_closed, rest_within, rest_entry}
use Rattle.playback.specs.Reports.{addressed, Report, report_bytes, reports_bytes}
use Rattle.playback.specs.Playback.{entry_need, out_test, report_of, server_after, area_after, Played, played, play_test, played_from}
use Rattle.playback.specs.Stages.{sent_in, Lie, report_in, done, played_all}
use Rattle.playback.specs.Theorem.{Enough}
use Rattle.playback.proofs.Rooms.{same_initial, count_is, step_reply, step_server, step_area, step_out, step_to}
use Rattle.layout.specs.Servers.{server_bytes}
use Rattle.layout.proofs.Stores.{sets_over}
use Rattle.playback.proofs.Moves.{back_there, back_stored}
use Rattle.playback.proofs.Sends.{addressed_more, report_few, sent_in_lem, lie_in, to_many}
use Rattle.playback.proofs.Sound.{Sound, Steps, steps, sound_fresh}

module _ (H : List ℕ → List ℕ) (g : Params) (me : ℕ) (initial trace : List ℕ) (whole : Played) (out₀ : List ℕ) where
  -- the entries from index at on
  abbrev left : ℕ → List TraceEntry
  left at = (trace_of (drop at trace)).entries

  abbrev plays : Server → List ℕ → ℕ → Played
  plays s a at = played H g me initial s a (left at)

  -- before a turn: server s with its area a is to play the entries from index at on, and used bytes of the out area are written
  pub record Turn (s : Server) (a out : List ℕ) (at used : ℕ) : Type 0 where
    pub bounded : Bounded g
    pub initial_room : width g ≤ length initial
    pub bytes : Bytes trace
    pub low : at ≤ length trace
    pub sound : Sound s a
    pub server_is : (plays s a at).server ≡ whole.server
    pub area_is : (plays s a at).area ≡ whole.area
    pub used_is : used + length (reports_bytes (plays s a at).reports) ≡ length (reports_bytes whole.reports)
    pub out_is : sets out used (reports_bytes (plays s a at).reports) ≡ sets out₀ 0 (reports_bytes whole.reports)
    pub room : used + length (left at) * entry_need g ≤ length out

  module _ (s : Server) (a out : List ℕ) (at used : ℕ) (T : Turn s a out at used) (r : Reading)
      (is : reading_response r ≡ reading_of (take (length trace - at) (drop at trace))) where
    abbrev B : Bounded g
    B = T.bounded

    -- ---- where the trace closes

    pub record Ends : Type 0 where
      pub server : s ≡ whole.server
      pub area : a ≡ whole.area
      pub used_all : used ≡ length (reports_bytes whole.reports)
      pub out_all : out ≡ sets out₀ 0 (reports_bytes whole.reports)

    pub turn_end : (c : Closing) → r ≡ Err c → Ends
    unfolding played reports_bytes
    turn_end c e =
        let n : left at ≡ [] = ap (λ t. t.entries) (rest_closed trace at r is c e) in
        let p : plays s a at ≡ record { server = s; area = a; reports = [] } = ap (played H g me initial s a) n in
        let q : reports_bytes (plays s a at).reports ≡ [] = ap (λ y. reports_bytes y.reports) p in
        record {
          server = sym (ap (λ y. y.server) p) ∙ T.server_is;
          area = sym (ap (λ y. y.area) p) ∙ T.area_is;
          used_all = omega (arith, T.used_is, ap length q);
          out_all = sym (ap (sets out used) q) ∙ T.out_is;
        }

    -- ---- an entry x, whose frame is lent to the step

    module _ (x : Found) (found : r ≡ Ok x) where
      abbrev e : TraceEntry
      e = found_in (take (length trace - at) (drop at trace)) x

      abbrev report : Report
      report = report_of H g me initial s a e

      pub within : (5 ≤ x.end) × (x.end ≤ length trace - at) × (x.end ≤ length (take (length trace - at) (drop at trace)))
      within =
          let w = rest_within trace at r is x found in
          (w.0, w.1, omega (arith, w.1, ap length (lent_rest trace at), length-drop at trace))

      left_is : left at ≡ e ∷ left (at + x.end)
      unfolding before
      left_is = ap (λ t. t.entries) (rest_entry trace at r is x found)

      pub entry_bytes_lem : Bytes e.frame
      entry_bytes_lem =
          let l = take (length trace - at) (drop at trace) in
          Bytes-take (x.end - 5) (drop 5 l) (Bytes-drop 5 l (Bytes-take (length trace - at) (drop at trace) (Bytes-drop at trace T.bytes)))

      taken : Steps H g B me initial s a e
      taken = steps H g B me initial T.initial_room s a T.sound e entry_bytes_lem

      report_room : length (report_bytes report) ≤ entry_need g
      report_room = report_few g B report.sends taken.formed taken.few report refl

      used_room : used + length (report_bytes report) + length (left (at + x.end)) * entry_need g ≤ length out
      used_room =
          let m : length (left at) * entry_need g ≡ length (left (at + x.end)) * entry_need g + entry_need g =
          ap (λ y. length y * entry_need g) left_is ∙ suc-mul (length (left (at + x.end))) (entry_need g) in
          omega (arith, T.room, m, report_room)

      -- the room from the place of the report's frames on, and that of their receivers, are long enough for the step
      pub step_room : (to : List ℕ) → length to ≡ 452 → Enough g (take (length out - (used + 3)) (drop (used + 3) out)) to × (used + 3 ≤ length out)
      unfolding out_room to_room entry_need
      step_room to t =
          let k = server_frames g in
          let m : k * (largest_frame g + 2) ≡ k * largest_frame g + k * 2 = mul-add k (largest_frame g) 2 in
          let l : length (left at) * entry_need g ≡ length (left (at + x.end)) * entry_need g + entry_need g =
          ap (λ y. length y * entry_need g) left_is ∙ suc-mul (length (left (at + x.end))) (entry_need g) in (
            record {
              out_room_lem = omega (arith, T.room, l, m, ap length (lent_rest out (used + 3)), length-drop (used + 3) out);
              to_room_lem = omega (arith, B.servers_high, t);
            },
            omega (arith, T.room, l),
          )

      -- what is lent to the step for its frames: the out area from there on
      abbrev frames₀ : List ℕ
      frames₀ = take (length out - (used + 3)) (drop (used + 3) out)

      -- the step's reply v, what it leaves, and its frames and receivers in the areas that were lent to it
      module _ (v : Response ℕ) (s₁ : Server) (a' to₀ frames' to' : List ℕ) (E : Enough g frames₀ to₀) (high : used + 3 ≤ length out)
          (q : ◌≡◌ {A = SD.Outcome} (record { reply = v; server = s₁; area = a'; out = frames'; to = to' })
          (SD.delivery H g me s a initial x.sender e.frame frames₀ to₀)) where
        reply_is : v ≡ report.reply
        reply_is = ap (λ y. y.reply) q ∙ step_reply H g me initial s a e frames₀ to₀ E

        count : SD.reply_count v ≡ length report.sends
        count = ap SD.reply_count reply_is ∙ count_is H g me initial s a e

        frames_are : frames' ≡ sets frames₀ 0 (frames report.sends)
        frames_are = ap (λ y. y.out) q ∙ step_out H g me initial s a e frames₀ to₀ E

        to_are : to' ≡ sets to₀ 0 (receivers report.sends)
        to_are = ap (λ y. y.to) q ∙ step_to H g me initial s a e frames₀ to₀ E

        report_is : report_in v frames' to' ≡ report_bytes report
        unfolding report_in report_bytes
        report_is =
            let c : sent_in (SD.reply_count v) frames' to' ≡ addressed report.sends =
            ap (λ (k : ℕ). sent_in k frames' to') count
            ∙ ap₂ (sent_in (length report.sends)) frames_are to_are
            ∙ sent_in_lem g B report.sends taken.formed taken.few frames₀ to₀ E.out_room_lem E.to_room_lem in
            ap₂ (λ n l. n ∷ l) (ap SD.reply_number reply_is) (ap₂ (λ k l. bytes2 k ++ l) count c)

        -- ---- the frames lie in the out area itself, from the place of the report's frames on

        -- the out area after the step
        abbrev pub out₁ : List ℕ
        out₁ = put_mid (used + 3) (length out - (used + 3)) out frames'

        there : drop (used + 3) out₁ ≡ frames'
        there = back_there out (used + 3) high frames'

        sent_fits : used + 3 + length (frames report.sends) ≤ used + length (report_bytes report)
        unfolding report_bytes
        sent_fits =
            omega (
              arith,
              addressed_more g B report.sends,
              length-append (bytes2 (length report.sends)) (addressed report.sends),
              length_bytes2 (length report.sends),
            )

        out₁_is : out₁ ≡ sets out (used + 3) (frames report.sends)
        out₁_is =
            ap (λ l. put_mid (used + 3) (length out - (used + 3)) out l)
            (frames_are ∙ ap (λ l. sets l 0 (frames report.sends)) (lent_rest out (used + 3)))
            ∙ back_stored out (used + 3) high (frames report.sends) (omega (arith, sent_fits, used_room))

        -- what `put_report` requires
        pub record Asks : Type 0 where
          pub head_room : used + 3 ≤ length out₁
          pub lie : Lie (SD.reply_count v) (drop (used + 3) out₁)
          pub receivers_in : 2 * SD.reply_count v ≤ length to'
          pub few : SD.reply_count v < 65536
          pub fits : used + length (report_in v (drop (used + 3) out₁) to') ≤ length out₁

        pub turn_asks : Asks
        turn_asks =
            let l : length out₁ ≡ length out = ap length out₁_is ∙ length-sets out (used + 3) (frames report.sends) in
            record {
              head_room = omega (arith, high, l);
              lie = subst (Lie (SD.reply_count v)) (sym there)
                  (subst (λ (k : ℕ). Lie k frames') (sym count)
                  (subst (Lie (length report.sends)) (sym frames_are)
                  (lie_in g B report.sends taken.formed taken.few frames₀ to₀ E.out_room_lem E.to_room_lem)));
              receivers_in = omega (
                arith,
                count,
                ap length to_are,
                to_many g B report.sends taken.formed taken.few frames₀ to₀ E.out_room_lem E.to_room_lem,
              );
              few = omega (arith, count, taken.few, B.servers_high);
              fits = omega (arith, used_room, ap (λ k. length (report_in v k to')) there, ap length report_is, l);
            }

        pub turn_next : (out' : List ℕ) (used' : ℕ) → out' ≡ sets out₁ used (report_in v (drop (used + 3) out₁) to')
            → used' ≡ used + length (report_in v (drop (used + 3) out₁) to') → Turn s₁ a' out' (at + x.end) used'
        unfolding played reports_bytes
        turn_next out' used' o u =
            let s' : s₁ ≡ server_after H g me initial s a e = ap (λ y. y.server) q ∙ step_server H g me initial s a e frames₀ to₀ E in
            let b' : a' ≡ area_after H g me initial s a e = ap (λ y. y.area) q ∙ step_area H g me initial s a e frames₀ to₀ E in
            let p : plays s₁ a' (at + x.end) ≡ plays (server_after H g me initial s a e) (area_after H g me initial s a e) (at + x.end) =
            ap₂ (λ y z. plays y z (at + x.end)) s' b' in
            let w : plays s a at ≡ played H g me initial s a (e ∷ left (at + x.end)) = ap (played H g me initial s a) left_is in
            let more = reports_bytes (plays (server_after H g me initial s a e) (area_after H g me initial s a e) (at + x.end)).reports in
            let all : reports_bytes (plays s a at).reports ≡ report_bytes report ++ more = ap (λ y. reports_bytes y.reports) w in
            let rest : reports_bytes (plays s₁ a' (at + x.end)).reports ≡ more = ap (λ y. reports_bytes y.reports) p in
            let told : report_in v (drop (used + 3) out₁) to' ≡ report_bytes report = ap (λ l. report_in v l to') there ∙ report_is in
            let o' : out' ≡ sets out used (report_bytes report) =
            o ∙ ap₂ (λ l m. sets l used m) out₁_is told
            ∙ sets_over out (used + 3) (frames report.sends) used (report_bytes report) (omega arith) sent_fits in
            let u' : used' ≡ used + length (report_bytes report) = u ∙ ap (λ l. used + length l) told in
            let l' : length out' ≡ length out = ap length o' ∙ length-sets out used (report_bytes report) in
            record {
              bounded = B;
              initial_room = T.initial_room;
              bytes = T.bytes;
              low = omega (arith, within.1, T.low);
              sound = subst (λ (z : Server). Sound z a') (sym s') (subst (Sound (server_after H g me initial s a e)) (sym b') taken.sound);
              server_is = ap (λ y. y.server) p ∙ sym (ap (λ y. y.server) w) ∙ T.server_is;
              area_is = ap (λ y. y.area) p ∙ sym (ap (λ y. y.area) w) ∙ T.area_is;
              used_is = omega (arith, u', ap length rest, ap length all, length-append (report_bytes report) more, T.used_is);
              out_is = ap₂ (λ y z. sets y z (reports_bytes (plays s₁ a' (at + x.end)).reports)) o' u'
                  ∙ ap (sets (sets out used (report_bytes report)) (used + length (report_bytes report))) rest
                  ∙ sym (sets_append out used (report_bytes report) more)
                  ∙ ap (sets out used) (sym all)
                  ∙ T.out_is;
              room = omega (arith, used_room, u', l');
            }

-- ---- the first turn, and what is left after the last

-- the constructor's tests are passed
pub constructs : (H : List ℕ → List ℕ) (g : Params) (me : ℕ) (v trace : List ℕ) (a initial out : ℕ) → play_test H g me v (trace_of trace) a initial out ≡ fine
    → SD.construct_test H g me v a initial ≡ fine
unfolding play_test
constructs H g me v trace a initial out t = (fine_both (SD.construct_test H g me v a initial) _ t).0

module _ (H : List ℕ → List ℕ) (g : Params) (me : ℕ) (v a initial : List ℕ) (r₁ : Response ℕ) (s₁ : Server) (a₁ initial₁ : List ℕ)
    (c : ◌≡◌ {A = SD.Constructed} (record { reply = r₁; server = s₁; area = a₁; initial = initial₁ }) (SD.construction H g me v a initial))
    (trace : List ℕ) where
  abbrev all : Played
  all = played H g me initial₁ s₁ a₁ (trace_of trace).entries

  pub turn_start : (out : List ℕ) → play_test H g me v (trace_of trace) (length a) (length initial) (length out) ≡ fine → Bytes trace
      → Turn H g me initial₁ trace all out s₁ a₁ out 0 0
  unfolding play_test out_test
  turn_start out t b =
      let w = fine_both (SD.construct_test H g me v (length a) (length initial)) _ t in
      let K = sound_of H g me v (length a) (length initial) _ refl w.0 in
      let F = sound_fresh H g K.bounded me v a initial K.whole in
      let o : length (trace_of trace).entries * entry_need g ≤ length out =
      ltb-false (length out) (length (trace_of trace).entries * entry_need g)
      (fine_not (ltb (length out) (length (trace_of trace).entries * entry_need g)) Refusals.Room fine w.1).0 in
      record {
        bounded = K.bounded;
        initial_room = omega (arith, K.initial_whole, ap (λ y. length y.initial) c, same_initial H g me v a initial);
        bytes = b;
        low = omega arith;
        sound = subst (λ (y : SD.Constructed). Sound y.server y.area) (sym c) F;
        server_is = refl;
        area_is = refl;
        used_is = omega arith;
        out_is = refl;
        room = omega (arith, o);
      }

  pub all_played : (state state₁ : List ℕ) → length (server_bytes s₁) ≤ length (server_bytes all.server) → state₁ ≡ sets state 0 (server_bytes s₁)
      → (out : List ℕ) (s : Server) (a' st' out' : List ℕ) (used : ℕ) → st' ≡ sets state₁ 0 (server_bytes s) → s ≡ all.server → a' ≡ all.area
      → used ≡ length (reports_bytes all.reports) → out' ≡ sets out 0 (reports_bytes all.reports)
      → done used a' initial₁ st' out' ≡ played_all H g me v (trace_of trace) a initial state out
  unfolding played_all played_from
  all_played state state₁ m f out s a' st' out' used z p q u o =
      let es = (trace_of trace).entries in
      let r : all ≡ played_from H g me (SD.construction H g me v a initial) es =
      ap (λ (y : SD.Constructed). played H g me y.initial y.server y.area es) c in
      let i : initial₁ ≡ (SD.construction H g me v a initial).initial = ap (λ y. y.initial) c in
      let w : st' ≡ sets state 0 (server_bytes all.server) =
      z ∙ ap₂ (λ l t. sets l 0 (server_bytes t)) f p ∙ sets_over state 0 (server_bytes s₁) 0 (server_bytes all.server) (omega arith) (omega (arith, m)) in
      (λ k. record { used = u k; area = q k; initial = initial₁; state = w k; out = o k })
      ∙ (λ k. record {
        used = length (reports_bytes (r k).reports);
        area = (r k).area;
        initial = i k;
        state = sets state 0 (server_bytes (r k).server);
        out = sets out 0 (reports_bytes (r k).reports);
      })
