-- The loop that goes on with the entries of a trace, and the outcome of the call. Assumes nothing.
use Rattle.std.specs.Prelude.{Ok, Err}
use Rattle.std.specs.Prelude.{Err}
use Prim.Native.Nat.{ℕ, ◌+◌, ◌-◌, ◌≤◌, ◌<◌}
use native.Mathlib.Omega.{arith}
use mathlib.Core.Path.{◌≡◌, refl, sym, ap, ap₂, ◌∙◌}
use mathlib.Core.List.{List, [], ◌∷◌}
use lib.ListN.{length, take, drop, length-drop}
use lib.Dec.{ltb}
use borrow.Author.Tests.{lt-ltb, le-ltb}
use Rattle.area.specs.Area.{pick}
use Rattle.area.specs.Responses.{Response, turned_down, gives}
use Rattle.sha256.specs.Hash.{digest_of}
use Rattle.blocks.specs.declared.Params.{Params}
use Rattle.frame.specs.declared.Refusal.{Refusal}
use Rattle.frame.specs.declared.Refusal.TheVariants as Refusals
use Rattle.frame.specs.Refusals.{number_of, Verdict, fine}
use Rattle.frame.specs.Params.{params_test}
use Rattle.frame.proofs.Within.{stop_first, go_second}
use Rattle.server_rules.specs.Tests.{room_test}
use Rattle.layout.specs.Servers.{server_size}
use Rattle.server_deliver.specs.Records.{ByteOutcome, byte_outcome, rooms_test, byte_delivery}
use Rattle.entries.specs.declared.Closing.{Closing}
use Rattle.entries.specs.declared.Found.{Found}
use Rattle.entries.specs.declared.Survey.{Survey}
use Rattle.entries.specs.Entries.{Reading, closing_number, TraceEntry, before, found_in, reading_response, reading_of, trace_of, Surveyed, surveyed, survey_of}
use Rattle.entries.proofs.Traces.{lent_rest, rest_closed, rest_within, rest_entry, few_entries}
use Rattle.playback.specs.declared.Ending.{Ending}
use Rattle.playback.specs.Playback.{End, end_in, ending_of}
use Rattle.playback.specs.Resume.{Areas, areas, areas_of, handed_to, resumed, resume_test, Resumption, resumption, resumption_by, byte_resumption}

-- ---- the tests

module _ (g : Params) (me state area initial out to : ℕ) (p : Verdict) (e : p ≡ params_test g me g.n) where
  pub params_refused : (r : Refusal) → p ≡ Err r → Err r ≡ resume_test g me state area initial out to
  unfolding resume_test
  params_refused r f = stop_first _ _ p r e f

  pub record_refused : p ≡ fine → state < server_size → Err Refusals.Room ≡ resume_test g me state area initial out to
  unfolding resume_test rooms_test pick
  record_refused f h = go_second _ _ p _ e f (rw (lt-ltb _ _ h))

  pub rooms_tested : p ≡ fine → server_size ≤ state → (v : Verdict) → v ≡ room_test g area initial out to → v ≡ resume_test g me state area initial out to
  unfolding resume_test rooms_test pick
  rooms_tested f h v i = go_second _ _ p _ e f (rw (le-ltb _ _ h) i)

-- ---- the loop

module _ (g : Params) (me : ℕ) (initial trace : List ℕ) (whole : Areas) where
  -- the entries from index at on
  abbrev left : ℕ → List TraceEntry
  left at = (trace_of (drop at trace)).entries

  -- from the areas l, the entries that are left lead to the final ones
  pub record Going (l : Areas) (at : ℕ) : Type 0 where
    pub low : at ≤ length trace
    pub is : resumed digest_of g me initial l (left at) ≡ whole

  module _ (l : Areas) (at : ℕ) (T : Going l at) (r : Reading) (is : reading_response r ≡ reading_of (take (length trace - at) (drop at trace))) where
    pub going_end : (c : Closing) → r ≡ Err c → l ≡ whole
    unfolding resumed
    going_end c e =
        let n : left at ≡ [] = ap (λ t. t.entries) (rest_closed trace at r is c e) in
        sym (ap (resumed digest_of g me initial l) n) ∙ T.is

    module _ (x : Found) (found : r ≡ Ok x) where
      abbrev e : TraceEntry
      e = found_in (take (length trace - at) (drop at trace)) x

      pub going_within : (5 ≤ x.end) × (x.end ≤ length trace - at) × (x.end ≤ length (take (length trace - at) (drop at trace)))
      going_within =
          let w = rest_within trace at r is x found in
          (w.0, w.1, omega (arith, w.1, ap length (lent_rest trace at), length-drop at trace))

      pub going_next : (v : Response ℕ) (a s o u : List ℕ)
          → byte_outcome v a s o u ≡ byte_delivery digest_of g me x.sender e.frame l.area initial l.state l.out l.to
          → Going (areas a s o u) (at + x.end)
      unfolding resumed handed_to before
      going_next v a s o u q =
          let n : left at ≡ e ∷ left (at + x.end) = ap (λ t. t.entries) (rest_entry trace at r is x found) in
          record {
            low = omega (arith, going_within.1, T.low);
            is = ap (λ (y : ByteOutcome). resumed digest_of g me initial (areas_of y) (left (at + x.end))) q
                ∙ sym (ap (resumed digest_of g me initial l) n)
                ∙ T.is;
          }

-- ---- the outcome

module _ (g : Params) (me : ℕ) (initial trace : List ℕ) (l : Areas) (t : Verdict)
    (e : t ≡ resume_test g me (length l.state) (length l.area) (length initial) (length l.out) (length l.to)) where
  pub resume_refused : (r : Refusal) → t ≡ Err r → resumption (turned_down (number_of r)) l ≡ byte_resumption digest_of g me initial trace l
  unfolding byte_resumption resumption_by
  resume_refused r f = ap (λ (v : Verdict). resumption_by digest_of g me initial v (trace_of trace) l) (sym f ∙ e)

  module _ (f : t ≡ fine) (k : Survey) (s : surveyed k ≡ survey_of (trace_of trace)) where
    counted : k.count ≡ length (trace_of trace).entries
    unfolding survey_of
    counted = ap (λ (y : Surveyed). y.count) s

    closes : closing_number k.closing ≡ (trace_of trace).closing
    unfolding survey_of
    closes = ap (λ (y : Surveyed). y.closing) s

    pub resume_counted : k.count ≤ length trace
    resume_counted = omega (arith, counted, few_entries trace)

    pub resume_done : (m : Areas) (y : Ending) → m ≡ resumed digest_of g me initial l (trace_of trace).entries
        → end_in y ≡ ending_of (closing_number k.closing) k.count
        → resumption (gives (record { entries = k.count; bytes = 0; ending = end_in y })) m ≡ byte_resumption digest_of g me initial trace l
    unfolding byte_resumption resumption_by
    resume_done m y q j =
        let w : end_in y ≡ ending_of (trace_of trace).closing (length (trace_of trace).entries) = j ∙ ap₂ ending_of closes counted in
        (λ i. resumption (gives (record { entries = counted i; bytes = 0; ending = w i })) (q i))
        ∙ ap (λ (v : Verdict). resumption_by digest_of g me initial v (trace_of trace) l) (sym f ∙ e)
