-- The outcome of a playback, from its stages. Assumes nothing.
use Rattle.std.specs.Prelude.{Err}
use Prim.Native.Nat.{ℕ, ◌≤◌, ◌<◌}
use native.Mathlib.Omega.{arith}
use native.Mathlib.Decide.{dec_lt}
use mathlib.Core.Path.{◌≡◌, sym, ap, ap₂, ◌∙◌}
use mathlib.Core.List.{List}
use lib.ListN.{length}
use lib.Dec.{ltb}
use borrow.Author.Tests.{lt-ltb, le-ltb}
use Rattle.area.specs.Area.{pick}
use Rattle.area.specs.Responses.{turned_down, gives, is_turned_down}
use Rattle.sha256.specs.Hash.{digest_of}
use Rattle.blocks.specs.declared.Params.{Params}
use Rattle.frame.specs.declared.Refusal.{Refusal}
use Rattle.frame.specs.Params.{Bounded}
use Rattle.frame.specs.Refusals.{number_of, answered_by, and_then, Verdict, fine}
use Rattle.frame.proofs.Within.{stop_first, go_second}
use Rattle.server_rules.specs.Delivery.{Reply}
use Rattle.server_rules.specs.Delivery.{reply_response, reply_number, construct_test}
use Rattle.server.proofs.Constructing.{sound_of}
use Rattle.layout.specs.Left.{left_by}
use Rattle.layout.specs.Servers.{server_size}
use Rattle.server_deliver.specs.Handed.{fresh_test}
use Rattle.server_deliver.proofs.FreshRecords.{fine_fresh, same_refusal, short_refusal}
use Rattle.entries.specs.declared.Closing.{Closing}
use Rattle.entries.specs.declared.Survey.{Survey}
use Rattle.entries.specs.Entries.{closing_number, Trace, trace_of, Surveyed, surveyed, survey_of}
use Rattle.entries.proofs.Traces.{few_entries}
use Rattle.playback.specs.declared.Ending.{Ending}
use Rattle.playback.specs.Playback.{End, whole, end_in, ending_of, Outcome, out_test, play_test, playback_by, playback}
use Rattle.playback.specs.Records.{bytes_played, played_after, played_at, short_playback, byte_playback}
use Rattle.playback.specs.Stages.{done, played_all}

pub refused_number : (a : Reply) (r : Refusal) (x : ℕ) → a ≡ Err r → x ≡ number_of r → x ≡ reply_number (reply_response a)
unfolding reply_number
refused_number a r x e f = f ∙ sym (ap (λ z. reply_number (reply_response z)) e)

pub ending_case : (c d : Closing) (n : ℕ) (x : End) → c ≡ d → x ≡ ending_of (closing_number d) n → x ≡ ending_of (closing_number c) n
ending_case c d n x e p = p ∙ sym (ap (λ (k : Closing). ending_of (closing_number k) n) e)

-- ---- the whole

module _ (g : Params) (me : ℕ) (v trace a initial state out : List ℕ) where
  abbrev t : Trace
  t = trace_of trace

  abbrev test : Verdict
  test = play_test digest_of g me v t (length a) (length initial) (length out)

  by_verdict : (w : Verdict) → test ≡ w → playback_by digest_of g me w v t a initial out ≡ playback digest_of g me v trace a initial out
  unfolding playback
  by_verdict w e = sym (ap (λ (y : Verdict). playback_by digest_of g me y v t a initial out) e)

  short_played : length state < server_size
      → bytes_played (short_playback g me (length v)) a initial state out ≡ byte_playback digest_of g me v trace a initial state out
  unfolding byte_playback pick
  short_played h = rw (lt-ltb _ _ h)

  pub whole_played : server_size ≤ length state → played_at (playback digest_of g me v trace a initial out) state
      ≡ byte_playback digest_of g me v trace a initial state out
  unfolding byte_playback pick
  whole_played h = rw (le-ltb _ _ h)

  refused_by : server_size ≤ length state → (r : Refusal) → test ≡ Err r
      → bytes_played (turned_down (number_of r)) a initial state out ≡ byte_playback digest_of g me v trace a initial state out
  unfolding playback_by played_at played_after left_by is_turned_down pick
  refused_by h r e = ap (λ (y : Outcome). played_at y state) (by_verdict (Err r) e) ∙ whole_played h

  -- refusals 1 to 3, and 10 of the record's area
  module _ (w : Verdict) (i : w ≡ fresh_test g me (length v) (length state)) where
    pub record_refused : (r : Refusal) → w ≡ Err r
        → bytes_played (turned_down (number_of r)) a initial state out ≡ byte_playback digest_of g me v trace a initial state out
    unfolding short_playback play_test
    record_refused r f = go (dec_lt (length state) server_size)
      where
        go : Dec (length state < server_size) → bytes_played (turned_down (number_of r)) a initial state out
            ≡ byte_playback digest_of g me v trace a initial state out
        go (yes h) =
            let e = short_refusal g me v a initial state h r (sym i ∙ f) in
            ap (λ (y : Verdict). bytes_played (answered_by y (record { entries = 0; bytes = 0; ending = whole })) a initial state out) (sym e) ∙ short_played h
        go (no h) =
            let l : server_size ≤ length state = omega (arith, h) in
            refused_by l r (ap (λ (y : Verdict). and_then y (out_test g (length t.entries) (length out)))
            (same_refusal g me v a initial state l r (sym i ∙ f)))

    module _ (f : w ≡ fine) where
      long : server_size ≤ length state
      long = (fine_fresh g me (length v) (length state) w i f).1

      module _ (u : Verdict) (e : u ≡ construct_test digest_of g me v (length a) (length initial)) where
        -- refusal 10 of the state area and of the initial block's area
        pub play_refused : (r : Refusal) → u ≡ Err r
            → bytes_played (turned_down (number_of r)) a initial state out ≡ byte_playback digest_of g me v trace a initial state out
        unfolding play_test
        play_refused r z = refused_by long r (sym (stop_first _ _ u r e z))

        module _ (z : u ≡ fine) (k : Survey) (s : surveyed k ≡ survey_of t) where
          counted : k.count ≡ length t.entries
          unfolding survey_of
          counted = ap (λ (y : Surveyed). y.count) s

          closes : closing_number k.closing ≡ t.closing
          unfolding survey_of
          closes = ap (λ (y : Surveyed). y.closing) s

          pub few_counted : k.count ≤ length trace
          few_counted = omega (arith, counted, few_entries trace)

          pub bounds : Bounded g
          bounds = (sound_of digest_of g me v (length a) (length initial) u e z).bounded

          module _ (x : Verdict) (o : x ≡ out_test g k.count (length out)) where
            tested : x ≡ test
            unfolding play_test
            tested = go_second _ _ u x e z (o ∙ ap (λ (n : ℕ). out_test g n (length out)) counted)

            -- refusal 10 of the out area
            pub out_refused : (r : Refusal) → x ≡ Err r
                → bytes_played (turned_down (number_of r)) a initial state out ≡ byte_playback digest_of g me v trace a initial state out
            out_refused r h = refused_by long r (sym tested ∙ h)

            module _ (h : x ≡ fine) where
              pub test_fine : (test ≡ fine) × (server_size ≤ length state)
              test_fine = (sym tested ∙ h, long)

              pub play_done : (used : ℕ) (a' i' s' o' : List ℕ) (y : Ending) → done used a' i' s' o' ≡ played_all digest_of g me v t a initial state out
                  → end_in y ≡ ending_of (closing_number k.closing) k.count
                  → bytes_played (gives (record { entries = k.count; bytes = used; ending = end_in y })) a' i' s' o'
                  ≡ byte_playback digest_of g me v trace a initial state out
              unfolding playback_by played_all played_at played_after left_by is_turned_down pick
              play_done used a' i' s' o' y q j =
                  let w : end_in y ≡ ending_of t.closing (length t.entries) = j ∙ ap₂ ending_of closes counted in
                  (λ l. bytes_played (gives (record { entries = counted l; bytes = (q l).used; ending = w l }))
                  (q l).area (q l).initial (q l).state (q l).out)
                  ∙ ap (λ (z : Outcome). played_at z state) (by_verdict fine (sym tested ∙ h))
                  ∙ whole_played long
