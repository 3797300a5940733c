-- What a host is answered when it asks about a frame, from the promises of the functions that the code calls. Assumes nothing.
use Rattle.std.specs.Prelude.{Ok, Err}
use Prim.Native.Nat.{ℕ, zero, suc, ◌+◌, ◌≤◌, ◌<◌}
use native.Mathlib.Omega.{arith}
use mathlib.Core.Path.{◌≡◌, refl, sym, ap, ◌∙◌}
use mathlib.Core.Bool.{true, false}
use mathlib.Core.List.{List}
use mathlib.Core.Option.{Option, none, some}
use lib.ListN.{length}
use lib.Seq.{sets}
use borrow.Author.Tests.{lt-ltb, le-ltb}
use Rattle.area.specs.Area.{pick}
use Rattle.area.specs.Responses.{Response, turned_down, gives}
use Rattle.area.specs.Numbers.{be8, bytes8}
use Rattle.area.proofs.Tests.{impossible}
use Rattle.blocks.specs.declared.Params.{Params}
use Rattle.frame.specs.declared.Header.{Header}
use Rattle.frame.specs.declared.Refusal.{Refusal}
use Rattle.frame.specs.Frames.{Opened}
use Rattle.frame.specs.Refusals.{Verdict, answered_by, and_then}
use Rattle.frame.specs.Params.{bounds_test}
use Rattle.frame.specs.Frames.{retired, body_at, length_of, body_length, header_in, frame_test, opened_by, opened, opening_response, opened_under, stamp_in, body_in}
use Rattle.frame.proofs.Opening.{opens_facts}
use Rattle.host_facts.specs.Outcomes.{wrote}
use Rattle.host_facts.specs.Frames.{header_answer, header_call, time_of, timed, time_given, time_call}
use Rattle.host_facts.specs.Kinds.{carries_time}

pub header_done : (g : Params) (f : List ℕ) (a : Response Header) (x : ℕ) → a ≡ opened_under g f → x ≡ header_answer a → x ≡ header_call g f
unfolding header_call
header_done g f a x e p = p ∙ ap header_answer e

-- ---- the kinds of frames that carry a time

-- such a frame has a body of 8 bytes or more, which begins with the time
record Timed (g : Params) (f : List ℕ) (k : ℕ) : Type 0 where
  pub time : time_of (body_in g k f) ≡ pick (carries_time k) (some (be8 f body_at)) none
  pub long : carries_time k ≡ true → 8 ≤ body_length g k

timed_by : (g : Params) (f : List ℕ) (k : ℕ) → 1 ≤ k → k ≤ 13 → retired k ≡ false → Timed g f k
unfolding body_in stamp_in time_of carries_time body_length length_of retired pick
timed_by g f zero l h r = absurd (omega (arith, l))
timed_by g f (suc zero) l h r = record { time = refl; long = λ e. impossible (cc e) }
timed_by g f (suc (suc zero)) l h r = record { time = refl; long = λ e. omega arith }
timed_by g f (suc (suc (suc zero))) l h r = record { time = refl; long = λ e. omega arith }
timed_by g f (suc (suc (suc (suc zero)))) l h r = record { time = refl; long = λ e. omega arith }
timed_by g f (suc (suc (suc (suc (suc zero))))) l h r = record { time = refl; long = λ e. omega arith }
timed_by g f (suc (suc (suc (suc (suc (suc zero)))))) l h r = impossible (cc r)
timed_by g f (suc (suc (suc (suc (suc (suc (suc zero))))))) l h r = impossible (cc r)
timed_by g f (suc (suc (suc (suc (suc (suc (suc (suc zero)))))))) l h r = impossible (cc r)
timed_by g f (suc (suc (suc (suc (suc (suc (suc (suc (suc zero))))))))) l h r = record { time = refl; long = λ e. impossible (cc e) }
timed_by g f (suc (suc (suc (suc (suc (suc (suc (suc (suc (suc zero)))))))))) l h r = record { time = refl; long = λ e. impossible (cc e) }
timed_by g f (suc (suc (suc (suc (suc (suc (suc (suc (suc (suc (suc zero))))))))))) l h r = record { time = refl; long = λ e. omega arith }
timed_by g f (suc (suc (suc (suc (suc (suc (suc (suc (suc (suc (suc (suc zero)))))))))))) l h r = record { time = refl; long = λ e. impossible (cc e) }
timed_by g f (suc (suc (suc (suc (suc (suc (suc (suc (suc (suc (suc (suc (suc zero))))))))))))) l h r = record { time = refl; long = λ e. omega arith }
timed_by g f (suc (suc (suc (suc (suc (suc (suc (suc (suc (suc (suc (suc (suc (suc k)))))))))))))) l h r = absurd (omega (arith, h))

-- ---- the time that a frame carries

opens_given : (v w : Verdict) (x h : Header) → answered_by (and_then v w) x ≡ gives h → opened_by w x ≡ Ok h
opens_given (Ok _) (Ok _) x h e = cc e
opens_given (Ok _) (Err r) x h e = impossible (cc e)
opens_given (Err r) w x h e = impossible (cc e)

module _ (g : Params) (f time : List ℕ) (o : Opened) (e : opening_response o ≡ opened_under g f) where
  pub time_refused : (r : Refusal) (x : ℕ) → o ≡ Err r → x ≡ header_answer (opening_response o) → wrote x time ≡ time_call g f time
  unfolding time_call time_given header_answer
  time_refused r x q a =
      ap (λ z. wrote z time) (a ∙ ap (λ z. header_answer (opening_response z)) q)
      ∙ ap (λ z. time_given g f (opening_response z) time) (sym q)
      ∙ ap (λ z. time_given g f z time) e

  module _ (h : Header) (q : o ≡ Ok h) where
    opens : opened g f ≡ Ok h
    unfolding opened opened_under
    opens = opens_given (bounds_test g) (frame_test g f) (header_in f) h (sym e ∙ ap opening_response q)

    timing : Timed g f h.kind
    timing = let o = opens_facts g f h opens in timed_by g f h.kind o.kind_low o.kind_high o.kind_used

    pub time_long : carries_time h.kind ≡ true → 17 ≤ length f
    time_long c =
        let l = (opens_facts g f h opens).length_is in
        let b = timing.long c in
        omega (arith, l, b)

    -- the frame opens
    by_header : time_given g f (gives h) time ≡ time_call g f time
    unfolding time_call
    by_header = ap (λ z. time_given g f (opening_response z) time) (sym q) ∙ ap (λ z. time_given g f z time) e

    pub time_short : length time < 8 → wrote 10 time ≡ time_call g f time
    unfolding time_given pick
    time_short s = sym (rw (lt-ltb _ _ s)) ∙ by_header

    pub time_none : 8 ≤ length time → carries_time h.kind ≡ false → wrote 0 time ≡ time_call g f time
    unfolding time_given timed pick
    time_none s c =
        let t : time_of (body_in g h.kind f) ≡ none = timing.time ∙ ap (λ b. pick b (some (be8 f body_at)) none) c in
        ap (λ z. timed z time) (sym t) ∙ sym (rw (le-ltb _ _ s)) ∙ by_header

    pub time_done : (t : ℕ) (out : List ℕ) → 8 ≤ length time → carries_time h.kind ≡ true → t ≡ be8 f body_at → out ≡ sets time 0 (bytes8 t)
        → wrote 256 out ≡ time_call g f time
    unfolding time_given timed pick
    time_done t out s c a b =
        let z : time_of (body_in g h.kind f) ≡ some (be8 f body_at) = timing.time ∙ ap (λ b. pick b (some (be8 f body_at)) none) c in
        ap (wrote 256) (b ∙ ap (λ y. sets time 0 (bytes8 y)) a) ∙ ap (λ y. timed y time) (sym z) ∙ sym (rw (le-ltb _ _ s)) ∙ by_header
