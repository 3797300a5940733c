-- A step with enough room does not depend on the areas that are lent to it: reply, server, state area and what is sent are those of a playback's step.
-- Assumes nothing.
use Rattle.std.specs.Prelude.{Ok, Err}
use Rattle.frame.specs.Refusals.{Verdict, fine}
use Prim.Native.Nat.{ℕ}
use native.Mathlib.Omega.{arith}
use mathlib.Core.Path.{◌≡◌, refl, sym, ap, ◌∙◌}
use mathlib.Core.List.{List}
use lib.ListN.{length, length-replicate}
use lib.Seq.{sets, length-sets}
use lib.Dec.{ltb}
use borrow.Author.Tests.{le-ltb}
use Rattle.area.specs.Area.{pick}
use Rattle.blocks.specs.declared.Params.{Params}
use Rattle.frame.specs.declared.Refusal.TheVariants as R
use Rattle.frame.specs.Params.{width, server_frames, out_room, to_room, params_test}
use Rattle.frame.specs.Messages.{Judged, bad, good, after}
use Rattle.frame.specs.Frames.{opened}
use Rattle.frame.specs.Outbox.{frames, receivers}
use Rattle.frame.specs.Chunks.{area_bytes}
use Rattle.group_rules.specs.Coded.{block_at}
use Rattle.server_rules.specs.declared.Server.{Server}
use Rattle.server_rules.specs.Tests as ST
use Rattle.server_rules.specs.Steps as S
use Rattle.server_rules.specs.Delivery as SD
use Rattle.entries.specs.Entries.{TraceEntry}
use Rattle.playback.specs.Playback.{spare_out, spare_to, report_of, server_after, area_after}
use Rattle.playback.specs.Theorem.{Enough}

-- ---- the test

-- refusal 10 without the tests of the out and to areas
abbrev areas_test : Params → ℕ → ℕ → Verdict
areas_test g area initial = pick (ltb area area_bytes) (Err R.Room) (pick (ltb initial (width g)) (Err R.Room) fine)

roomy : (g : Params) (area initial : ℕ) (out to : List ℕ) → Enough g out to → ST.room_test g area initial (length out) (length to) ≡ areas_test g area initial
unfolding ST.room_test pick
roomy g area initial out to E = rw (le-ltb _ _ E.out_room_lem, le-ltb _ _ E.to_room_lem)

pub spare_enough : (g : Params) → Enough g (spare_out g) (spare_to g)
unfolding spare_out spare_to
spare_enough g = record {
  out_room_lem = omega (arith, length-replicate {A = ℕ} (out_room g (server_frames g)) 0);
  to_room_lem = omega (arith, length-replicate {A = ℕ} (to_room (server_frames g)) 0);
}

-- ---- the step

module _ (H : List ℕ → List ℕ) (g : Params) (me : ℕ) (initial : List ℕ) (s : Server) (a : List ℕ) (e : TraceEntry) where
  abbrev judged : List ℕ → List ℕ → Judged
  judged out to = ST.judge H g me s a initial e.sender e.frame out to

  same_judged : (out to : List ℕ) → Enough g out to → judged out to ≡ judged (spare_out g) (spare_to g)
  unfolding ST.judge
  same_judged out to E =
      ap (λ (v : Verdict). after (params_test g me g.n) (ST.judge_opened H g me (opened g e.frame) v s e.sender e.frame))
      (roomy g (length a) (length initial) out to E ∙ sym (roomy g (length a) (length initial) (spare_out g) (spare_to g) (spare_enough g)))

  -- the reply says how many frames were sent
  counted : (j : Judged) → SD.reply_count (SD.reply_of H g me j (length (SD.effect_by H g me j s a initial e.sender).sends))
      ≡ length (SD.effect_by H g me j s a initial e.sender).sends
  unfolding SD.reply_of SD.effect_by SD.reply_count
  counted (bad r) = refl
  counted (good m) = refl

  pub count_is : SD.reply_count (report_of H g me initial s a e).reply ≡ length (report_of H g me initial s a e).sends
  unfolding report_of SD.delivery SD.outcome_of SD.delivered
  count_is = counted (judged (spare_out g) (spare_to g))

  module _ (out to : List ℕ) (E : Enough g out to) where
    abbrev done : SD.Outcome
    done = SD.delivery H g me s a initial e.sender e.frame out to

    abbrev effect : Judged → S.Effect
    effect j = SD.effect_by H g me j s a initial e.sender

    pub step_reply : done.reply ≡ (report_of H g me initial s a e).reply
    unfolding report_of SD.delivery SD.outcome_of SD.delivered
    step_reply = ap (λ (j : Judged). SD.reply_of H g me j (length (effect j).sends)) (same_judged out to E)

    pub step_server : done.server ≡ server_after H g me initial s a e
    unfolding server_after SD.delivery SD.outcome_of SD.delivered
    step_server = ap (λ (j : Judged). (effect j).server) (same_judged out to E)

    pub step_area : done.area ≡ area_after H g me initial s a e
    unfolding area_after SD.delivery SD.outcome_of SD.delivered
    step_area = ap (λ (j : Judged). (effect j).area) (same_judged out to E)

    pub step_out : done.out ≡ sets out 0 (frames (report_of H g me initial s a e).sends)
    unfolding report_of SD.delivery SD.outcome_of SD.delivered
    step_out = ap (λ (j : Judged). sets out 0 (frames (effect j).sends)) (same_judged out to E)

    pub step_to : done.to ≡ sets to 0 (receivers (report_of H g me initial s a e).sends)
    unfolding report_of SD.delivery SD.outcome_of SD.delivered
    step_to = ap (λ (j : Judged). sets to 0 (receivers (effect j).sends)) (same_judged out to E)

-- ---- a fresh server

pub same_initial : (H : List ℕ → List ℕ) (g : Params) (me : ℕ) (v a initial : List ℕ) → length (SD.construction H g me v a initial).initial ≡ length initial
unfolding SD.construction SD.construct_by
same_initial H g me v a initial = go (SD.construct_test H g me v (length a) (length initial))
  where
    go : (t : Verdict) → length (SD.construct_by H g me t v a initial).initial ≡ length initial
    go (Err r) = refl
    go (Ok _) = length-sets initial 0 (block_at H g v me)
