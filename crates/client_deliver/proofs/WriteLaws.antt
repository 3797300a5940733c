-- The steps of a write: one law for each return of the code. Assumes nothing.
use Prim.Native.Nat.{ℕ, ◌≤◌, ◌<◌}
use native.Mathlib.Nat.{zero-add}
use mathlib.Core.Path.{◌≡◌, refl, ap, sym, ◌∙◌}
use mathlib.Core.Bool.{Bool, true, false, not}
use mathlib.Core.List.{List}
use lib.ListN.{length, set, replicate}
use lib.Seq.{sets}
use lib.Dec.{ltb}
use borrow.Author.Tests.{lt-ltb, le-ltb, not-true, not-false}
use Rattle.sha256.specs.Hash.{digest_of}
use Rattle.area.specs.Responses.{gives}
use Rattle.blocks.specs.declared.Params.{Params}
use Rattle.frame.specs.declared.Place.{Place}
use Rattle.frame.specs.Stamps.{last_time}
use Rattle.frame.specs.Messages.{to_all}
use Rattle.frame.specs.Outbox.{frames, receivers, Outbox, outbox, first_place, sent}
use Rattle.client_rules.specs.declared.Client.{Client}
use Rattle.client_rules.specs.declared.Phase.{Phase}
use Rattle.client_rules.specs.declared.Phase.TheVariants as F
use Rattle.client_rules.specs.declared.Answer.TheVariants as Y
use Rattle.client_rules.specs.State.{asking, writing, in_phase, shut, with_report}
use Rattle.client_rules.specs.Steps.{quorate, gathered, largest_counted, send_below, gather_by, gather, on_stamp, report_by, on_report, end_by, on_ack}
use Rattle.client_rules.specs.Answers.{goes_on, write_ends, write_closes}
use Rattle.client_rules.specs.Delivery.{Outcome, outcome, progress_by, result_of}
use Rattle.client.specs.Stages.{stepped}
use Rattle.client_deliver.proofs.OwnBlocks.{own}

-- a write is open in its first part
pub asking_writes : (p : Phase) → asking p ≡ true → writing p ≡ true
asking_writes F.Idle e = e
asking_writes F.Asking e = refl
asking_writes F.Acking e = refl
asking_writes F.Reading e = e

module _ (g : Params) (me : ℕ) (s : Client) (v a l out to : List ℕ) where
  -- ---- n - t stamps count

  abbrev top : ℕ
  top = largest_counted g s

  pub out_of_stamps_lem : (T : ℕ) (y : Client) → T ≡ top → last_time ≤ T → y ≡ shut s
      → outcome (record { answer = Y.OutOfStamps; client = y }) a l out to ≡ stepped (gather_by digest_of g me true s a v) l out to
  unfolding stepped gather_by send_below progress_by result_of frames receivers
  out_of_stamps_lem T y e h p =
      let d : ltb top last_time ≡ false = ap (λ z. ltb z last_time) (sym e) ∙ le-ltb T last_time h in
      let c : outcome (record { answer = Y.OutOfStamps; client = y }) a l out to ≡ stepped (send_below digest_of g me false s a v top) l out to =
      λ i. record { answer = gives write_closes; client = p i; area = a; result = l; out = out; to = to } in
      c ∙ ap (λ b. stepped (send_below digest_of g me b s a v top) l out to) (sym d)

  pub write_sent : (T : ℕ) (y : Client) (q : Place) (o t : List ℕ) → T ≡ top → T < last_time → y ≡ in_phase s F.Acking (replicate 11 false) s.times
      → outbox o t q ≡ sent (outbox out to first_place) (to_all g (own g v (record { client = me; sequence = s.writes; time = T })))
      → outcome (record { answer = Y.Sent q.count; client = y }) a l o t ≡ stepped (gather_by digest_of g me true s a v) l out to
  unfolding stepped gather_by send_below progress_by result_of sent
  write_sent T y q o t e h p w =
      let d : ltb T last_time ≡ true = lt-ltb T last_time h in
      let xs = to_all g (own g v (record { client = me; sequence = s.writes; time = T })) in
      let n : q.count ≡ length xs = ap (λ (z : Outbox). z.place.count) w ∙ zero-add (length xs) in
      let u : o ≡ sets out 0 (frames xs) = ap (λ (z : Outbox). z.out) w in
      let r : t ≡ sets to 0 (receivers xs) = ap (λ (z : Outbox). z.to) w in
      let c : outcome (record { answer = Y.Sent q.count; client = y }) a l o t ≡ stepped (send_below digest_of g me true s a v T) l out to =
      λ i. record { answer = gives (goes_on (n i)); client = p i; area = a; result = l; out = u i; to = r i } in
      c ∙ ap (λ b. stepped (send_below digest_of g me b s a v T) l out to) (sym d)
      ∙ ap (λ z. stepped (send_below digest_of g me (ltb z last_time) s a v z) l out to) e

  -- ---- whether so many count, of which b is the test's value

  module _ (b : Bool) (q : b ≡ gathered g s) where
    pub gather_waits : not b ≡ true → outcome (record { answer = Y.Sent 0; client = s }) a l out to ≡ stepped (gather digest_of g me s a v) l out to
    unfolding stepped gather_by progress_by result_of frames receivers
    gather_waits h =
        let d : gathered g s ≡ false = sym q ∙ not-true b h in
        ap (λ z. stepped (gather_by digest_of g me z s a v) l out to) (sym d)

    pub gather_goes : (r : Outcome) → not b ≡ false → r ≡ stepped (gather_by digest_of g me true s a v) l out to
        → r ≡ stepped (gather digest_of g me s a v) l out to
    gather_goes r h e =
        let d : gathered g s ≡ true = sym q ∙ not-false b h in
        e ∙ ap (λ z. stepped (gather_by digest_of g me z s a v) l out to) (sym d)

  -- ---- a stamp or a report of time T from server j, which was stored

  module _ (i j T U : ℕ) (x y : Client) (at : i ≡ j) (time : U ≡ T) (k : x ≡ with_report s i U) where
    stored_is : x ≡ with_report s j T
    stored_is = k ∙ (λ z. with_report s (at z) (time z))

    pub stamp_gathers : y ≡ in_phase x F.Asking (set s.heard i true) (set s.times i U) → (r : Outcome)
        → r ≡ stepped (gather digest_of g me y a v) l out to → r ≡ stepped (on_stamp digest_of g me s a v j T) l out to
    unfolding on_stamp
    stamp_gathers p r e =
        let m : y ≡ in_phase (with_report s j T) F.Asking (set s.heard j true) (set s.times j T) =
        p ∙ (λ z. in_phase (stored_is z) F.Asking (set s.heard (at z) true) (set s.times (at z) (time z))) in
        e ∙ ap (λ z. stepped (gather digest_of g me z a v) l out to) m

    module _ (b : Bool) (q : b ≡ asking s.phase) where
      pub report_kept : not b ≡ true → outcome (record { answer = Y.Sent 0; client = x }) a l out to ≡ stepped (on_report digest_of g me s a v j T) l out to
      unfolding stepped on_report report_by progress_by result_of frames receivers
      report_kept h =
          let d : asking s.phase ≡ false = sym q ∙ not-true b h in
          let m = stored_is in
          let c : outcome (record { answer = Y.Sent 0; client = x }) a l out to ≡ stepped (report_by digest_of g me false (with_report s j T) a v) l out to =
          λ z. record { answer = gives (goes_on 0); client = m z; area = a; result = l; out = out; to = to } in
          c ∙ ap (λ z. stepped (report_by digest_of g me z (with_report s j T) a v) l out to) (sym d)

      pub report_gathers : (r : Outcome) → not b ≡ false → r ≡ stepped (gather digest_of g me x a v) l out to
          → r ≡ stepped (on_report digest_of g me s a v j T) l out to
      unfolding on_report report_by
      report_gathers r h e =
          let d : asking s.phase ≡ true = sym q ∙ not-false b h in
          e ∙ ap (λ z. stepped (gather digest_of g me z a v) l out to) stored_is
          ∙ ap (λ z. stepped (report_by digest_of g me z (with_report s j T) a v) l out to) (sym d)

-- ---- an ack from server j, which was marked

module _ (g : Params) (me : ℕ) (s : Client) (a l out to : List ℕ) (i j : ℕ) (b : Bool) (y : Client) (at : i ≡ j)
    (q : b ≡ quorate g (set s.heard i true)) where
  pub ack_waits : y ≡ in_phase s F.Acking (set s.heard i true) s.times → not b ≡ true
      → outcome (record { answer = Y.Sent 0; client = y }) a l out to ≡ stepped (on_ack digest_of g me s a j) l out to
  unfolding stepped on_ack end_by progress_by result_of frames receivers
  ack_waits p h =
      let d : quorate g (set s.heard j true) ≡ false = ap (λ z. quorate g (set s.heard z true)) (sym at) ∙ sym q ∙ not-true b h in
      let m = p ∙ ap (λ z. in_phase s F.Acking (set s.heard z true) s.times) at in
      let c : outcome (record { answer = Y.Sent 0; client = y }) a l out to ≡ stepped (end_by digest_of g me false s a (set s.heard j true)) l out to =
      λ z. record { answer = gives (goes_on 0); client = m z; area = a; result = l; out = out; to = to } in
      c ∙ ap (λ z. stepped (end_by digest_of g me z s a (set s.heard j true)) l out to) (sym d)

  pub ack_ends : y ≡ in_phase s F.Idle (set s.heard i true) s.times → not b ≡ false
      → outcome (record { answer = Y.Written; client = y }) a l out to ≡ stepped (on_ack digest_of g me s a j) l out to
  unfolding stepped on_ack end_by progress_by result_of frames receivers
  ack_ends p h =
      let d : quorate g (set s.heard j true) ≡ true = ap (λ z. quorate g (set s.heard z true)) (sym at) ∙ sym q ∙ not-false b h in
      let m = p ∙ ap (λ z. in_phase s F.Idle (set s.heard z true) s.times) at in
      let c : outcome (record { answer = Y.Written; client = y }) a l out to ≡ stepped (end_by digest_of g me true s a (set s.heard j true)) l out to =
      λ z. record { answer = gives write_ends; client = m z; area = a; result = l; out = out; to = to } in
      c ∙ ap (λ z. stepped (end_by digest_of g me z s a (set s.heard j true)) l out to) (sym d)
