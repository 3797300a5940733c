-- The outcome of a frame handed to a client by a host, from what the code's calls promise. Assumes nothing.
use Rattle.frame.specs.Refusals.{Verdict}
use Prim.Native.Nat.{ℕ, ◌<◌, ◌≤◌}
use mathlib.Core.Path.{◌≡◌, refl, sym, ap, ap₂, ◌∙◌}
use mathlib.Core.List.{List}
use lib.ListN.{length}
use lib.Dec.{ltb}
use Rattle.area.specs.Responses.{Response}
use Rattle.area.specs.Area.{pick}
use Rattle.sha256.specs.Hash.{digest_of}
use Rattle.blocks.specs.declared.Params.{Params}
use Rattle.frame.specs.declared.Party.{Party}
use Rattle.frame.specs.declared.Stamp.{Stamp}
use Rattle.frame.specs.Stamps.{last_client}
use Rattle.client_rules.specs.declared.Answer.{Answer}
use Rattle.client_rules.specs.declared.Answer.TheVariants as A
use Rattle.client_rules.specs.Answers.{Progress, answer_response}
use Rattle.client_rules.specs.declared.Client.{Client}
use Rattle.client_rules.specs.Delivery.{Outcome, delivery}
use Rattle.layout.specs.Fields.{stamp_size}
use Rattle.layout.specs.Clients.{client_size, client_at, client_in}
use Rattle.site.specs.Answers.{test_answer, client_answer}
use Rattle.site.specs.Short.{frame_short, stamp_short}
use Rattle.semduoli.specs.Calls.{wrote, state_after}
use Rattle.semduoli.specs.Handed.{stamp_after, ClientGot, client_got, client_got_of, client_call}
use Rattle.semduoli.proofs.Laws.{enough, short}

-- ---- a read's stamp

-- the answer a is the case b
pub stamp_case : (a b : Answer) (l o : List ℕ) → a ≡ b → o ≡ stamp_after (answer_response b) l → o ≡ stamp_after (answer_response a) l
stamp_case a b l o e p = p ∙ sym (ap (λ x. stamp_after (answer_response x) l) e)

-- every other answer leaves the area
pub stamp_kept : (a : Answer) (l : List ℕ) → ((x : Stamp) → a ≡ A.Value x → ⊥) → l ≡ stamp_after (answer_response a) l
unfolding stamp_after
stamp_kept (A.Sent m) l n = refl
stamp_kept A.Written l n = refl
stamp_kept A.OutOfStamps l n = refl
stamp_kept (A.Value x) l n = absurd (n x refl)
stamp_kept A.Disagreement l n = refl
stamp_kept (A.Refused r) l n = refl

-- ---- a client

module _ (g : Params) (me : ℕ) (from : Party) (value f rows result stamp state out to : List ℕ) where
  -- what the call gives where the record's area is short, where the stamp's is, and where both are long enough
  abbrev without_record : ClientGot
  without_record = client_got (test_answer (frame_short g me last_client f)) rows result stamp state out to

  abbrev without_stamp : ClientGot
  without_stamp = client_got (test_answer (stamp_short g me (client_in state) (length value) f)) rows result stamp state out to

  abbrev whole : ClientGot
  whole = client_got_of g (delivery digest_of g me (client_in state) rows value from f result out to) stamp state

  pub client_short : (x : ℕ) (t : Verdict) → length state < client_size → x ≡ test_answer t → t ≡ frame_short g me last_client f
      → client_got x rows result stamp state out to ≡ client_call g me from value f rows result stamp state out to
  unfolding client_call
  client_short x t h e p =
      ap (λ z. client_got z rows result stamp state out to) (e ∙ ap test_answer p)
      ∙ short (length state) client_size without_record (pick (ltb (length stamp) stamp_size) without_stamp whole) h

  module _ (long : client_size ≤ length state) where
    pub client_stamp_short : (x : ℕ) (t : Verdict) (s : Client) → length stamp < stamp_size → s ≡ client_at state 0 → x ≡ test_answer t
        → t ≡ stamp_short g me s (length value) f → client_got x rows result stamp state out to ≡ client_call g me from value f rows result stamp state out to
    unfolding client_call client_in
    client_stamp_short x t s h k e p =
        ap (λ z. client_got z rows result stamp state out to) (e ∙ ap test_answer (p ∙ ap (λ y. stamp_short g me y (length value) f) k))
        ∙ short (length stamp) stamp_size without_stamp whole h
        ∙ enough (length state) client_size without_record (pick (ltb (length stamp) stamp_size) without_stamp whole) long

    -- a call whose areas for record and stamp are long enough is the delivery
    pub client_whole : stamp_size ≤ length stamp → whole ≡ client_call g me from value f rows result stamp state out to
    unfolding client_call
    client_whole h =
        enough (length stamp) stamp_size without_stamp whole h
        ∙ enough (length state) client_size without_record (pick (ltb (length stamp) stamp_size) without_stamp whole) long

    module _ (w : Party) (s r : Client) (a : Response Progress) (x : ℕ) (ro re sm st o u : List ℕ) where
      pub client_done_lem : stamp_size ≤ length stamp → w ≡ from → s ≡ client_at state 0
          → ◌≡◌ {A = Outcome} (record { answer = a; client = r; area = ro; result = re; out = o; to = u })
          (delivery digest_of g me s rows value w f result out to)
          → sm ≡ stamp_after a stamp
          → wrote x st ≡ wrote (client_answer g.n a) (state_after a r state)
          → client_got x ro re sm st o u ≡ client_call g me from value f rows result stamp state out to
      unfolding client_got_of client_in
      client_done_lem h q p e m k =
          ap₂ (λ y z. client_got z.answer ro re y z.out o u) m k
          ∙ ap (λ z. client_got_of g z stamp state) (e ∙ ap₂ (λ y z. delivery digest_of g me y rows value z f result out to) p q)
          ∙ client_whole h
