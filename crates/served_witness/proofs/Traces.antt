-- A pass over a list of calls that also lists which frames were answered with something other than 10 and 13: so it can be computed that a run is finished.
-- Assumes nothing.
use Prim.Native.Nat.{ℕ, zero, suc, ◌≤◌}
use native.Mathlib.Omega.{arith}
use mathlib.Core.Bool.{Bool, true, false, not, ◌&&◌, ◌||◌}
use mathlib.Core.Path.{◌≡◌, refl, ap, sym, ◌∙◌, subst}
use mathlib.Core.Logic.{◌⊎◌, inl, inr, ⊎_elim}
use mathlib.Core.List.{List, [], ◌∷◌, Memᴰ}
use mathlib.Core.Option.{Option, none, some}
use lib.ListN.{length}
use lib.Dec.{eqb}
use borrow.Author.Tests.{eq-eqb, eqb-true, eqb-false, not-true}
use Rattle.quorum.proofs.Logic.{impossible, and_split, or_split, or_false, and_true}
use Rattle.area.specs.Area.{same}
use Rattle.area.specs.Responses.{refusal_number}
use Rattle.area.proofs.Same.{same_true, same_refl}
use Rattle.frame.specs.declared.Party.{Party}
use Rattle.frame.specs.declared.Party.TheVariants as P
use Rattle.frame.specs.Params.{server_frames, out_room, to_room}
use Rattle.frame.specs.Messages.{Sending, Judged, bad, good}
use Rattle.frame.specs.Frames.{build}
use Rattle.server_rules.specs.Delivery as SD
use Rattle.client_rules.specs.declared.Phase.{Phase}
use Rattle.client_rules.specs.declared.Phase.TheVariants as F
use Rattle.client_rules.specs.Steps as C
use Rattle.client_rules.specs.Delivery as CD
use Rattle.runs.specs.World.{Setup, Call, to_server, to_client, begin_read, begin_write, run, sends}
use Rattle.runs.specs.Events.{At}
use Rattle.runs.specs.Admissible.{Sent, Honest}
use Rattle.served.specs.Finished.{Final, server_answer, client_answer, HandedIn, Answered, Finished, Delivered, Served}
use Rattle.witness.proofs.Images.{Answer, Image, same_party, judged_bad, honest, image, advance, refused_in}
use Rattle.witness.proofs.Depicted.{Exact, party_same, depicts, Logged, logged, is_honest, server_judged, client_judged}

-- ---- what is computed

-- a frame f, named as a's, handed to b
pub record Hand : Type 0 where
  pub from : Party
  pub to : Party
  pub frame : List ℕ

unfoldable pub is_hand : Hand → Party → Party → List ℕ → Bool
is_hand x a b f = same_party x.from a && (same_party x.to b && same x.frame f)

unfoldable pub among_hands : List Hand → Party → Party → List ℕ → Bool
among_hands [] a b f = false
among_hands (x ∷ l) a b f = is_hand x a b f || among_hands l a b f

-- the frame that a call hands in
unfoldable pub hand_of : Call → Option Hand
hand_of (to_server i from f out to) = some (record { from = from; to = P.Server i; frame = f })
hand_of (to_client c from f lent result out to) = some (record { from = from; to = P.Client c; frame = f })
hand_of (begin_read c out to) = none
hand_of (begin_write c v out to) = none

unfoldable pub is_one : Option Hand → Party → Party → List ℕ → Bool
is_one none a b f = false
is_one (some x) a b f = is_hand x a b f

-- whether a call hands in such a frame, and whether one does that a names
unfoldable pub handed_in : List Call → Party → Party → List ℕ → Bool
handed_in [] a b f = false
handed_in (k ∷ ks) a b f = is_one (hand_of k) a b f || handed_in ks a b f

unfoldable pub is_from : Option Hand → Party → Bool
is_from none a = false
is_from (some x) a = same_party x.from a

unfoldable pub speaks : List Call → Party → Bool
speaks [] a = false
speaks (k ∷ ks) a = is_from (hand_of k) a || speaks ks a

-- whether an answer is a step or a number other than 10 and 13
unfoldable pub is_final : Option ℕ → Bool
is_final none = true
is_final (some n) = not (eqb n 10) && not (eqb n 13)

unfoldable pub idle : Phase → Bool
idle F.Idle = true
idle F.Asking = false
idle F.Acking = false
idle F.Reading = false

unfoldable pub with_hand : Bool → Option Hand → List Hand → List Hand
with_hand true (some x) l = x ∷ l
with_hand true none l = l
with_hand false o l = l

-- the pass, and the frames that were answered so
pub record Trace : Type 0 where
  pub seen : Image
  pub closed : List Hand

module _ (Z : Setup) where
  unfoldable pub follow : Trace → Call → Trace
  follow t k = record { seen = advance Z t.seen k; closed = with_hand (is_final (refused_in Z t.seen k)) (hand_of k) t.closed }

  unfoldable pub trace : List Call → Trace
  trace [] = record { seen = image Z []; closed = [] }
  trace (k ∷ ks) = follow (trace ks) k

  -- whether all that a sent to honest parties was answered so, and all that anybody did
  unfoldable pub all_of : Party → List Sending → List Hand → Bool
  all_of a [] l = true
  all_of a (x ∷ s) l = (not (honest Z x.receiver) || among_hands l a x.receiver (build x.says)) && all_of a s l

  unfoldable pub all_answered : List Answer → List Hand → Bool
  all_answered [] l = true
  all_answered (x ∷ s) l = all_of x.by x.sends l && all_answered s l

  -- clients 1 to m are idle
  unfoldable pub all_idle : Image → ℕ → Bool
  all_idle v zero = true
  all_idle v (suc m) = idle (v.clients (suc m)).client.phase && all_idle v m

-- ---- so it is

hand_is : (x : Hand) (a b : Party) (f : List ℕ) → is_hand x a b f ≡ true → (b ≡ x.to) × (a ≡ x.from) × (f ≡ x.frame)
unfolding is_hand
hand_is x a b f e =
    let w = and_split (same_party x.from a) _ e in
    let y = and_split (same_party x.to b) _ w.1 in
    (sym (party_same x.to b y.0), sym (party_same x.from a w.0), sym (same_true x.frame f y.1))

party_refl : (a : Party) → same_party a a ≡ true
unfolding same_party
party_refl (P.Server i) = eq-eqb i i refl
party_refl (P.Client c) = eq-eqb c c refl

is_hand_lem : (x : Hand) (a b : Party) (f : List ℕ) → b ≡ x.to → a ≡ x.from → f ≡ x.frame → is_hand x a b f ≡ true
unfolding is_hand
is_hand_lem x a b f p q r =
    (λ i. is_hand x (q i) (p i) (r i)) ∙ and_true _ _ (party_refl x.from) (and_true _ _ (party_refl x.to) (same_refl x.frame))

final_is : (o : Option ℕ) → is_final o ≡ true → Final o
unfolding is_final
final_is none e = tt
final_is (some n) e =
    let w = and_split (not (eqb n 10)) _ e in
    (eqb-false n 10 (not-true _ w.0), eqb-false n 13 (not-true _ w.1))

idle_is : (p : Phase) → idle p ≡ true → p ≡ F.Idle
unfolding idle
idle_is F.Idle e = refl
idle_is F.Asking e = impossible (cc)
idle_is F.Acking e = impossible (cc)
idle_is F.Reading e = impossible (cc)

module _ (Z : Setup) (G : Exact Z) where
  open Z use {H, g}

  pub trace_seen : (ks : List Call) → (trace Z ks).seen ≡ image Z ks
  unfolding trace follow image
  trace_seen [] = refl
  trace_seen (k ∷ ks) = ap (λ v. advance Z v k) (trace_seen ks)

  -- ---- answers

  reply_bad : (i : ℕ) (j : Judged) (c : ℕ) → refusal_number (SD.reply_of H g i j c) ≡ judged_bad j
  unfolding SD.reply_of judged_bad
  reply_bad i (bad r) c = refl
  reply_bad i (good m) c = refl

  answer_bad : (j : Judged) (x : C.Effect) → refusal_number (CD.answer_of j x) ≡ judged_bad j
  unfolding CD.answer_of judged_bad
  answer_bad (bad r) x = refl
  answer_bad (good m) x = refl

  pub server_answers : (ks : List Call) (i : ℕ) (from : Party) (f out to : List ℕ)
      → server_answer Z (run Z ks) i from f out to ≡ refused_in Z (image Z ks) (to_server i from f out to)
  unfolding refused_in SD.delivery SD.outcome_of
  server_answers ks i from f out to = reply_bad i _ _ ∙ ap judged_bad (server_judged Z G ks i from f out to)

  pub client_answers : (ks : List Call) (c : ℕ) (from : Party) (f lent result out to : List ℕ)
      → client_answer Z (run Z ks) c ((run Z ks).clients c).area from f lent result out to ≡ refused_in Z (image Z ks) (to_client c from f lent result out to)
  unfolding refused_in CD.delivery CD.outcome_of
  client_answers ks c from f lent result out to = answer_bad _ _ ∙ ap judged_bad (client_judged Z G ks c from f lent result out to)

  -- ---- frames that were answered

  answered_by_lem : (ks : List Call) (k : Call) (a b : Party) (f : List ℕ) → is_final (refused_in Z (image Z ks) k) ≡ true → is_one (hand_of k) a b f ≡ true
      → Answered Z a b f ks k
  unfolding is_one hand_of
  answered_by_lem ks (to_server i from f' out to) a b f e h =
      let w = hand_is _ a b f h in
      (w.0, w.1, w.2, subst Final (sym (server_answers ks i from f' out to)) (final_is _ e))
  answered_by_lem ks (to_client c from f' lent result out to) a b f e h =
      let w = hand_is _ a b f h in
      (w.0, w.1, w.2, subst Final (sym (client_answers ks c from f' lent result out to)) (final_is _ e))
  answered_by_lem ks (begin_read c out to) a b f e h = impossible (cc h)
  answered_by_lem ks (begin_write c v out to) a b f e h = impossible (cc h)

  with_hand_lem : (t : Bool) (o : Option Hand) (l : List Hand) (a b : Party) (f : List ℕ) → among_hands (with_hand t o l) a b f ≡ true
      → ((t ≡ true) × (is_one o a b f ≡ true)) ⊎ (among_hands l a b f ≡ true)
  unfolding with_hand among_hands is_one
  with_hand_lem true (some x) l a b f e = ⊎_elim (λ u. inl (refl, u)) (λ u. inr u) (or_split (is_hand x a b f) (among_hands l a b f) e)
  with_hand_lem true none l a b f e = inr e
  with_hand_lem false o l a b f e = inr e

  closed_at : (ks : List Call) (a b : Party) (f : List ℕ) → among_hands (trace Z ks).closed a b f ≡ true → (p : ℕ) × At (Answered Z a b f) ks p
  unfolding trace follow among_hands
  closed_at [] a b f e = impossible (cc e)
  closed_at (k ∷ ks) a b f e = ⊎_elim
      (λ u. (length ks, inl (refl, answered_by_lem ks k a b f (ap (λ v. is_final (refused_in Z v k)) (sym (trace_seen ks)) ∙ u.0) u.1)))
      (λ u. let w = closed_at ks a b f u in (w.0, inr w.1))
      (with_hand_lem (is_final (refused_in Z (trace Z ks).seen k)) (hand_of k) (trace Z ks).closed a b f e)

  answered_handed : (a b : Party) (f : List ℕ) (ls : List Call) (p : ℕ) → At (Answered Z a b f) ls p → At (HandedIn Z a b f) ls p
  answered_handed a b f [] p w = w
  answered_handed a b f (to_server i from f' out to ∷ ls) p (inl w) = inl (w.0, (w.1.0, w.1.1, w.1.2))
  answered_handed a b f (to_client c from f' lent result out to ∷ ls) p (inl w) = inl (w.0, (w.1.0, w.1.1, w.1.2))
  answered_handed a b f (begin_read c out to ∷ ls) p (inl w) = inl w
  answered_handed a b f (begin_write c v out to ∷ ls) p (inl w) = inl w
  answered_handed a b f (k ∷ ls) p (inr w) = inr (answered_handed a b f ls p w)

  -- ---- all of them

  all_of_lem : (a : Party) (s : List Sending) (l : List Hand) → all_of Z a s l ≡ true → (x : Sending) → Memᴰ x s → Honest Z x.receiver
      → among_hands l a x.receiver (build x.says) ≡ true
  unfolding all_of
  all_of_lem a [] l e x u h = elim u [ ]
  all_of_lem a (y ∷ s) l e x (Memᴰ.head q) h =
      let w = and_split (not (honest Z y.receiver) || among_hands l a y.receiver (build y.says)) _ e in
      subst (λ z. among_hands l a z.receiver (build z.says) ≡ true) (sym q)
      (⊎_elim
      (λ u. impossible (cc (is_honest Z G y.receiver (subst (λ z. Honest Z z.receiver) q h), not-true (honest Z y.receiver) u)))
      (λ u. u)
      (or_split (not (honest Z y.receiver)) _ w.0))
  all_of_lem a (y ∷ s) l e x (Memᴰ.tail q) h =
      all_of_lem a s l (and_split (not (honest Z y.receiver) || among_hands l a y.receiver (build y.says)) (all_of Z a s l) e).1 x q h

  all_answered_lem : (ks : List Call) (s : List Answer) → Logged Z G ks s → (l : List Hand) → all_answered Z s l ≡ true → (a b : Party) (f : List ℕ) → Honest Z b
      → Sent Z ks a b f → among_hands l a b f ≡ true
  unfolding all_answered
  all_answered_lem [] s d l e a b f h u = absurd u
  all_answered_lem (k ∷ ks) [] d l e a b f h u = absurd d
  all_answered_lem (k ∷ ks) (x ∷ s) d l e a b f h (inl u) =
      let w = and_split (all_of Z x.by x.sends l) _ e in
      let r = all_of_lem x.by x.sends l w.0 u.1 (subst (Memᴰ u.1) d.1 u.2) (subst (Honest Z) (sym u.3) h) in
      subst (λ z. among_hands l z b f ≡ true) (sym d.0 ∙ u.0)
      (subst (λ z. among_hands l x.by z f ≡ true) u.3
      (subst (λ z. among_hands l x.by u.1.receiver z ≡ true) u.4 r))
  all_answered_lem (k ∷ ks) (x ∷ s) d l e a b f h (inr u) =
      let w = and_split (all_of Z x.by x.sends l) _ e in
      all_answered_lem ks s d.2 l w.1 a b f h u

  -- what the pass finds answered throughout is finished, to the letter too
  module _ (ks : List Call) (e : all_answered Z (trace Z ks).seen.log (trace Z ks).closed ≡ true) where
    answered : (a b : Party) (f : List ℕ) → Honest Z b → Sent Z ks a b f → (p : ℕ) × At (Answered Z a b f) ks p
    answered a b f h u = closed_at ks a b f
        (all_answered_lem ks (image Z ks).log (logged Z G ks) (trace Z ks).closed
        (ap (λ v. all_answered Z v.log (trace Z ks).closed) (sym (trace_seen ks)) ∙ e) a b f h u)

    pub finished_by : Finished Z ks
    finished_by a b f h h' u = inl (answered a b f h' u)

    pub delivered_by : Delivered Z ks
    delivered_by = record {
      handed = λ a b f h h' u. let w = answered a b f h' u in (w.0, answered_handed a b f ks w.0 w.1);
      no_more = λ a b f h h' u v. let w = answered a b f h' u in absurd (v w.0 w.1);
    }

  -- ---- who is idle

  idle_at : (v : Image) (m c : ℕ) → all_idle Z v m ≡ true → 1 ≤ c → c ≤ m → idle (v.clients c).client.phase ≡ true
  unfolding all_idle
  idle_at v zero c e lo hi = absurd (omega (arith, lo, hi))
  idle_at v (suc m) c e lo hi =
      let w = and_split (idle (v.clients (suc m)).client.phase) (all_idle Z v m) e in
      go (λ ne. idle_at v m c w.1 lo (omega (arith, ne, hi))) w.0 (eqb c (suc m)) refl
    where
      go : ((c ≡ suc m → ⊥) → idle (v.clients c).client.phase ≡ true) → idle (v.clients (suc m)).client.phase ≡ true
          → (b : Bool) → eqb c (suc m) ≡ b → idle (v.clients c).client.phase ≡ true
      go below last true h = subst (λ d. idle (v.clients d).client.phase ≡ true) (sym (eqb-true c (suc m) h)) last
      go below last false h = below (eqb-false c (suc m) h)

  pub served_by_lem : (ks : List Call) → all_idle Z (trace Z ks).seen 8 ≡ true → Served Z ks
  served_by_lem ks e c h =
      ap (λ s. s.phase) ((depicts Z G ks).clients c).client
      ∙ idle_is _ (ap (λ v. idle (v.clients c).client.phase) (sym (trace_seen ks)) ∙ idle_at (trace Z ks).seen 8 c e h.0.0 h.0.1)

  -- ---- frames that were not handed in

  not_handed : (k : Call) (ks : List Call) (a b : Party) (f : List ℕ) → is_one (hand_of k) a b f ≡ false → HandedIn Z a b f ks k → ⊥
  unfolding is_one hand_of
  not_handed (to_server i from f' out to) ks a b f e w =
      impossible (cc (e, is_hand_lem (record { from = from; to = P.Server i; frame = f' }) a b f w.0 w.1 w.2))
  not_handed (to_client c from f' lent result out to) ks a b f e w =
      impossible (cc (e, is_hand_lem (record { from = from; to = P.Client c; frame = f' }) a b f w.0 w.1 w.2))
  not_handed (begin_read c out to) ks a b f e w = w
  not_handed (begin_write c v out to) ks a b f e w = w

  pub never_handed : (ks : List Call) (a b : Party) (f : List ℕ) → handed_in ks a b f ≡ false → (p : ℕ) → At (HandedIn Z a b f) ks p → ⊥
  unfolding handed_in
  never_handed [] a b f e p w = w
  never_handed (k ∷ ks) a b f e p (inl w) = not_handed k ks a b f (or_false (is_one (hand_of k) a b f) (handed_in ks a b f) e).0 w.1
  never_handed (k ∷ ks) a b f e p (inr w) = never_handed ks a b f (or_false (is_one (hand_of k) a b f) (handed_in ks a b f) e).1 p w

  pub never_speaks : (ks : List Call) (a : Party) → speaks ks a ≡ false → (b : Party) (f : List ℕ) (p : ℕ) → At (HandedIn Z a b f) ks p → ⊥
  unfolding speaks is_from hand_of
  never_speaks [] a e b f p w = w
  never_speaks (to_server i from f' out to ∷ ks) a e b f p (inl w) =
      impossible (cc ((or_false (same_party from a) (speaks ks a) e).0, ap (same_party from) w.1.1 ∙ party_refl from))
  never_speaks (to_client c from f' lent result out to ∷ ks) a e b f p (inl w) =
      impossible (cc ((or_false (same_party from a) (speaks ks a) e).0, ap (same_party from) w.1.1 ∙ party_refl from))
  never_speaks (begin_read c out to ∷ ks) a e b f p (inl w) = w.1
  never_speaks (begin_write c v out to ∷ ks) a e b f p (inl w) = w.1
  never_speaks (k ∷ ks) a e b f p (inr w) = never_speaks ks a (or_false (is_from (hand_of k) a) (speaks ks a) e).1 b f p w

  -- a frame that an honest party sent to an honest server, that was not handed in and would be taken: the run is not finished
  pub unfinished_by : (ks : List Call) (a : Party) (i : ℕ) (f out to : List ℕ) → Honest Z a → Honest Z (P.Server i) → Sent Z ks a (P.Server i) f
      → ((p : ℕ) → At (HandedIn Z a (P.Server i) f) ks p → ⊥)
      → out_room g (server_frames g) ≤ length out → to_room (server_frames g) ≤ length to
      → refused_in Z (image Z ks) (to_server i a f out to) ≡ none → Finished Z ks → ⊥
  unfinished_by ks a i f out to h h' u never wide long e F = ⊎_elim
      (λ w. never w.0 (answered_handed a (P.Server i) f ks w.0 w.1))
      (λ w. let r = w out to wide long in impossible (cc (sym r.1 ∙ server_answers ks i a f out to ∙ e)))
      (F a (P.Server i) f h h' u)
