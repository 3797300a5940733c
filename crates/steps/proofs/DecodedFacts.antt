-- What a server completes or accepts in a step has the digests of a value that it decodes there, or was complete before. Assumes nothing.
use Rattle.frame.specs.Refusals.{fine}
use Prim.Native.Nat.{ℕ}
use native.Mathlib.Decide.{ℕ_discrete}
use mathlib.Core.Bool.{true}
use mathlib.Core.Path.{◌≡◌, refl, ap, sym, ◌∙◌, subst}
use mathlib.Core.Logic.{◌⊎◌, inl, ⊎_elim}
use mathlib.Core.Option.{some}
use mathlib.Core.List.Memᴰ
use mathlib.Core.List.{List, [], Memᴰ}
use lib.ListN.{get_or}
use Rattle.quorum.specs.Quorum.{Among}
use Rattle.quorum.proofs.Logic.{impossible}
use Rattle.blocks.specs.declared.Params.{Params}
use Rattle.frame.specs.declared.Party.{Party}
use Rattle.frame.specs.Messages.{Offer, Body, Message, number_in}
use Rattle.frame.specs.Params.{Bounded}
use Rattle.server_rules.specs.declared.Server.{Server}
use Rattle.server_rules.specs.State.{no_slot, slot_of, block_view}
use Rattle.server_rules.specs.Steps as S
use Rattle.server_rules.specs.Tests as ST
use Rattle.server_rules.proofs.Decoding.{Has}
use Rattle.server_rules.proofs.Shapes.{offer_of, Counted, Shape, idle, answers, notes, ends, settles, hears, shape_of}
use Rattle.server_rules.proofs.Views.{shapes}
use Rattle.server_rules.proofs.Passing.{SizedIn, test_split, counted_from}
use Rattle.server_rules.proofs.Within.{slot_within}
use Rattle.server_rules.proofs.Counting.{counted_has}
use Rattle.steps.proofs.ServerFits.{ServerShape}
use Rattle.steps.proofs.CastFacts.{part_of, Behind, behind, report_slots}

pub record DecodedFacts (H : List ℕ → List ℕ) (g : Params) (s : Server) (a : List ℕ) (r : S.Effect) : Type 0 where
  pub done : (c : ℕ) → Among 8 c → (y : Offer) → (block_view g r.area c (slot_of r.server c)).done ≡ some y
      → ((block_view g a c (slot_of s c)).done ≡ some y) ⊎ Has H g r.decodes y.entry.digests
  pub took : (k : S.Write) → Memᴰ k r.accepted
      → Among 8 k.client × (((block_view g a k.client (slot_of s k.client)).done ≡ some (offer_of k)) ⊎ Has H g r.decodes k.entry.digests)

module _ (H : List ℕ → List ℕ) (g : Params) (L : Bounded g) (me : ℕ) (s : Server) (a initial : List ℕ) (F : ServerShape s a) where
  idle_decoded : (r : S.Effect) → r.server.slots ≡ s.slots → r.area ≡ a → r.accepted ≡ [] → DecodedFacts H g s a r
  idle_decoded r e f n = record {
    done = λ c is y u. inl (sym (λ i. (block_view g (f i) c (get_or (e i) c no_slot)).done) ∙ u);
    took = λ k u. absurd (Memᴰ.not-nil (subst (Memᴰ k) n u));
  }

  -- client d's part after the count of a frame of client c
  counted_decoded : (from : Party) (c : ℕ) → Among 8 c → {b : Body} → SizedIn g b → ST.sender_right g from c b ≡ true
      → {p : S.Counting} → Counted H g me s a initial (number_in from) c b p → {r : S.Effect} → Behind H g s a c p r
      → (d : ℕ) → Among 8 d → (y : Offer) → (part_of g s c p d).done ≡ some y
      → ((block_view g a d (slot_of s d)).done ≡ some y) ⊎ Has H g p.decodes y.entry.digests
  counted_decoded from c is Q h {p} k T d i y u = go (ℕ_discrete d c)
    where
      go : Dec (d ≡ c) → ((block_view g a d (slot_of s d)).done ≡ some y) ⊎ Has H g p.decodes y.entry.digests
      go (no ne) = inl (sym (ap (λ v. v.done) (T.there d i ne)) ∙ u)
      go (yes z) = subst (λ d. ((block_view g a d (slot_of s d)).done ≡ some y) ⊎ Has H g p.decodes y.entry.digests) (sym z)
          (counted_has H g L me s a initial F.room (number_in from) (counted_from g from c is L.servers_high k h) c is
          (slot_within shapes F.within c is.1) k Q y
          (sym (ap (λ v. v.done) T.here) ∙ subst (λ d. (part_of g s c p d).done ≡ some y) z u))

  -- each frame that passes the tests
  pub decoded_facts : (from : Party) (m : Message) → Among 8 m.client → SizedIn g m.body → ST.message_test H g me s from m ≡ fine
      → DecodedFacts H g s a (S.effect H g me s a initial from m)
  decoded_facts from m is Q e = let (h, o) = test_split H g me s from m e in go (shape_of H g me s a initial from m) Q h o
    where
      go : {b : Body} {r : S.Effect} → Shape H g me s a initial (number_in from) m.client m.sequence b r → SizedIn g b
          → ST.sender_right g from m.client b ≡ true
          → ST.order_test H g me s (number_in from) m.client m.sequence b ≡ fine → DecodedFacts H g s a r
      go (idle b) Q h o = idle_decoded _ refl refl refl
      go answers Q h o = idle_decoded _ refl refl refl
      go notes Q h o = idle_decoded _ refl refl refl
      go ends Q h o = idle_decoded _ refl refl refl
      go (settles b p k f) Q h o =
          let T = behind H g L me s a initial F from m.client m.sequence is b Q h o k f in record {
            done = λ d i y u. ⊎_elim
                (λ t. counted_decoded from m.client is Q h k T d i y (sym (ap (λ v. v.done) (t.1 i)) ∙ u))
                (λ t. impossible (cc (ap (λ v. v.done) t.1, u)))
                (T.stays d);
            took = λ w u. let (i, e, d) = T.took w u in (i, counted_decoded from m.client is Q h k T w.client i (offer_of w) d);
          }
      go (hears T f) Q h o =
          let X = report_slots H g L s a F (number_in from) T f in record {
            done = λ d i y u. ⊎_elim
                (λ t. inl (sym (ap (λ v. v.done) (t.1 i)) ∙ u))
                (λ t. impossible (cc (ap (λ v. v.done) t.1, u)))
                (X.this d);
            took = λ w u. let (i, e, d) = X.took w u in (i, inl d);
          }
