-- The stage of a counted echo or ready: readies, the completed entry, and their marks. Assumes nothing.
use Prim.Native.Nat.{ℕ, ◌+◌}
use mathlib.Core.Path.{◌≡◌, refl, ap, sym, ◌∙◌}
use mathlib.Core.Bool.{Bool, true, false, not, ◌&&◌, ◌||◌}
use mathlib.Core.List.{List, []}
use lib.Dec.{leb}
use Rattle.area.specs.Area.{pick}
use Rattle.quorum.proofs.Logic.{impossible}
use Rattle.blocks.specs.Code.{block_of}
use lib.ListN.{length}
use Rattle.frame.specs.Params.{quota}
use Rattle.frame.specs.Messages.{Entry, entry, offer, message, to_all, block_is, ready, Sending}
use Rattle.frame.specs.Outbox.{Outbox, sent}
use Rattle.frame.specs.Chunks.{store_if, complete_at}
use Rattle.frame.proofs.Outbox.{sent_none}
use Rattle.server_rules.specs.declared.Slot.{Slot}
use Rattle.server_rules.specs.State.{with_blocks, block_marks}
use Rattle.server_rules.specs.Steps.{voted_block}
use Rattle.server.specs.declared.Call.{Call}
use Rattle.server.specs.Stages.{Left, left, counts}
use Rattle.server_blocks.specs.declared.Voters.{Voters}
use Rattle.server_blocks.specs.declared.Due.{Due}
use Rattle.server_blocks.specs.Votes.{enough_by, matters_by, due_by, full_by, voters_of, due_for}
use Rattle.server_blocks.specs.Group.{group_value, group_equal, Stored}
use Rattle.server_blocks.specs.Stage.{readies_of, answered_by}
use Rattle.server_blocks.proofs.Counts.{value_is_lem, due_is, full_is}

-- ---- no readies, or all of them

pub not_due : (d : Bool) (q : Outbox) (l : List Sending) → d ≡ false → q ≡ sent q (pick d l [])
unfolding pick
not_due d q l e = sym (sent_none q) ∙ sym (ap (λ (b : Bool). sent q (pick b l [])) e)

pub is_due : (d : Bool) (q q' : Outbox) (l : List Sending) → d ≡ true → q' ≡ sent q l → q' ≡ sent q (pick d l [])
unfolding pick
is_due d q q' l e f = f ∙ sym (ap (λ (b : Bool). sent q (pick b l [])) e)

-- ---- what is due is known

-- the readies are sent, the completed entry and the marks are stored
pub answered : (k : Call) (a a' : List ℕ) (x y : Slot) (d : Due) (t : Bool) (own : Entry) (q q' : Outbox)
    → t ≡ not x.blocks.complete && d.complete
    → a' ≡ store_if t a (complete_at k.header.client) own
    → y ≡ with_blocks x (block_marks x.blocks d.ready d.complete d.time)
    → q' ≡ sent q (pick d.ready (readies_of k (offer d.time own)) [])
    → left y a' q' ≡ counts (answered_by k a x d own) q
unfolding counts answered_by
answered k a a' x y d t own q q' h n m f =
    let u = n ∙ ap (λ (b : Bool). store_if b a (complete_at k.header.client) own) h in
    λ i. left (m i) (u i) (f i)

or_none : (b r : Bool) → r ≡ false → b || r ≡ b
or_none true r h = refl
or_none false r h = h

-- neither readies nor an entry
nothing : (k : Call) (a : List ℕ) (x : Slot) (d : Due) (own : Entry) (q : Outbox)
    → d.ready ≡ false
    → x.blocks.complete || d.complete ≡ x.blocks.complete
    → not x.blocks.complete && d.complete ≡ false
    → counts (answered_by k a x d own) q ≡ left x a q
unfolding counts answered_by pick
nothing k a x d own q h m n =
    let l = readies_of k (offer d.time own) in
    let r = or_none x.blocks.ready d.ready h in
    let f : sent q (pick d.ready l []) ≡ q = ap (λ (b : Bool). sent q (pick b l [])) h ∙ sent_none q in
    λ i. left
    (with_blocks x (record {
      sent = x.blocks.sent;
      ready = r i;
      complete = m i;
      time = pick (n i) d.time x.blocks.time;
      echoes = x.blocks.echoes;
      readies = x.blocks.readies;
      echoed = x.blocks.echoed;
      readied = x.blocks.readied;
    }))
    (store_if (n i) a (complete_at k.header.client) own)
    (f i)

-- ---- nothing depends on the comparison: went, enough, all, complete, equal

no_ready : (w n l k u : Bool) → (not w && n) || (l && not k) ≡ false → not w && (n && u) ≡ false
no_ready true n l k u h = refl
no_ready false false l k u h = refl
no_ready false true l k u h = impossible (cc h)

no_completion : (w n l k u : Bool) → (not w && n) || (l && not k) ≡ false → k || (l && u) ≡ k
no_completion w n l true u h = refl
no_completion w n false false u h = refl
no_completion true n true false u h = impossible (cc h)
no_completion false true true false u h = impossible (cc h)
no_completion false false true false u h = impossible (cc h)

no_store : (w n l k u : Bool) → (not w && n) || (l && not k) ≡ false → not k && (l && u) ≡ false
no_store w n l true u h = refl
no_store w n false false u h = refl
no_store true n true false u h = impossible (cc h)
no_store false true true false u h = impossible (cc h)
no_store false false true false u h = impossible (cc h)

skipped_by : (k : Call) (a : List ℕ) (x : Slot) (v : Voters) (u : Bool) (T : ℕ) (own : Entry) (q : Outbox)
    → matters_by k.params x.blocks.ready x.blocks.complete v.echoed v.readied ≡ false
    → counts (answered_by k a x (due_for k.params x.blocks.ready v u T) own) q ≡ left x a q
unfolding matters_by due_for due_by full_by
skipped_by k a x v u T own q h =
    let w = x.blocks.ready in
    let n = enough_by k.params v.echoed v.readied in
    let l = leb (quota k.params + k.params.t) v.readied in
    let z = x.blocks.complete in
    nothing k a x (due_for k.params x.blocks.ready v u T) own q (no_ready w n l z u h) (no_completion w n l z u h) (no_store w n l z u h)

-- ---- the stage by flags and numbers

module _ (H : List ℕ → List ℕ) (k : Call) (a d b : List ℕ) (S : Stored k.params k.header.client (length a)) (T : ℕ) (x : Slot)
    (o : x.sequence ≡ k.header.sequence) (q : Outbox) where
  -- the own entry, by the votes v for the time and the list
  abbrev own : Voters → Entry
  own v = entry d (block_of k.params.k (group_value k.params v k.header.client a) k.me)

  -- what the votes v and the comparison u lead to
  unfoldable brings : Voters → Bool → Left
  brings v u = counts (answered_by k a x (due_for k.params x.blocks.ready v u T) (own v)) q

  stage_is : counts (voted_block H k.params k.me a k.header.client x (offer T (entry d b))) q
      ≡ brings (voters_of k.params a k.header.client x.blocks T d)
      (group_equal H k.params (voters_of k.params a k.header.client x.blocks T d) k.header.client a d)
  unfolding counts voted_block answered_by due_for brings
  stage_is =
      let g = k.params in
      let c = k.header.client in
      let u = value_is_lem H g a d b T c x S in
      let m = due_is H g a d b T c x S in
      let f = full_is H g a d b T c x S in
      λ i. left
      (with_blocks x (block_marks x.blocks (m i) (f i) T))
      (store_if (not x.blocks.complete && f i) a (complete_at c) (entry d (block_of g.k (u i) k.me)))
      (sent q (pick (m i) (to_all g (λ j. message c (o i) (block_is ready (offer T (entry d (block_of g.k (u i) k.me)))))) []))

  -- the comparison is not made
  pub skipped : (v : Voters) → v ≡ voters_of k.params a k.header.client x.blocks T d
      → matters_by k.params x.blocks.ready x.blocks.complete v.echoed v.readied ≡ false
      → left x a q ≡ counts (voted_block H k.params k.me a k.header.client x (offer T (entry d b))) q
  unfolding brings
  skipped v e h =
      sym (stage_is ∙ ap (λ (w : Voters). brings w (group_equal H k.params w k.header.client a d)) (sym e)
      ∙ skipped_by k a x v (group_equal H k.params v k.header.client a d) T (own v) q h)

  -- it is made, and u tells whether it is equal
  pub compared : (v : Voters) (u : Bool) (m : Due) (w : List ℕ) (l : Left)
      → v ≡ voters_of k.params a k.header.client x.blocks T d
      → w ≡ block_of k.params.k (group_value k.params v k.header.client a) k.me
      → u ≡ group_equal H k.params v k.header.client a d
      → m ≡ due_for k.params x.blocks.ready v u T
      → l ≡ counts (answered_by k a x m (entry d w)) q
      → l ≡ counts (voted_block H k.params k.me a k.header.client x (offer T (entry d b))) q
  unfolding brings
  compared v u m w l e h f n z =
      z ∙ (λ i. counts (answered_by k a x (n i) (entry d (h i))) q)
      ∙ ap (brings v) f
      ∙ ap (λ (w : Voters). brings w (group_equal H k.params w k.header.client a d)) e
      ∙ sym stage_is
