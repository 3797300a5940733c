-- The tests of a write's frames, and what a counted one leaves. Assumes nothing.
use Rattle.std.specs.Prelude.{Ok, Err}
use Prim.Native.Nat.{ℕ, ◌+◌}
use mathlib.Core.Path.{◌≡◌, refl, ap, sym, ◌∙◌}
use mathlib.Core.Bool.{Bool, true, false}
use mathlib.Core.List.{List}
use lib.ListN.{get_or}
use lib.Dec.{eqb}
use Rattle.area.specs.Area.{pick}
use Rattle.sha256.specs.Hash.{digest_of}
use Rattle.frame.specs.declared.Place.{Place}
use Rattle.frame.specs.declared.Refusal.{Refusal}
use Rattle.frame.specs.declared.Refusal.TheVariants as R
use Rattle.frame.specs.Refusals.{and_then, Verdict, fine}
use Rattle.frame.specs.Messages.{Entry, Offer, Stage, message, send, echo, ready, block_is, to_all, number_in, from_server}
use Rattle.group_rules.specs.Coded.{fit_test}
use Rattle.frame.specs.Chunks.{store_entry}
use Rattle.frame.specs.Outbox.{Outbox, outbox, sent, first_place}
use Rattle.frame.proofs.Verdicts.{fine_both}
use Rattle.frame.proofs.Within.{stop_first, go_second}
use Rattle.server_rules.specs.declared.Slot.{Slot}
use Rattle.server_rules.specs.State.{with_blocks, block_sent}
use Rattle.server_rules.specs.Tests.{from_owner, open_test, sender_right, counted}
use Rattle.server_rules.specs.Steps.{Counting, voted_block, on_block}
use Rattle.server.specs.declared.Call.{Call}
use Rattle.server.specs.Stages.{Left, left, counts, handled, sent_by, block_frame}
use Rattle.server.proofs.Answers.{Voted, voted, owned}
use Rattle.server.proofs.Handling.{refused_frame, counted_frame}
use Rattle.server_blocks.specs.Stage.{vote_stage, vote_counted, votes_from, verdict_of, send_verdict, voted_before, vote_verdict}

-- ---- the tests

-- the sender is tested first, by b, and then u and w in that order
split : (b : Bool) (u w : Verdict) → and_then (pick b u (Err R.Sender)) w ≡ pick b (and_then u w) (Err R.Sender)
unfolding pick
split true u w = refl
split false u w = refl

bad_then : (b : Bool) (u w v : Verdict) (r : Refusal) → v ≡ pick b u (Err R.Sender) → v ≡ Err r → Err r ≡ pick b (and_then u w) (Err R.Sender)
bad_then b u w v r h f = stop_first (pick b u (Err R.Sender)) w v r h f ∙ split b u w

fine_then : (b : Bool) (u w v z : Verdict) → v ≡ pick b u (Err R.Sender) → v ≡ fine → z ≡ w → z ≡ pick b (and_then u w) (Err R.Sender)
fine_then b u w v z h f m = go_second (pick b u (Err R.Sender)) w v z h f m ∙ split b u w

fine_first : (b : Bool) (u w v : Verdict) → v ≡ pick b (and_then u w) (Err R.Sender) → v ≡ fine → pick b u (Err R.Sender) ≡ fine
fine_first b u w v h f = (fine_both (pick b u (Err R.Sender)) w (split b u w ∙ sym h ∙ f)).0

module _ (k : Call) (x : Slot) (v : Verdict) where
  module _ (e : Entry) where
    module _ (h : v ≡ pick (from_owner k.from k.header.client) (open_test x k.header.sequence x.blocks.sent) (Err R.Sender)) where
      pub send_bad : (r : Refusal) → v ≡ Err r → Err r ≡ send_verdict k x e
      unfolding send_verdict
      send_bad r f =
          bad_then (from_owner k.from k.header.client) (open_test x k.header.sequence x.blocks.sent) (fit_test digest_of e k.me) v r h f

      pub send_fine : (w : Verdict) → v ≡ fine → w ≡ fit_test digest_of e k.me → w ≡ send_verdict k x e
      unfolding send_verdict
      send_fine w f m =
          fine_then (from_owner k.from k.header.client) (open_test x k.header.sequence x.blocks.sent) (fit_test digest_of e k.me) v w h f m

    -- on is what the code looks the sender up in
    module _ (on : List Bool) (i : on ≡ pick (eqb k.header.kind 4) x.blocks.echoes x.blocks.readies)
        (h : v ≡ pick (from_server k.params k.from) (open_test x k.header.sequence (get_or on (number_in k.from) false)) (Err R.Sender)) where
      tested : v ≡ pick (from_server k.params k.from) (open_test x k.header.sequence (voted_before k x)) (Err R.Sender)
      unfolding voted_before
      tested =
          h
          ∙ ap
          (λ (l : List Bool). pick (from_server k.params k.from) (open_test x k.header.sequence (get_or l (number_in k.from) false)) (Err R.Sender))
          i

      pub vote_bad : (r : Refusal) → v ≡ Err r → Err r ≡ vote_verdict k x e
      unfolding vote_verdict
      vote_bad r f =
          bad_then (from_server k.params k.from) (open_test x k.header.sequence (voted_before k x)) (fit_test digest_of e (number_in k.from)) v r
          tested f

      pub vote_fine : (w : Verdict) (j : ℕ) → v ≡ fine → w ≡ fit_test digest_of e j → j ≡ number_in k.from → w ≡ vote_verdict k x e
      unfolding vote_verdict
      vote_fine w j f m n =
          fine_then (from_server k.params k.from) (open_test x k.header.sequence (voted_before k x)) (fit_test digest_of e (number_in k.from)) v w
          tested f (m ∙ ap (fit_test digest_of e) n)

    -- what is known where no test refused a frame
    pub sent_open : v ≡ send_verdict k x e → v ≡ fine → x.sequence ≡ k.header.sequence
    unfolding send_verdict
    sent_open h f =
        let b = from_owner k.from k.header.client in
        let u = open_test x k.header.sequence x.blocks.sent in
        owned k.from k.header.client x k.header.sequence x.blocks.sent (pick b u (Err R.Sender)) refl
        (fine_first b u (fit_test digest_of e k.me) v h f)

    pub vote_open : v ≡ vote_verdict k x e → v ≡ fine → Voted k.params k.from x k.header.sequence
    unfolding vote_verdict
    vote_open h f =
        let b = from_server k.params k.from in
        let u = open_test x k.header.sequence (voted_before k x) in
        voted k.params k.from x k.header.sequence (voted_before k x) (pick b u (Err R.Sender)) refl
        (fine_first b u (fit_test digest_of e (number_in k.from)) v h f)

  module _ (o : Offer) where
    pub send_verdict_lem : v ≡ send_verdict k x o.entry → v ≡ verdict_of k x send o
    unfolding send_verdict verdict_of sent_by sender_right counted
    send_verdict_lem h = h

    pub vote_verdict_lem : v ≡ vote_verdict k x o.entry → v ≡ verdict_of k x (vote_stage k.header.kind) o
    unfolding vote_verdict voted_before verdict_of sent_by sender_right counted vote_stage pick
    vote_verdict_lem = go (eqb k.header.kind 4)
      where
        go : (b : Bool)
            → v ≡ pick (from_server k.params k.from)
            (and_then (open_test x k.header.sequence (get_or (pick b x.blocks.echoes x.blocks.readies) (number_in k.from) false))
            (fit_test digest_of o.entry (number_in k.from))) (Err R.Sender)
            → v ≡ verdict_of k x (pick b echo ready) o
        go true h = h
        go false h = h

    -- ---- the steps

    module _ (z : Stage) (a out to : List ℕ) (h : v ≡ verdict_of k x z o) where
      pub turned_down_lem : (r : Refusal) → v ≡ Err r
          → handled x (Err r) a out to ≡ block_frame digest_of k x a z o (outbox out to first_place)
      unfolding block_frame verdict_of
      turned_down_lem r f = refused_frame (Err r) (verdict_of k x z o) r x a out to _ (sym f ∙ h) refl

      pub let_in : (y : Slot) (a' : List ℕ) (p : Place) (q : Outbox) → v ≡ fine
          → left y a' (outbox out to p) ≡ counts (on_block digest_of k.params k.me a k.header.client x (number_in k.from) z o) q
          → handled x (Ok (record { slot = y; place = p })) a' out to ≡ block_frame digest_of k x a z o q
      unfolding block_frame verdict_of
      let_in y a' p q f l = counted_frame fine (verdict_of k x z o) x y a a' out to _ p q (sym f ∙ h) refl l

-- the owner's offer is echoed
pub block_echoed : (k : Call) (a : List ℕ) (j : ℕ) (o : Offer) (x y : Slot) (q q' : Outbox)
    → x.sequence ≡ k.header.sequence
    → y ≡ with_blocks x (block_sent x.blocks)
    → q' ≡ sent q (to_all k.params (λ j. message k.header.client k.header.sequence (block_is echo o)))
    → left y a q' ≡ counts (on_block digest_of k.params k.me a k.header.client x j send o) q
unfolding on_block counts
block_echoed k a j o x y q q' h m f =
    let u = f ∙ ap (λ (z : ℕ). sent q (to_all k.params (λ j. message k.header.client z (block_is echo o)))) (sym h) in
    λ i. left (m i) a (u i)

-- a server's offer is kept and counted: its echo where b holds, else its ready
kept_vote : (k : Call) (a : List ℕ) (x : Slot) (j : ℕ) (o : Offer) (b : Bool)
    → voted_block digest_of k.params k.me (store_entry a (votes_from b k.header.client + j) o.entry) k.header.client
    (with_blocks x (vote_counted b x.blocks j o.time)) o
    ≡ on_block digest_of k.params k.me a k.header.client x j (pick b echo ready) o
unfolding on_block votes_from vote_counted pick
kept_vote k a x j o true = refl
kept_vote k a x j o false = refl

pub block_voted : (k : Call) (a a' : List ℕ) (x y : Slot) (j p : ℕ) (o : Offer) (q : Outbox) (l : Left)
    → j ≡ number_in k.from
    → p ≡ votes_from (eqb k.header.kind 4) k.header.client
    → a' ≡ store_entry a (p + j) o.entry
    → y ≡ with_blocks x (vote_counted (eqb k.header.kind 4) x.blocks j o.time)
    → l ≡ counts (voted_block digest_of k.params k.me a' k.header.client y o) q
    → l ≡ counts (on_block digest_of k.params k.me a k.header.client x (number_in k.from) (vote_stage k.header.kind) o) q
unfolding vote_stage
block_voted k a a' x y j p o q l h i n m f =
    let b = eqb k.header.kind 4 in
    f
    ∙ (λ t. counts (voted_block digest_of k.params k.me (n t) k.header.client (m t) o) q)
    ∙ (λ t. counts (voted_block digest_of k.params k.me (store_entry a (i t + h t) o.entry) k.header.client
    (with_blocks x (vote_counted b x.blocks (h t) o.time)) o) q)
    ∙ ap (λ (c : Counting). counts c q) (kept_vote k a x (number_in k.from) o b)
