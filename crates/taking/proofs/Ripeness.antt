-- A server leaves no write waiting that it may accept (request F-9): after each step of which something may be accepted none is ripe, and the others leave what
-- ripeness goes by. Assumes nothing.
use Rattle.frame.specs.Refusals.{fine}
use Prim.Native.Nat.{ℕ, ◌≤◌, ◌<◌}
use native.Mathlib.Decide.{ℕ_discrete}
use mathlib.Core.Bool.{Bool, true, false, ◌&&◌, ◌||◌}
use mathlib.Core.Path.{◌≡◌, refl, ap, sym, ◌∙◌, subst}
use mathlib.Core.Option.{Option, none, some}
use mathlib.Core.List.{List}
use lib.Seq.{get_or-set_other}
use lib.Dec.{leb, ltb}
use borrow.Author.Tests.{lt-ltb, le-leb}
use Rattle.quorum.specs.Quorum.{Among}
use Rattle.quorum.proofs.Logic.{impossible, and_true}
use Rattle.area.specs.Area.{pick}
use Rattle.blocks.specs.declared.Params.{Params}
use Rattle.frame.specs.declared.Party.{Party}
use Rattle.frame.specs.Stamps.{last_time, last_sequence}
use Rattle.frame.specs.Params.{Bounded}
use Rattle.frame.specs.Messages.{Offer, Stage, send, echo, ready, Body, get_stamp, ack, ask_read, read_complete}
use Rattle.frame.specs.Messages.{stamp_is, block_is, value_is, report, Message, number_in}
use Rattle.server_rules.specs.declared.Slot.{Slot}
use Rattle.server_rules.specs.declared.Server.{Server}
use Rattle.server_rules.specs.State.{no_slot, fresh_slot, fresh_blocks, slot_of, report_of, with_slot, with_report, block_view}
use Rattle.server_rules.specs.Steps as S
use Rattle.server_rules.specs.Tests as ST
use Rattle.server_rules.proofs.Views.{shapes, fresh_block_view}
use Rattle.server_rules.proofs.Shapes.{Counted, block}
use Rattle.server_rules.proofs.Passing.{test_split, counted_from}
use Rattle.server_rules.proofs.Within.{this_slot}
use Rattle.server_rules.proofs.Freeing.{free_calm}
use Rattle.steps.proofs.CastFacts.{part_at}
use Rattle.steps.proofs.ServerFits.{ServerShape, counted_shape, report_shape}

-- no client's write can be accepted
abbrev pub Ripeless : Params → Server → List ℕ → Type 0
Ripeless g s a = (c : ℕ) → Among 8 c → S.ripe g s a c ≡ none

-- ---- what it means

-- a completed write that waits is not vouched
pub not_vouched : (g : Params) (s : Server) (a : List ℕ) (c : ℕ) → S.ripe g s a c ≡ none → (o : Offer) → (part_at g s a c).done ≡ some o → o.time < last_time
    → (slot_of s c).sequence ≤ last_sequence → S.vouched g s o.time ≡ true → ⊥
unfolding S.ripe S.ripe_by pick
not_vouched g s a c e o d t q v = go (part_at g s a c).done d e
  where
    go : (x : Option Offer) → x ≡ some o → S.ripe_by g s c (slot_of s c).sequence x ≡ none → ⊥
    go none p e = impossible (cc p)
    go (some y) p e =
        let z : y ≡ o = cc p in
        let b : (S.vouched g s y.time && (ltb y.time last_time && leb (slot_of s c).sequence last_sequence)) ≡ true =
        subst (λ y. (S.vouched g s y.time && (ltb y.time last_time && leb (slot_of s c).sequence last_sequence)) ≡ true) (sym z)
        (and_true _ _ v (and_true _ _ (lt-ltb o.time last_time t) (le-leb (slot_of s c).sequence last_sequence q))) in
        let w : S.Write = record { client = c; sequence = (slot_of s c).sequence; time = y.time; entry = y.entry } in
        impossible (cc (e, ap (λ b. pick b (some w) none) b))

pub fresh_ripe : (g : Params) (s : Server) (a : List ℕ) (c q : ℕ) → slot_of s c ≡ fresh_slot q → S.ripe g s a c ≡ none
unfolding S.ripe S.ripe_by
fresh_ripe g s a c q e = ap (S.ripe_by g s c (slot_of s c).sequence) (ap (λ x. (block_view g a c x).done) e ∙ ap (λ v. v.done) (fresh_block_view g a c q))

-- ---- a step

-- it goes by the stamp, the reports, the open sequence and what is complete
same_ripe : (g : Params) (s s' : Server) (a a' : List ℕ) (c : ℕ) → s'.stamp ≡ s.stamp → s'.reports ≡ s.reports
    → (slot_of s' c).sequence ≡ (slot_of s c).sequence → (part_at g s' a' c).done ≡ (part_at g s a c).done → S.ripe g s a c ≡ none → S.ripe g s' a' c ≡ none
unfolding S.ripe S.ripe_by S.vouched
same_ripe g s s' a a' c ex er eq ed e = go (part_at g s a c).done ed e
  where
    go : (d : Option Offer) → (part_at g s' a' c).done ≡ d → S.ripe_by g s c (slot_of s c).sequence d ≡ none
        → S.ripe_by g s' c (slot_of s' c).sequence (part_at g s' a' c).done ≡ none
    go none p h = ap (S.ripe_by g s' c (slot_of s' c).sequence) p
    go (some o) p h = ap (S.ripe_by g s' c (slot_of s' c).sequence) p
        ∙ (λ i. S.ripe_by g (record { stamp = ex i; slots = s'.slots; readers = s'.readers; reports = er i }) c (eq i) (some o)) ∙ h

module _ (H : List ℕ → List ℕ) (g : Params) (L : Bounded g) (me : ℕ) (s : Server) (a initial : List ℕ) (F : ServerShape s a) (from : Party) where
  send_ripe : (c : ℕ) → Among 8 c → (o : Offer) → Ripeless g s a
      → Ripeless g (with_slot s c (S.on_block H g me a c (slot_of s c) (number_in from) send o).slot)
      (S.on_block H g me a c (slot_of s c) (number_in from) send o).area
  unfolding S.on_block block_view
  send_ripe c is o N d id = go (ℕ_discrete d c)
    where
      x : Slot
      x = (S.on_block H g me a c (slot_of s c) (number_in from) send o).slot

      here : slot_of (with_slot s c x) c ≡ x
      here = this_slot shapes F.within c is.1 x

      go : Dec (d ≡ c) → S.ripe g (with_slot s c x) a d ≡ none
      go (yes z) = subst (λ d. S.ripe g (with_slot s c x) a d ≡ none) (sym z)
          (same_ripe g s (with_slot s c x) a a c refl refl (ap (λ x. x.sequence) here) (ap (λ x. (block_view g a c x).done) here) (N c is))
      go (no ne) =
          let e = get_or-set_other s.slots c d x no_slot ne in
          same_ripe g s (with_slot s c x) a a d refl refl (ap (λ x. x.sequence) e) (ap (λ x. (block_view g a d x).done) e) (N d id)

  counted_then : (c : ℕ) → Among 8 c → (z : Stage) (o : Offer) → ST.sender_right g from c (block_is z o) ≡ true
      → ServerShape (with_slot s c (S.on_block H g me a c (slot_of s c) (number_in from) z o).slot) (S.on_block H g me a c (slot_of s c) (number_in from) z o).area
  counted_then c is z o h =
      let k : Counted H g me s a initial (number_in from) c (block_is z o) (S.on_block H g me a c (slot_of s c) (number_in from) z o) = block z o in
      counted_shape H g me s a initial F (number_in from) (counted_from g from c is L.servers_high k h).0 c is.1 k

  ripeless_of : (c q : ℕ) (b : Body) → Among 8 c → ST.sender_right g from c b ≡ true → Ripeless g s a
      → Ripeless g (S.on_body H g me s a initial (number_in from) c q b).server (S.on_body H g me s a initial (number_in from) c q b).area
  unfolding S.on_body S.on_read S.on_read_complete S.settle S.freed
  ripeless_of c q get_stamp is h N = N
  ripeless_of c q ack is h N = N
  ripeless_of c q ask_read is h N = λ d i. same_ripe g s _ a a d refl refl refl refl (N d i)
  ripeless_of c q read_complete is h N = λ d i. same_ripe g s _ a a d refl refl refl refl (N d i)
  ripeless_of c q (stamp_is T) is h N = N
  ripeless_of c q (block_is send o) is h N = send_ripe c is o N
  ripeless_of c q (block_is echo o) is h N = free_calm g _ _ (counted_then c is echo o h).within
  ripeless_of c q (block_is ready o) is h N = free_calm g _ _ (counted_then c is ready o h).within
  ripeless_of c q (value_is x e) is h N = N
  ripeless_of c q (report T) is h N = free_calm g (with_report s (number_in from) T) a (report_shape s a F (number_in from) T).within

  -- each frame that passes the tests
  pub ripeless : (m : Message) → Among 8 m.client → ST.message_test H g me s from m ≡ fine → Ripeless g s a
      → Ripeless g (S.effect H g me s a initial from m).server (S.effect H g me s a initial from m).area
  unfolding S.effect
  ripeless m is e N = ripeless_of m.client m.sequence m.body is (test_split H g me s from m e).0 N
