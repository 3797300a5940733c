-- What a counted frame does: to its write's part and to those of other writes, what it says, and what it decodes. Assumes nothing.
use Prim.Native.Nat.{ℕ, ◌≤◌}
use native.Mathlib.Omega.{arith}
use mathlib.Core.Bool.{Bool, true, false, not}
use mathlib.Core.Path.{◌≡◌, refl, ap, sym, ◌∙◌}
use mathlib.Core.Logic.{◌⊎◌, inl, inr, ⊎_elim}
use mathlib.Core.Option.{some}
use mathlib.Core.List.Memᴰ
use mathlib.Core.List.{List, [], Memᴰ}
use lib.ListN.{length}
use Rattle.quorum.specs.Quorum.{Among}
use Rattle.area.specs.Area.{pick}
use Rattle.area.proofs.Tests.{and_right}
use Rattle.blocks.specs.declared.Params.{Params}
use Rattle.frame.specs.declared.Party.{Party}
use Rattle.frame.specs.Chunks.{entry_at, store_entry, store_if, present_at, complete_at, echo_at, ready_at, area_bytes}
use Rattle.frame.specs.Messages.{Entry, Offer, Stage, send, echo, ready, Body, block_is, message, Sending, sending, to_all, Sized, FormedBody}
use Rattle.frame.proofs.Chunks.{length_store, entry_other}
use Rattle.frame.specs.Params.{Bounded}
use Rattle.frame.proofs.Sizes.{small}
use Rattle.server_rules.specs.declared.Slot.{Slot}
use Rattle.server_rules.specs.declared.Server.{Server}
use Rattle.server_rules.specs.Broadcast.{Rules, Part, due, full}
use Rattle.server_rules.specs.Rules.{block_rules}
use Rattle.server_rules.specs.State.{slot_of, with_blocks, block_view, block_echo, block_ready}
use Rattle.server_rules.specs.Steps as S
use Rattle.server_rules.proofs.Casts.{mem_all}
use Rattle.server_rules.proofs.Parts.{settled, counted, Says, flags_set}
use Rattle.server_rules.proofs.Views as SV
use Rattle.server_rules.proofs.Views.{shapes, Shaped}
use Rattle.server_rules.proofs.Decoding.{Has, decodes, coded, due_sized, settled_has}
use Rattle.server_rules.proofs.Shapes.{Counted, block}
use Rattle.server_rules.proofs.Passing.{SizedIn}
use Rattle.server_rules.proofs.Within.{echo_within, ready_within}

mem_pick : {A : Type 0} (b : Bool) (l : List A) (x : A) → Memᴰ x (pick b l []) → (b ≡ true) × Memᴰ x l
unfolding pick
mem_pick true l x u = (refl, u)
mem_pick false l x u = absurd (Memᴰ.not-nil u)

-- what goes to all, of one message
pub said : (g : Params) (b : Bool) (c q : ℕ) (x : Body) (y : Sending) → Memᴰ y (pick b (to_all g (λ i. message c q x)) [])
    → (b ≡ true) × (y.says ≡ message c q x)
unfolding to_all
said g b c q x y u = let (e, v) = mem_pick b _ y u in (e, (mem_all (λ i. message c q x) 1 g.n y v).1)

module _ (H : List ℕ → List ℕ) (g : Params) (me : ℕ) where
  abbrev R : Rules Offer
  R = block_rules H g

  -- A counted frame b of client c's write q from party j: it is of stage z with o, counted in the part s, which becomes s', and l goes out.
  pub record Hears (j c q : ℕ) (b : Body) (l : List Sending) (s s' : Part Offer) : Type 0 where
    pub z : Stage
    pub o : Offer
    pub is : b ≡ block_is z o
    pub part : s' ≡ counted R g.n g.t me s j z o
    pub says : (to : Party) (d r : ℕ) (z' : Stage) (y : Offer) → Memᴰ (sending to (message d r (block_is z' y))) l
        → (d ≡ c) × (r ≡ q) × Says R g.n g.t me s j z o z' y

module _ (H : List ℕ → List ℕ) (g : Params) (me c : ℕ) where
  -- ---- an offer that was counted

  voted_says : (a : List ℕ) (x : Slot) (o : Offer) (to : Party) (d q : ℕ) (z : Stage) (y : Offer)
      → Memᴰ (sending to (message d q (block_is z y))) (S.voted_block H g me a c x o).sends
      → let w = block_view g a c x in
      (d ≡ c) × (q ≡ x.sequence) × (z ≡ ready) × (due (R H g me) g.n g.t w o ≡ true) × (y ≡ (R H g me).own me w.echoes w.readies o)
  unfolding S.voted_block
  voted_says a x o to d q z y u =
      let (h, m) = said g _ c x.sequence _ _ u in
      let k : block_is z y ≡ block_is ready ((R H g me).own me (block_view g a c x).echoes (block_view g a c x).readies o) = ap (λ m. m.body) m in
      (ap (λ m. m.client) m, ap (λ m. m.sequence) m, cc, h, cc)

  module _ (L : Bounded g) (is : Among 8 c) (a : List ℕ) (room : area_bytes ≤ length a) (x : Slot) (X : Shaped x) (o : Offer) (Q : Sized g o.entry) where
    voted_view : block_view g (S.voted_block H g me a c x o).area c (S.voted_block H g me a c x o).slot
        ≡ settled (R H g me) g.n g.t me (block_view g a c x) o
    unfolding S.voted_block block_view
    voted_view =
        let w = block_view g a c x in
        SV.marks_view g (small g L) a room c x X is (due (R H g me) g.n g.t w o) (full (R H g me) g.n g.t w o)
        ((R H g me).own me w.echoes w.readies o)
        (λ z. coded H g L.blocks_low me w o Q z)

    voted_others : (d : ℕ) → Among 8 d → (d ≡ c → ⊥) → (y : Slot) → Shaped y → block_view g (S.voted_block H g me a c x o).area d y ≡ block_view g a d y
    unfolding S.voted_block
    voted_others d isd ne y Y = SV.client_if g (small g L) a room d y Y isd _ c (complete_at c) _
        (λ z. coded H g L.blocks_low me (block_view g a c x) o Q (and_right (not x.blocks.complete) _ z)) is (λ z. ne (sym z)) (omega arith) (omega arith)

    voted_present : entry_at g (S.voted_block H g me a c x o).area present_at ≡ entry_at g a present_at
    unfolding S.voted_block
    voted_present = go _ (λ z. coded H g L.blocks_low me (block_view g a c x) o Q (and_right (not x.blocks.complete) _ z))
      where
        go : (b : Bool) {y : Entry} → (b ≡ true → Sized g y) → entry_at g (store_if b a (complete_at c) y) present_at ≡ entry_at g a present_at
        go true {y} S = entry_other g (small g L) a (complete_at c) y (S refl) present_at (λ z. omega arith)
        go false S = refl

    voted_has : (y : Offer) → (block_view g (S.voted_block H g me a c x o).area c (S.voted_block H g me a c x o).slot).done ≡ some y
        → ((block_view g a c x).done ≡ some y) ⊎ Has H g (S.voted_block H g me a c x o).decodes y.entry.digests
    unfolding S.voted_block
    voted_has y u = settled_has H g L.blocks_low me (block_view g a c x) o y (sym (ap (λ w. w.done) voted_view) ∙ u)

-- ---- a counted frame

module _ (H : List ℕ → List ℕ) (g : Params) (L : Bounded g) (me : ℕ) (s : Server) (a initial : List ℕ) (j c : ℕ) where
  abbrev Word : Sending → Type 0
  Word y = (x : Body) × (y.says ≡ message c (slot_of s c).sequence x) × FormedBody g x

  voted_word : (a : List ℕ) (x : Slot) (o : Offer) → x.sequence ≡ (slot_of s c).sequence → FormedBody g (block_is ready o) → (y : Sending)
      → Memᴰ y (S.voted_block H g me a c x o).sends → Word y
  unfolding S.voted_block
  voted_word a x o q F y u =
      let (h, m) = said g _ c x.sequence _ y u in (
        _,
        m ∙ ap (λ q. message c q (block_is ready ((R H g me).own me (block_view g a c x).echoes (block_view g a c x).readies o))) q,
        (due_sized H g L.blocks_low (omega (arith, L.blocks_high)) me (block_view g a c x) o F.0 h, F.1),
      )

  -- what it says can be said in a frame
  pub counted_word : {b : Body} {p : S.Counting} → Counted H g me s a initial j c b p → FormedBody g b → (y : Sending) → Memᴰ y p.sends → Word y
  unfolding S.on_block to_all
  counted_word (block send o) f y u = (block_is echo o, (mem_all _ 1 g.n y u).1, f)
  counted_word (block echo o) f y u = voted_word _ _ o refl f y u
  counted_word (block ready o) f y u = voted_word _ _ o refl f y u

module _ (H : List ℕ → List ℕ) (g : Params) (L : Bounded g) (me : ℕ) (s : Server) (a initial : List ℕ) (room : area_bytes ≤ length a) (j : ℕ) (at : Among 10 j)
    (c : ℕ) (is : Among 8 c) (X : Shaped (slot_of s c)) where
  abbrev x : Slot
  x = slot_of s c

  abbrev xe : Offer → Slot
  xe o = with_blocks x (block_echo x.blocks j o.time)

  abbrev xr : Offer → Slot
  xr o = with_blocks x (block_ready x.blocks j o.time)

  shaped_echo : (o : Offer) → Shaped (xe o)
  shaped_echo o = echo_within shapes x X j (λ l F. flags_set l F j at.0) o.time tt

  shaped_ready : (o : Offer) → Shaped (xr o)
  shaped_ready o = ready_within shapes x X j (λ l F. flags_set l F j at.0) o.time tt

  room_after : (p : ℕ) (e : Entry) → area_bytes ≤ length (store_entry a p e)
  room_after p e = rw length_store room

  pub hears : {b : Body} {p : S.Counting} → Counted H g me s a initial j c b p → SizedIn g b
      → Hears H g me j c x.sequence b p.sends (block_view g a c x) (block_view g p.area c p.slot)
  unfolding S.on_block block_view to_all
  hears (block send o) Q = record {
    z = send;
    o = o;
    is = refl;
    part = refl;
    says = λ to d r z y u.
        let m = (mem_all _ 1 g.n _ u).1 in
        let k : block_is z y ≡ block_is echo o = ap (λ m. m.body) m in
        (ap (λ m. m.client) m, ap (λ m. m.sequence) m, (cc, cc));
  }
  hears (block echo o) Q =
      let v = SV.echo_view g (small g L) a room c x X is j at o Q in
      record {
        z = echo;
        o = o;
        is = refl;
        part = voted_view H g me c L is (store_entry a (echo_at c j) o.entry) (room_after _ o.entry) (xe o) (shaped_echo o) o Q
            ∙ ap (λ w. settled (R H g me) g.n g.t me w o) v;
        says = λ to d r z y u.
            let (h0, h1, h2, h3, h4) = voted_says H g me c _ (xe o) o to d r z y u in
            (h0, h1, (h2, sym (ap (λ w. due (R H g me) g.n g.t w o) v) ∙ h3, h4 ∙ ap (λ w. (R H g me).own me w.echoes w.readies o) v));
      }
  hears (block ready o) Q =
      let v = SV.ready_view g (small g L) a room c x X is j at o Q in
      record {
        z = ready;
        o = o;
        is = refl;
        part = voted_view H g me c L is (store_entry a (ready_at c j) o.entry) (room_after _ o.entry) (xr o) (shaped_ready o) o Q
            ∙ ap (λ w. settled (R H g me) g.n g.t me w o) v;
        says = λ to d r z y u.
            let (h0, h1, h2, h3, h4) = voted_says H g me c _ (xr o) o to d r z y u in
            (h0, h1, (h2, sym (ap (λ w. due (R H g me) g.n g.t w o) v) ∙ h3, h4 ∙ ap (λ w. (R H g me).own me w.echoes w.readies o) v));
      }

  -- the part of another client's slot
  pub counted_others : {b : Body} {p : S.Counting} → Counted H g me s a initial j c b p → SizedIn g b → (d : ℕ) → Among 8 d → (d ≡ c → ⊥) → (y : Slot)
      → Shaped y
      → block_view g p.area d y ≡ block_view g a d y
  unfolding S.on_block
  counted_others (block send o) Q d isd ne y Y = refl
  counted_others (block echo o) Q d isd ne y Y =
      voted_others H g me c L is (store_entry a (echo_at c j) o.entry) (room_after _ o.entry) (xe o) (shaped_echo o) o Q d isd ne y Y
      ∙ SV.other_client g (small g L) a room d y Y isd c (echo_at c j) o.entry Q is (λ z. ne (sym z)) (omega arith) (omega arith)
  counted_others (block ready o) Q d isd ne y Y =
      voted_others H g me c L is (store_entry a (ready_at c j) o.entry) (room_after _ o.entry) (xr o) (shaped_ready o) o Q d isd ne y Y
      ∙ SV.other_client g (small g L) a room d y Y isd c (ready_at c j) o.entry Q is (λ z. ne (sym z)) (omega arith) (omega arith)

  -- the present value
  pub counted_present : {b : Body} {p : S.Counting} → Counted H g me s a initial j c b p → SizedIn g b → entry_at g p.area present_at ≡ entry_at g a present_at
  unfolding S.on_block
  counted_present (block send o) Q = refl
  counted_present (block echo o) Q =
      voted_present H g me c L is (store_entry a (echo_at c j) o.entry) (room_after _ o.entry) (xe o) (shaped_echo o) o Q
      ∙ entry_other g (small g L) a (echo_at c j) o.entry Q present_at (λ z. omega arith)
  counted_present (block ready o) Q =
      voted_present H g me c L is (store_entry a (ready_at c j) o.entry) (room_after _ o.entry) (xr o) (shaped_ready o) o Q
      ∙ entry_other g (small g L) a (ready_at c j) o.entry Q present_at (λ z. omega arith)

  -- what completes the write has the digests of a value that was decoded
  pub counted_has : {b : Body} {p : S.Counting} → Counted H g me s a initial j c b p → SizedIn g b → (y : Offer)
      → (block_view g p.area c p.slot).done ≡ some y
      → ((block_view g a c x).done ≡ some y) ⊎ Has H g p.decodes y.entry.digests
  unfolding S.on_block block_view
  counted_has (block send o) Q y u = inl u
  counted_has (block echo o) Q y u = ⊎_elim
      (λ w. inl (sym (ap (λ w. w.done) (SV.echo_view g (small g L) a room c x X is j at o Q)) ∙ w)) (λ w. inr w)
      (voted_has H g me c L is (store_entry a (echo_at c j) o.entry) (room_after _ o.entry) (xe o) (shaped_echo o) o Q y u)
  counted_has (block ready o) Q y u = ⊎_elim
      (λ w. inl (sym (ap (λ w. w.done) (SV.ready_view g (small g L) a room c x X is j at o Q)) ∙ w)) (λ w. inr w)
      (voted_has H g me c L is (store_entry a (ready_at c j) o.entry) (room_after _ o.entry) (xr o) (shaped_ready o) o Q y u)
