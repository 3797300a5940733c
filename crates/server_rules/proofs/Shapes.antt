-- The law of a server's step: what forms it can have. Who needs to know what a step does goes by these cases and never by a step's text. Assumes nothing.
use Prim.Native.Nat.{ℕ, zero, suc, ◌+◌, ◌≤◌, ◌<◌}
use native.Mathlib.Omega.{arith}
use native.Mathlib.Decide.{ℕ_discrete}
use mathlib.Core.Bool.{Bool, true, false, ◌&&◌}
use mathlib.Core.Path.{◌≡◌, refl, ap, sym, ◌∙◌, subst}
use mathlib.Core.Option.{Option, none, some}
use mathlib.Core.List.{List, [], ◌∷◌}
use lib.ListN.{length}
use lib.Dec.{leb, ltb}
use borrow.Author.Tests.{ltb-true, leb-true}
use Rattle.quorum.specs.Quorum.{Among}
use Rattle.quorum.proofs.Logic.{impossible, and_split}
use Rattle.area.specs.Area.{pick}
use Rattle.blocks.specs.declared.Params.{Params}
use Rattle.frame.specs.declared.Party.{Party}
use Rattle.frame.specs.declared.Refusal.{Refusal}
use Rattle.frame.specs.declared.Party.TheVariants as P
use Rattle.frame.specs.Stamps.{older, last_time, last_sequence}
use Rattle.frame.specs.Chunks.{store_entry, store_if, present_at, echo_at, ready_at}
use Rattle.frame.specs.Messages.{Entry, Offer, offer, Stage, send, echo, ready, Body, get_stamp, ack, ask_read, read_complete, stamp_is, block_is, value_is, report}
use Rattle.frame.specs.Messages.{Message, message, Sending, sending, to_all, number_in, Judged, bad, good}
use Rattle.frame.proofs.Chunks.{length_store}
use Rattle.server_rules.specs.declared.Slot.{Slot}
use Rattle.server_rules.specs.declared.Server.{Server}
use Rattle.server_rules.specs.State.{slot_of, reader_of, with_slot, with_reader, with_report, with_blocks, block_view, present_entry, block_echo, block_ready}
use Rattle.server_rules.specs.Broadcast.{due}
use Rattle.server_rules.specs.Rules.{block_rules}
use Rattle.server_rules.specs.Steps as S
use Rattle.server_rules.specs.Tests.{judge}
use Rattle.server_rules.specs.Delivery as SD
use Rattle.server_rules.proofs.Casts.{IsCast}

-- ---- acceptance

-- what an accepted write was completed with
abbrev pub offer_of : S.Write → Offer
offer_of w = offer w.time w.entry

-- the write w can be accepted: its client's slot has the sequence, and is complete with its time and entry
pub record Ripe (g : Params) (s : Server) (a : List ℕ) (w : S.Write) : Type 0 where
  pub sequence : w.sequence ≡ (slot_of s w.client).sequence
  pub complete : (block_view g a w.client (slot_of s w.client)).done ≡ some (offer_of w)
  pub vouched : S.vouched g s w.time ≡ true
  pub below : w.time < last_time
  pub listed : w.sequence ≤ last_sequence

-- what a server accepts in m rounds at most: nothing, or a ripe write, and then what follows
pub data Freed (g : Params) : ℕ → Server → List ℕ → S.Effect → Type 0 where
  nothing : {m : ℕ} {s : Server} {a : List ℕ} → Freed g m s a (S.send_only s a [])
  accepts : {m : ℕ} {s : Server} {a : List ℕ} (w : S.Write) → Among 8 w.client → Ripe g s a w → {r : S.Effect}
      → Freed g m (S.accept g s a w).server (S.accept g s a w).area r → Freed g (suc m) s a (S.and_also (S.accept g s a w) r)

module _ (g : Params) (s : Server) (a : List ℕ) where
  -- a write that can be accepted is its client's, and ripe
  pub ripe_some : (c : ℕ) (w : S.Write) → S.ripe g s a c ≡ some w → (w.client ≡ c) × Ripe g s a w
  unfolding S.ripe S.ripe_by pick
  ripe_some c w e = go (block_view g a c (slot_of s c)).done refl e
    where
      write : Offer → S.Write
      write o = record { client = c; sequence = (slot_of s c).sequence; time = o.time; entry = o.entry }

      at : (b : Bool) (o : Offer) → (block_view g a c (slot_of s c)).done ≡ some o
          → (S.vouched g s o.time && (ltb o.time last_time && leb (slot_of s c).sequence last_sequence)) ≡ b
          → pick b (some (write o)) none ≡ some w → (w.client ≡ c) × Ripe g s a w
      at true o p z e =
          let is : write o ≡ w = cc in
          let h = and_split (S.vouched g s o.time) _ z in
          let k = and_split (ltb o.time last_time) _ h.1 in
          subst (λ w. (w.client ≡ c) × Ripe g s a w) is (
            refl,
            record {
              sequence = refl;
              complete = p;
              vouched = h.0;
              below = ltb-true o.time last_time k.0;
              listed = leb-true (slot_of s c).sequence last_sequence k.1;
            },
          )
      at false o p z e = impossible (cc e)

      go : (d : Option Offer) → (block_view g a c (slot_of s c)).done ≡ d → S.ripe_by g s c (slot_of s c).sequence d ≡ some w → (w.client ≡ c) × Ripe g s a w
      go none p e = impossible (cc e)
      go (some o) p e = at (S.vouched g s o.time && (ltb o.time last_time && leb (slot_of s c).sequence last_sequence)) o p refl e

  -- the lowest of some clients
  lowest_from_lem : (c m : ℕ) (w : S.Write) → S.lowest g s a c m ≡ some w → (d : ℕ) × (c ≤ d) × (d < c + m) × (S.ripe g s a d ≡ some w)
  unfolding S.lowest
  lowest_from_lem c zero w e = impossible (cc e)
  lowest_from_lem c (suc m) w e = go (S.ripe g s a c) refl e (lowest_from_lem (suc c) m w)
    where
      go : (o : Option S.Write) → S.ripe g s a c ≡ o → S.or_else o (S.lowest g s a (suc c) m) ≡ some w
          → (S.lowest g s a (suc c) m ≡ some w → (d : ℕ) × (suc c ≤ d) × (d < suc c + m) × (S.ripe g s a d ≡ some w))
          → (d : ℕ) × (c ≤ d) × (d < c + suc m) × (S.ripe g s a d ≡ some w)
      go none p e f = let (d, l, h, q) = f e in (d, omega (arith, l), omega (arith, h), q)
      go (some x) p e f = (c, omega arith, omega arith, p ∙ e)

  pub lowest_some : (w : S.Write) → S.lowest g s a 1 8 ≡ some w → Among 8 w.client × Ripe g s a w
  lowest_some w e =
      let (d, l, h, q) = lowest_from_lem 1 8 w e in
      let (z, R) = ripe_some d w q in
      (subst (Among 8) (sym z) (l, omega (arith, h)), R)

  none_from : (c m : ℕ) → S.lowest g s a c m ≡ none → (d : ℕ) → c ≤ d → d < c + m → S.ripe g s a d ≡ none
  unfolding S.lowest
  none_from c zero e d l h = absurd (omega (arith, l, h))
  none_from c (suc m) e d l h = go (λ e l. none_from (suc c) m e d l (omega (arith, h))) (S.ripe g s a c) refl e (ℕ_discrete d c)
    where
      go : (S.lowest g s a (suc c) m ≡ none → suc c ≤ d → S.ripe g s a d ≡ none) → (o : Option S.Write) → S.ripe g s a c ≡ o
          → S.or_else o (S.lowest g s a (suc c) m) ≡ none → Dec (d ≡ c) → S.ripe g s a d ≡ none
      go f none p e (yes z) = ap (S.ripe g s a) z ∙ p
      go f none p e (no z) = f e (omega (arith, l, z))
      go f (some x) p e z = impossible (cc e)

  pub lowest_none : S.lowest g s a 1 8 ≡ none → (c : ℕ) → Among 8 c → S.ripe g s a c ≡ none
  lowest_none e c is = none_from 1 8 e c is.0 (omega (arith, is.1))

pub free : (g : Params) (m : ℕ) (s : Server) (a : List ℕ) → Freed g m s a (S.free g m s a)
unfolding S.free
free g zero s a = nothing
free g (suc m) s a = go (λ w. free g m (S.accept g s a w).server (S.accept g s a w).area) (S.lowest g s a 1 8) refl
  where
    Rest : S.Write → Type 0
    Rest w = Freed g m (S.accept g s a w).server (S.accept g s a w).area (S.free g m (S.accept g s a w).server (S.accept g s a w).area)

    go : ((w : S.Write) → Rest w) → (o : Option S.Write) → S.lowest g s a 1 8 ≡ o → Freed g (suc m) s a (elim o [
      | some w ↦ S.and_also (S.accept g s a w) (S.free g m (S.accept g s a w).server (S.accept g s a w).area)
      | none ↦ S.send_only s a []
    ])
    go f none e = nothing
    go f (some w) e = let (i, R) = lowest_some g s a w e in accepts w i R (f w)

pub freed : (g : Params) (s : Server) (a : List ℕ) (z : Stage) → Freed g S.rounds s a (S.freed g z s a)
unfolding S.freed
freed g s a send = nothing
freed g s a echo = free g S.rounds s a
freed g s a ready = free g S.rounds s a

pub length_if : (t : Bool) (a : List ℕ) (p : ℕ) (e : Entry) → length (store_if t a p e) ≡ length a
length_if true a p e = length_store a p e
length_if false a p e = refl

pub freed_length : {g : Params} {m : ℕ} {s : Server} {a : List ℕ} {r : S.Effect} → Freed g m s a r → length r.area ≡ length a
unfolding S.accept
freed_length nothing = refl
freed_length (accepts {s = s} {a} w i R f) = freed_length f ∙ length_if (older s.stamp (S.stamp_of w)) a present_at w.entry

-- ---- a step

module _ (H : List ℕ → List ℕ) (g : Params) (me : ℕ) (s : Server) (a initial : List ℕ) (j c : ℕ) where
  -- a frame from party j of client c's open write, and what it does before anything is accepted
  pub data Counted : Body → S.Counting → Type 0 where
    block : (z : Stage) (o : Offer) → Counted (block_is z o) (S.on_block H g me a c (slot_of s c) j z o)

  -- the write stays open
  pub counted_sequence : {b : Body} {p : S.Counting} → Counted b p → p.slot.sequence ≡ (slot_of s c).sequence
  unfolding S.on_block S.voted_block
  counted_sequence (block send o) = refl
  counted_sequence (block echo o) = refl
  counted_sequence (block ready o) = refl

  -- what goes out goes to all: one body, or nothing
  pub record Casts (l : List Sending) : Type 0 where
    pub speaks : Bool
    pub says : Body
    pub is : IsCast says
    pub sends : l ≡ pick speaks (to_all g (λ i. message c (slot_of s c).sequence says)) []

  voted_casts : (a : List ℕ) (x : Slot) (o : Offer) → x.sequence ≡ (slot_of s c).sequence → Casts (S.voted_block H g me a c x o).sends
  unfolding S.voted_block
  voted_casts a x o q = record {
    speaks = due (block_rules H g) g.n g.t (block_view g a c x) o;
    says = block_is ready ((block_rules H g).own me (block_view g a c x).echoes (block_view g a c x).readies o);
    is = tt;
    sends = rw q;
  }

  pub counted_casts : {b : Body} {p : S.Counting} → Counted b p → Casts p.sends
  unfolding S.on_block pick
  counted_casts (block send o) = record { speaks = true; says = block_is echo o; is = tt; sends = refl }
  counted_casts (block echo o) = voted_casts _ _ o refl
  counted_casts (block ready o) = voted_casts _ _ o refl

  voted_length : (a : List ℕ) (x : Slot) (o : Offer) → length (S.voted_block H g me a c x o).area ≡ length a
  unfolding S.voted_block
  voted_length a x o = rw length_if

  pub counted_length : {b : Body} {p : S.Counting} → Counted b p → length p.area ≡ length a
  unfolding S.on_block S.voted_block
  counted_length (block send o) = refl
  counted_length (block echo o) =
      voted_length (store_entry a (echo_at c j) o.entry) (with_blocks (slot_of s c) (block_echo (slot_of s c).blocks j o.time)) o
      ∙ length_store a (echo_at c j) o.entry
  counted_length (block ready o) =
      voted_length (store_entry a (ready_at c j) o.entry) (with_blocks (slot_of s c) (block_ready (slot_of s c).blocks j o.time)) o
      ∙ length_store a (ready_at c j) o.entry

  -- what a step for client c's operation q does: nothing, an answer, a reader noted or ended, a frame counted, or a report
  -- kept, and then what is accepted
  pub data Shape (q : ℕ) : Body → S.Effect → Type 0 where
    idle : (b : Body) → Shape q b (S.send_only s a [])
    answers : Shape q get_stamp (S.send_only s a (sending (P.Client c) (message c q (stamp_is s.stamp.time)) ∷ []))
    notes : Shape q ask_read (S.send_only (with_reader s c (record { sequence = q; listening = true; noted = s.stamp })) a
        (sending (P.Client c) (message c q (value_is s.stamp (present_entry g s.stamp a initial))) ∷ []))
    ends : Shape q read_complete (S.send_only (with_reader s c (record { sequence = q; listening = false; noted = (reader_of s c).noted })) a [])
    settles : (b : Body) (p : S.Counting) → Counted b p → {r : S.Effect} → Freed g S.rounds (with_slot s c p.slot) p.area r → Shape q b (S.behind p r)
    hears : (T : ℕ) {r : S.Effect} → Freed g S.rounds (with_report s j T) a r → Shape q (report T) r

  pub step_length : {q : ℕ} {b : Body} {r : S.Effect} → Shape q b r → length r.area ≡ length a
  step_length (idle b) = refl
  step_length answers = refl
  step_length notes = refl
  step_length ends = refl
  step_length (settles b p k f) = freed_length f ∙ counted_length k
  step_length (hears T f) = freed_length f

  pub shape : (q : ℕ) (b : Body) → Shape q b (S.on_body H g me s a initial j c q b)
  unfolding S.on_body S.on_read S.on_read_complete S.settle
  shape q get_stamp = answers
  shape q ack = idle ack
  shape q ask_read = notes
  shape q read_complete = ends
  shape q (stamp_is T) = idle (stamp_is T)
  shape q (block_is z o) = settles _ _ (block z o) (freed g _ _ z)
  shape q (value_is x e) = idle (value_is x e)
  shape q (report T) = hears T (free g S.rounds _ a)

module _ (H : List ℕ → List ℕ) (g : Params) (me : ℕ) (s : Server) (a initial : List ℕ) (from : Party) where
  -- the same of a message
  abbrev pub ShapeOf : Message → S.Effect → Type 0
  ShapeOf m r = Shape H g me s a initial (number_in from) m.client m.sequence m.body r

  pub shape_of : (m : Message) → ShapeOf m (S.effect H g me s a initial from m)
  unfolding S.effect
  shape_of m = shape H g me s a initial (number_in from) m.client m.sequence m.body

  -- of a delivery: refused, and nothing is done, or a message taken
  pub data Delivery (j : Judged) : S.Effect → Type 0 where
    refused : (x : Refusal) → j ≡ bad x → Delivery j (S.send_only s a [])
    taken : (m : Message) → j ≡ good m → {r : S.Effect} → ShapeOf m r → Delivery j r

  pub shape_delivered : (f out to : List ℕ) → Delivery (judge H g me s a initial from f out to) (SD.delivered H g me s a initial from f out to)
  unfolding SD.delivered SD.effect_by
  shape_delivered f out to = go (judge H g me s a initial from f out to) refl
    where
      go : (j : Judged) → judge H g me s a initial from f out to ≡ j → Delivery (judge H g me s a initial from f out to) (SD.effect_by H g me j s a initial from)
      go (bad x) e = refused x e
      go (good m) e = taken m e (shape_of m)
