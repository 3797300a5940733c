-- A delivery to a server, with what its chunks hold in place of its area: the same server, frames and acceptance. Assumes nothing.
use Prim.Native.Nat.{ℕ, zero, suc}
use native.Mathlib.Omega.{arith}
use mathlib.Core.Bool.{Bool, true, false, not, ◌&&◌}
use mathlib.Core.Path.{◌≡◌, refl, ap, subst}
use mathlib.Core.Option.{Option, none, some}
use mathlib.Core.List.{List, [], ◌∷◌, ◌++◌}
use lib.ListN.{length, get_or, take}
use lib.Dec.{eqb}
use Rattle.quorum.specs.Quorum.{Among}
use Rattle.quorum.proofs.Logic.{and_split}
use Rattle.area.specs.Area.{pick}
use Rattle.blocks.specs.declared.Params.{Params}
use Rattle.frame.specs.declared.Party.{Party}
use Rattle.frame.specs.declared.Party.TheVariants as P
use Rattle.frame.specs.Params.{width, Bounded, params_test}
use Rattle.frame.specs.Stamps.{older}
use Rattle.frame.specs.Frames.{opened}
use Rattle.frame.specs.Messages.{Entry, entry, Offer, offer, Sized, Stage, send, echo, ready, Body, get_stamp, ack, ask_read, read_complete}
use Rattle.frame.specs.Messages.{stamp_is, block_is, value_is, report, message, Sending, sending, to_all, number_in, Judged, bad, good, after}
use Rattle.frame.specs.Chunks.{entry_at, complete_at, echo_at, ready_at, area_bytes}
use Rattle.frame.proofs.Sizes.{Small}
use Rattle.server_rules.specs.declared.Slot.{Slot}
use Rattle.server_rules.specs.declared.Server.{Server}
use Rattle.server_rules.specs.Broadcast.{Part, kept, due, full}
use Rattle.server_rules.specs.Rules.{block_rules}
use Rattle.server_rules.specs.State.{slot_of, with_slot, with_reader, with_report, with_blocks, block_view, present_block, present_entry, block_echo, block_ready}
use Rattle.server_rules.specs.State.{block_marks}
use Rattle.server_rules.specs.Steps as S
use Rattle.server_rules.specs.Tests as ST
use Rattle.server_rules.specs.Delivery as SD
use Rattle.server_rules.proofs.Decoding.{coded}
use Rattle.server_rules.proofs.Freeing.{done_sized}
use Rattle.server_rules.proofs.Passing.{SizedIn, SenderIs, block_sender, test_split}
use Rattle.server_rules.proofs.Shapes.{offer_of, Ripe, lowest_some}
use Rattle.server_rules.proofs.Taking.{took}
use Rattle.runs.specs.World.{put}
use Rattle.witness.proofs.Areas.{put_if, Shows, stored, stored_if}

-- what a delivery leaves and does, the entries in place of the area
pub record Seen : Type 0 where
  pub server : Server
  pub entries : ℕ → Entry
  pub sends : List Sending
  pub accepted : List S.Write

abbrev pub seen : S.Effect → (ℕ → Entry) → Seen
seen r f = record { server = r.server; entries = f; sends = r.sends; accepted = r.accepted }

-- what a counted frame does before anything is accepted
pub record Counted : Type 0 where
  pub slot : Slot
  pub entries : ℕ → Entry
  pub sends : List Sending

abbrev pub counted : S.Counting → (ℕ → Entry) → Counted
counted p f = record { slot = p.slot; entries = f; sends = p.sends }

-- the broadcast of client c's slot x
abbrev pub view_by : (ℕ → Entry) → ℕ → Slot → Part Offer
view_by f c x = record {
  sent = x.blocks.sent;
  ready = x.blocks.ready;
  echoes = λ j. kept (get_or x.blocks.echoes j false) (offer (get_or x.blocks.echoed j 0) (f (echo_at c j)));
  readies = λ j. kept (get_or x.blocks.readies j false) (offer (get_or x.blocks.readied j 0) (f (ready_at c j)));
  done = kept x.blocks.complete (offer x.blocks.time (f (complete_at c)));
}

-- client c's write that can be accepted, and that of the lowest of clients c to c + m - 1
abbrev pub ripe_by : Params → Server → (ℕ → Entry) → ℕ → Option S.Write
ripe_by g s f c = S.ripe_by g s c (slot_of s c).sequence (view_by f c (slot_of s c)).done

unfoldable pub lowest_by : Params → Server → (ℕ → Entry) → ℕ → ℕ → Option S.Write
lowest_by g s f c zero = none
lowest_by g s f c (suc m) = S.or_else (ripe_by g s f c) (lowest_by g s f (suc c) m)

-- an acceptance, and what follows it
abbrev pub also_by : S.Effect → Seen → Seen
also_by x y = record { server = y.server; entries = y.entries; sends = x.sends ++ y.sends; accepted = x.accepted ++ y.accepted }

abbrev pub accepted_by : (ℕ → Entry) → Server → S.Write → (ℕ → Entry)
accepted_by f s w = put_if (older s.stamp (S.stamp_of w)) f 0 w.entry

-- writes are accepted while there is one, m at most
unfoldable pub free_by : Params → ℕ → Server → (ℕ → Entry) → Seen
free_by g zero s f = seen (S.send_only s [] []) f
free_by g (suc m) s f = elim (lowest_by g s f 1 8) [
  | some w ↦ also_by (S.accept g s [] w) (free_by g m (S.accept g s [] w).server (accepted_by f s w))
  | none ↦ seen (S.send_only s [] []) f
]

unfoldable pub freed_by : Params → Stage → Server → (ℕ → Entry) → Seen
freed_by g send s f = seen (S.send_only s [] []) f
freed_by g echo s f = free_by g 8 s f
freed_by g ready s f = free_by g 8 s f

abbrev pub behind_by : List Sending → Seen → Seen
behind_by l r = record { server = r.server; entries = r.entries; sends = l ++ r.sends; accepted = r.accepted }

unfoldable pub settled_by : Params → Server → ℕ → Stage → Counted → Seen
settled_by g s c z n = behind_by n.sends (freed_by g z (with_slot s c n.slot) n.entries)

module _ (H : List ℕ → List ℕ) (g : Params) (me : ℕ) where
  unfoldable pub voted_by : Part Offer → (ℕ → Entry) → ℕ → Slot → Offer → Counted
  voted_by w f c x o =
      let r = due (block_rules H g) g.n g.t w o in
      let u = full (block_rules H g) g.n g.t w o in
      let own = (block_rules H g).own me w.echoes w.readies o in
      record {
        slot = with_blocks x (block_marks x.blocks r u o.time);
        entries = put_if (not x.blocks.complete && u) f (complete_at c) own.entry;
        sends = pick r (to_all g (λ j. message c x.sequence (block_is ready own))) [];
      }

  unfoldable pub block_by : (ℕ → Entry) → ℕ → Slot → ℕ → Stage → Offer → Counted
  block_by f c x j send o = counted (S.on_block H g me [] c x j send o) f
  block_by f c x j echo o =
      let y = with_blocks x (block_echo x.blocks j o.time) in
      voted_by (view_by (put f (echo_at c j) o.entry) c y) (put f (echo_at c j) o.entry) c y o
  block_by f c x j ready o =
      let y = with_blocks x (block_ready x.blocks j o.time) in
      voted_by (view_by (put f (ready_at c j) o.entry) c y) (put f (ready_at c j) o.entry) c y o

  -- what a read is answered with
  abbrev pub answer_by : Server → (ℕ → Entry) → List ℕ → Entry
  answer_by s f initial = entry (f 0).digests (pick (eqb s.stamp.time 0) (take (width g) initial) (f 0).block)

  unfoldable pub body_by : Server → (ℕ → Entry) → List ℕ → ℕ → ℕ → ℕ → Body → Seen
  body_by s f initial j c q get_stamp = seen (S.on_body H g me s [] initial j c q get_stamp) f
  body_by s f initial j c q ack = seen (S.on_body H g me s [] initial j c q ack) f
  body_by s f initial j c q ask_read = record {
    server = with_reader s c (record { sequence = q; listening = true; noted = s.stamp });
    entries = f;
    sends = sending (P.Client c) (message c q (value_is s.stamp (answer_by s f initial))) ∷ [];
    accepted = [];
  }
  body_by s f initial j c q read_complete = seen (S.on_body H g me s [] initial j c q read_complete) f
  body_by s f initial j c q (stamp_is T) = seen (S.on_body H g me s [] initial j c q (stamp_is T)) f
  body_by s f initial j c q (block_is z o) = settled_by g s c z (block_by f c (slot_of s c) j z o)
  body_by s f initial j c q (value_is x e) = seen (S.on_body H g me s [] initial j c q (value_is x e)) f
  body_by s f initial j c q (report T) = free_by g 8 (with_report s j T) f

  unfoldable pub served_by : Judged → Server → (ℕ → Entry) → List ℕ → Party → Seen
  served_by (bad r) s f initial from = seen (S.send_only s [] []) f
  served_by (good m) s f initial from = body_by s f initial (number_in from) m.client m.sequence m.body

  -- the tests, where the state area and the initial area have their least lengths
  unfoldable pub judge_by : Server → Party → List ℕ → List ℕ → List ℕ → Judged
  judge_by s from f out to =
      after (params_test g me g.n) (ST.judge_opened H g me (opened g f) (ST.room_test g area_bytes (width g) (length out) (length to)) s from f)

  -- the whole delivery
  unfoldable pub served : Server → (ℕ → Entry) → List ℕ → Party → List ℕ → List ℕ → List ℕ → Seen
  served s h initial from f out to = served_by (judge_by s from f out to) s h initial from

-- ---- they agree

pub record Sees (g : Params) (r : S.Effect) (m : Seen) : Type 0 where
  pub server : r.server ≡ m.server
  pub sends : r.sends ≡ m.sends
  pub accepted : r.accepted ≡ m.accepted
  pub area : Shows g area_bytes r.area m.entries

view_seen : (g : Params) (a : List ℕ) (f : ℕ → Entry) → ((p : ℕ) → entry_at g a p ≡ f p) → (c : ℕ) (x : Slot) → block_view g a c x ≡ view_by f c x
unfolding block_view
view_seen g a f h c x i = record {
  sent = x.blocks.sent;
  ready = x.blocks.ready;
  echoes = λ j. kept (get_or x.blocks.echoes j false) (offer (get_or x.blocks.echoed j 0) (h (echo_at c j) i));
  readies = λ j. kept (get_or x.blocks.readies j false) (offer (get_or x.blocks.readied j 0) (h (ready_at c j) i));
  done = kept x.blocks.complete (offer x.blocks.time (h (complete_at c) i));
}

module _ (H : List ℕ → List ℕ) (g : Params) (B : Bounded g) (M : Small g) (me : ℕ) where
  ripe_seen : (s : Server) (a : List ℕ) (f : ℕ → Entry) → Shows g area_bytes a f → (c : ℕ) → S.ripe g s a c ≡ ripe_by g s f c
  unfolding S.ripe
  ripe_seen s a f X c = ap (λ v. S.ripe_by g s c (slot_of s c).sequence v.done) (view_seen g a f X.at c (slot_of s c))

  lowest_seen : (s : Server) (a : List ℕ) (f : ℕ → Entry) → Shows g area_bytes a f → (c m : ℕ) → S.lowest g s a c m ≡ lowest_by g s f c m
  unfolding S.lowest lowest_by
  lowest_seen s a f X c zero = refl
  lowest_seen s a f X c (suc m) = let e = ripe_seen s a f X c in let h = lowest_seen s a f X (suc c) m in λ i. S.or_else (e i) (h i)

  accept_seen : (s : Server) (a : List ℕ) (f : ℕ → Entry) → Shows g area_bytes a f → (w : S.Write) → Among 8 w.client → Ripe g s a w
      → Sees g (S.accept g s a w) (seen (S.accept g s [] w) (accepted_by f s w))
  unfolding S.accept
  accept_seen s a f X w i R = record {
    server = refl;
    sends = refl;
    accepted = refl;
    area = stored_if g M area_bytes a f X 0 (omega arith) w.entry (older s.stamp (S.stamp_of w))
        (λ h. done_sized g M a (omega (arith, X.long)) w.client i (slot_of s w.client) (offer_of w) R.complete);
  }

  same_server : (s : Server) (a : List ℕ) (w : S.Write) → (S.accept g s a w).server ≡ (S.accept g s [] w).server
  unfolding S.accept
  same_server s a w = refl

  free_seen : (m : ℕ) (s : Server) (a : List ℕ) (f : ℕ → Entry) → Shows g area_bytes a f → Sees g (S.free g m s a) (free_by g m s f)
  unfolding S.free free_by
  free_seen zero s a f X = record { server = refl; sends = refl; accepted = refl; area = X }
  free_seen (suc m) s a f X =
      subst (λ o. Sees g (S.free g (suc m) s a) (Next o)) (lowest_seen s a f X 1 8)
      (go (λ w Y. free_seen m (S.accept g s a w).server (S.accept g s a w).area (accepted_by f s w) Y) (S.lowest g s a 1 8) refl)
    where
      Next : Option S.Write → Seen
      Next o = elim o [
        | some w ↦ also_by (S.accept g s [] w) (free_by g m (S.accept g s [] w).server (accepted_by f s w))
        | none ↦ seen (S.send_only s [] []) f
      ]

      Real : Option S.Write → S.Effect
      Real o = elim o [
        | some w ↦ S.and_also (S.accept g s a w) (S.free g m (S.accept g s a w).server (S.accept g s a w).area)
        | none ↦ S.send_only s a []
      ]

      go : ((w : S.Write) → Shows g area_bytes (S.accept g s a w).area (accepted_by f s w)
          → Sees g (S.free g m (S.accept g s a w).server (S.accept g s a w).area) (free_by g m (S.accept g s a w).server (accepted_by f s w)))
          → (o : Option S.Write) → S.lowest g s a 1 8 ≡ o → Sees g (Real o) (Next o)
      go rest none e = record { server = refl; sends = refl; accepted = refl; area = X }
      go rest (some w) e =
          let (i, R) = lowest_some g s a w e in
          let A = accept_seen s a f X w i R in
          let q = subst (λ t. Sees g (S.free g m (S.accept g s a w).server (S.accept g s a w).area) (free_by g m t (accepted_by f s w))) (same_server s a w)
          (rest w A.area) in
          record {
            server = q.server;
            sends = λ z. A.sends z ++ q.sends z;
            accepted = λ z. A.accepted z ++ q.accepted z;
            area = q.area;
          }

  freed_seen : (s : Server) (a : List ℕ) (f : ℕ → Entry) → Shows g area_bytes a f → (z : Stage) → Sees g (S.freed g z s a) (freed_by g z s f)
  unfolding S.freed freed_by
  freed_seen s a f X send = record { server = refl; sends = refl; accepted = refl; area = X }
  freed_seen s a f X echo = free_seen 8 s a f X
  freed_seen s a f X ready = free_seen 8 s a f X

  settle_seen : (s : Server) (c : ℕ) → Among 8 c → (p : S.Counting) (f : ℕ → Entry) → Shows g area_bytes p.area f → (z : Stage)
      → Sees g (S.settle g s c z p) (settled_by g s c z (counted p f))
  unfolding S.settle settled_by
  settle_seen s c is p f X z =
      let r = freed_seen (with_slot s c p.slot) p.area f X z in
      record { server = r.server; sends = ap (λ l. p.sends ++ l) r.sends; accepted = r.accepted; area = r.area }

  voted_seen : (s : Server) (a : List ℕ) (f : ℕ → Entry) → Shows g area_bytes a f → (c : ℕ) → Among 8 c → (z : Stage) (x : Slot) (o : Offer) → Sized g o.entry
      → Sees g (S.settle g s c z (S.voted_block H g me a c x o)) (settled_by g s c z (voted_by H g me (view_by f c x) f c x o))
  unfolding S.voted_block voted_by
  voted_seen s a f X c is z x o Q =
      subst (λ w. Sees g (S.settle g s c z (S.voted_block H g me a c x o)) (settled_by g s c z (voted_by H g me w f c x o))) (view_seen g a f X.at c x)
      (settle_seen s c is (S.voted_block H g me a c x o) _
      (stored_if g M area_bytes a f X (complete_at c) (omega (arith, is.0, is.1)) _
      (not x.blocks.complete && full (block_rules H g) g.n g.t (block_view g a c x) o)
      (λ h. coded H g B.blocks_low me (block_view g a c x) o Q (and_split (not x.blocks.complete) _ h).1)) z)

  block_seen : (s : Server) (a : List ℕ) (f : ℕ → Entry) → Shows g area_bytes a f → (c : ℕ) → Among 8 c → (j : ℕ) (z : Stage) (o : Offer) → Sized g o.entry
      → (from : Party) → SenderIs g from c z → j ≡ number_in from
      → Sees g (S.settle g s c z (S.on_block H g me a c (slot_of s c) j z o)) (settled_by g s c z (block_by H g me f c (slot_of s c) j z o))
  unfolding S.on_block block_by
  block_seen s a f X c is j send o Q from h n = settle_seen s c is (S.on_block H g me a c (slot_of s c) j send o) f X send
  block_seen s a f X c is j echo o Q from h n =
      voted_seen s _ _ (stored g M area_bytes a f X (echo_at c j) (omega (arith, is.0, is.1, n, h.1.1, B.servers_high)) o.entry Q) c is echo
      (with_blocks (slot_of s c) (block_echo (slot_of s c).blocks j o.time)) o Q
  block_seen s a f X c is j ready o Q from h n =
      voted_seen s _ _ (stored g M area_bytes a f X (ready_at c j) (omega (arith, is.0, is.1, n, h.1.1, B.servers_high)) o.entry Q) c is ready
      (with_blocks (slot_of s c) (block_ready (slot_of s c).blocks j o.time)) o Q

  present_seen : (s : Server) (a : List ℕ) (f : ℕ → Entry) → Shows g area_bytes a f → (initial : List ℕ)
      → present_entry g s.stamp a initial ≡ answer_by H g me s f initial
  unfolding present_entry present_block entry_at
  present_seen s a f X initial i = entry (X.at 0 i).digests (pick (eqb s.stamp.time 0) (take (width g) initial) (X.at 0 i).block)

  body_seen : (s : Server) (a : List ℕ) (f : ℕ → Entry) → Shows g area_bytes a f → (initial : List ℕ) (from : Party) (c q : ℕ) → Among 8 c → (b : Body)
      → SizedIn g b
      → ST.sender_right g from c b ≡ true → Sees g (S.on_body H g me s a initial (number_in from) c q b) (body_by H g me s f initial (number_in from) c q b)
  unfolding S.on_body S.on_read S.on_read_complete body_by
  body_seen s a f X initial from c q is get_stamp Q p = record { server = refl; sends = refl; accepted = refl; area = X }
  body_seen s a f X initial from c q is ack Q p = record { server = refl; sends = refl; accepted = refl; area = X }
  body_seen s a f X initial from c q is ask_read Q p = record {
    server = refl;
    sends = ap (λ e. sending (P.Client c) (message c q (value_is s.stamp e)) ∷ []) (present_seen s a f X initial);
    accepted = refl;
    area = X;
  }
  body_seen s a f X initial from c q is read_complete Q p = record { server = refl; sends = refl; accepted = refl; area = X }
  body_seen s a f X initial from c q is (stamp_is T) Q p = record { server = refl; sends = refl; accepted = refl; area = X }
  body_seen s a f X initial from c q is (block_is z o) Q p = block_seen s a f X c is (number_in from) z o Q from (block_sender g from c z o p) refl
  body_seen s a f X initial from c q is (report T) Q p = free_seen 8 (with_report s (number_in from) T) a f X
  body_seen s a f X initial from c q is (value_is x e) Q p = record { server = refl; sends = refl; accepted = refl; area = X }

  pub judge_seen : (s : Server) (a initial : List ℕ) (from : Party) (f out to : List ℕ) → length a ≡ area_bytes → length initial ≡ width g
      → ST.judge H g me s a initial from f out to ≡ judge_by H g me s from f out to
  unfolding ST.judge judge_by
  judge_seen s a initial from f out to e h i =
      after (params_test g me g.n) (ST.judge_opened H g me (opened g f) (ST.room_test g (e i) (h i) (length out) (length to)) s from f)

  pub server_seen : (s : Server) (a : List ℕ) (h : ℕ → Entry) → Shows g area_bytes a h → (initial : List ℕ) → length initial ≡ width g
      → (from : Party) (f out to : List ℕ)
      → Sees g (SD.delivered H g me s a initial from f out to) (served H g me s h initial from f out to)
  unfolding SD.delivered SD.effect_by served served_by S.effect
  server_seen s a h X initial long from f out to =
      subst (λ j. Sees g (SD.delivered H g me s a initial from f out to) (served_by H g me j s h initial from))
      (judge_seen s a initial from f out to X.long long)
      (go (ST.judge H g me s a initial from f out to) refl)
    where
      go : (j : Judged) → ST.judge H g me s a initial from f out to ≡ j → Sees g (SD.effect_by H g me j s a initial from) (served_by H g me j s h initial from)
      go (bad r) e = record { server = refl; sends = refl; accepted = refl; area = X }
      go (good m) e =
          let T = took H g me s a initial from f out to m e in
          body_seen s a h X initial from m.client m.sequence T.client m.body T.sized (test_split H g me s from m T.passes).0
