-- What one delivered frame does to a server's present stamp and to its listeners, and what it answers clients: the record StampFacts, which is all that runs
-- need of a step here. Assumes nothing.
use Rattle.frame.specs.Refusals.{fine}
use Prim.Native.Nat.{ℕ, ◌≤◌, ◌<◌}
use native.Mathlib.Omega.{arith}
use native.Mathlib.Decide.{ℕ_discrete}
use mathlib.Core.Bool.{true, false}
use mathlib.Core.Path.{◌≡◌, refl, ap, sym, ◌∙◌, subst}
use mathlib.Core.Logic.{◌⊎◌, inl, inr, ⊎_elim}
use mathlib.Core.List.Memᴰ
use mathlib.Core.List.{List, [], ◌∷◌, ◌++◌, Memᴰ}
use lib.ListN.{length, get_or}
use lib.Seq.{get_or-set_same, get_or-set_other}
use Rattle.quorum.specs.Quorum.{Among}
use Rattle.quorum.proofs.Logic.{impossible}
use Rattle.area.specs.Area.{part}
use Rattle.blocks.specs.declared.Params.{Params}
use Rattle.frame.specs.declared.Stamp.{Stamp}
use Rattle.frame.specs.declared.Party.{Party}
use Rattle.frame.specs.declared.Party.TheVariants as A
use Rattle.frame.specs.Chunks.{entry_at, area_bytes}
use Rattle.frame.specs.Messages.{Entry, Body, get_stamp, ack, ask_read, stamp_is, value_is, report, Message, message, Sending, sending, number_in, Formed}
use Rattle.frame.specs.Params.{listed, Bounded}
use Rattle.frame.proofs.Sizes.{small}
use Rattle.server_rules.specs.declared.Reader.{Reader}
use Rattle.server_rules.specs.declared.Server.{Server}
use Rattle.server_rules.specs.State.{no_reader, reader_of, with_reader, with_slot, present_entry}
use Rattle.server_rules.specs.Steps as S
use Rattle.server_rules.specs.Tests as ST
use Rattle.server_rules.proofs.Casts.{IsCast}
use Rattle.server_rules.proofs.Views.{shapes}
use Rattle.server_rules.proofs.Accepting.{Told, Says}
use Rattle.server_rules.proofs.Accepting as Y
use Rattle.server_rules.proofs.Shapes.{Freed, Counted, Shape, idle, answers, notes, ends, settles, hears, shape_of}
use Rattle.server_rules.proofs.Passing.{SizedIn, is_owner, test_split, counted_from}
use Rattle.server_rules.proofs.Within.{slot_within, reader_within}
use Rattle.server_rules.proofs.Counting.{counted_present}
use Rattle.server_rules.proofs.Freeing.{freed_readers, freed_present, freed_stamp, freed_mem}
use Rattle.server_rules.proofs.Speaking.{counted_cast}
use Rattle.steps.proofs.ServerFits.{ServerShape, report_shape}
use Rattle.steps.proofs.ServerRanges.{StampInBounds, ranges, InBounds, write_stamp_in_bounds, freed_in_bounds, effect_in_bounds}
use Rattle.steps.proofs.ServerRanges.{shaped_between, counted_in_bounds, report_in_bounds}
use Rattle.steps.proofs.Keys.{key, older_key, not_older}

module _ (H : List ℕ → List ℕ) (g : Params) where
  -- the digest list of the present value
  abbrev pub held : List ℕ → List ℕ
  held a = part a 0 (listed g)

  -- a listener is told of what was accepted
  pub record Tells (s : Server) (r : S.Effect) (c q : ℕ) (x : Stamp) (e : Entry) : Type 0 where
    pub tk : S.Write
    pub is : Memᴰ tk r.accepted
    pub stamp : x ≡ S.stamp_of tk
    pub entry : e ≡ tk.entry
    pub client : Among 8 c
    pub newest : (reader_of s c).sequence ≡ q
    pub live : (reader_of s c).listening ≡ true
    pub above : key (reader_of s c).noted < key x
    pub below : key x ≤ key r.server.stamp

  pub record StampFacts (s : Server) (a initial : List ℕ) (from : Party) (m : Message) (r : S.Effect) : Type 0 where
    pub up : key s.stamp ≤ key r.server.stamp
    pub ack_accepted : (b : Party) (c q : ℕ) → Memᴰ (sending b (message c q ack)) r.sends
        → (tk : S.Write) × Memᴰ tk r.accepted × (tk.client ≡ c) × (tk.sequence ≡ q) × (key (S.stamp_of tk) ≤ key r.server.stamp)
    pub value_written : (b : Party) (c q : ℕ) (x : Stamp) (e : Entry) → Memᴰ (sending b (message c q (value_is x e))) r.sends
        → ((from ≡ A.Client c) × (m ≡ message c q ask_read) × (x ≡ s.stamp) × (e ≡ present_entry g s.stamp a initial)) ⊎ Tells s r c q x e
    pub stamped : (b : Party) (c q T : ℕ) → Memᴰ (sending b (message c q (stamp_is T))) r.sends
        → (from ≡ A.Client c) × (m ≡ message c q get_stamp) × (T ≡ s.stamp.time)
    pub noting : (c : ℕ) → (reader_of r.server c).listening ≡ true
        → (reader_of r.server c ≡ reader_of s c)
        ⊎ ((from ≡ A.Client c) × (m ≡ message c (reader_of r.server c).sequence ask_read) × ((reader_of r.server c).noted ≡ s.stamp))
    pub present_new : ((r.server.stamp ≡ s.stamp) × (held r.area ≡ held a))
        ⊎ ((tk : S.Write) × Memᴰ tk r.accepted × (r.server.stamp ≡ S.stamp_of tk) × (held r.area ≡ tk.entry.digests))

  module _ (L : Bounded g) (me : ℕ) (s : Server) (B : InBounds s) (a initial : List ℕ) (F : ServerShape s a) (from : Party) (c q : ℕ) where
    reader_cases : c ≤ 8 → (r : Reader) (d : ℕ) → ((d ≡ c) × (reader_of (with_reader s c r) d ≡ r)) ⊎ (reader_of (with_reader s c r) d ≡ reader_of s d)
    reader_cases h r d = go (ℕ_discrete d c)
      where
        go : Dec (d ≡ c) → ((d ≡ c) × (reader_of (with_reader s c r) d ≡ r)) ⊎ (reader_of (with_reader s c r) d ≡ reader_of s d)
        go (yes z) = inl (z, ap (λ y. reader_of (with_reader s c r) y) z ∙ get_or-set_same s.readers c r no_reader (omega (arith, B.readers.0)))
        go (no z) = inr (get_or-set_other s.readers c d r no_reader z)

    body_is : {b b' : Body} {to t : Party} {d n : ℕ} → Memᴰ (sending to (message d n b)) (sending t (message c q b') ∷ []) → (d ≡ c) × (n ≡ q) × (b ≡ b')
    body_is u = let e = Memᴰ.eq_of_singleton u in (ap (λ z. z.says.client) e, ap (λ z. z.says.sequence) e, ap (λ z. z.says.body) e)

    -- a message for client c's operation q is for this d's operation n
    renamed : {d n : ℕ} → d ≡ c → n ≡ q → (b : Body) → from ≡ A.Client c → (from ≡ A.Client d) × (message c q b ≡ message d n b)
    renamed ec en b e = (e ∙ ap A.Client (sym ec), λ i. message (sym ec i) (sym en i) b)

    -- ---- what is accepted

    -- Between s and what is accepted the stamp, the readers and the present value are the same; l was said to servers before.
    module _ (b : Body) {s₁ : Server} {a₁ : List ℕ} (F₁ : ServerShape s₁ a₁) (B₁ : InBounds s₁) (es : s₁.stamp ≡ s.stamp) (er : s₁.readers ≡ s.readers)
        (eh : held a₁ ≡ held a) (l : List Sending) (casts : (y : Sending) → Memᴰ y l → IsCast y.says.body) {r : S.Effect} (x : Freed g 8 s₁ a₁ r)
        (B' : InBounds r.server) (ds : List (List ℕ)) where
      bounds : (w : S.Write) → Memᴰ w r.accepted → StampInBounds (S.stamp_of w)
      bounds w m = write_stamp_in_bounds g w (freed_in_bounds H g L me s B a initial F from x F₁ B₁ w m)

      abbrev whole : S.Effect
      whole = record { server = r.server; area = r.area; sends = l ++ r.sends; accepted = r.accepted; decodes = ds }

      -- a word to a client is after an acceptance
      behind : (y : Sending) → (IsCast y.says.body → ⊥) → Memᴰ y (l ++ r.sends)
          → (w : S.Write) × Memᴰ w r.accepted × (key (S.stamp_of w) ≤ key r.server.stamp) × Says g s₁ w y
      behind y n u = ⊎_elim
          (λ v. absurd (n (casts y v)))
          (λ v.
          let (w, m, t) = freed_mem x y v in
          (w, m, not_older _ _ B'.stamp (bounds w m) ((freed_stamp x).1 w m), t))
          (Memᴰ.append_cases l u)

      tells : (w : S.Write) → Memᴰ w r.accepted → key (S.stamp_of w) ≤ key r.server.stamp → (to : Party) (d n : ℕ) (v : Stamp) (e : Entry) (i : ℕ)
          → Among 8 i → Told s₁.readers (S.stamp_of w) w.entry i (sending to (message d n (value_is v e))) → Tells s whole d n v e
      tells w m l to d n v e i is t₁ =
          let t : Told s.readers (S.stamp_of w) w.entry i (sending to (message d n (value_is v e))) =
          subst (λ rs. Told rs (S.stamp_of w) w.entry i (sending to (message d n (value_is v e)))) er t₁ in
          let ed : d ≡ i = ap (λ z. z.says.client) t.is in
          let ev : v ≡ S.stamp_of w = cc (ap (λ z. z.says.body) t.is) in
          let up = older_key (reader_of s i).noted (S.stamp_of w) (reader_within ranges B i is.1).noted (bounds w m) t.smaller in
          record {
            tk = w;
            is = m;
            stamp = ev;
            entry = cc (ap (λ z. z.says.body) t.is);
            client = subst (Among 8) (sym ed) is;
            newest = ap (λ y. (reader_of s y).sequence) ed ∙ sym (ap (λ z. z.says.sequence) t.is);
            live = ap (λ y. (reader_of s y).listening) ed ∙ t.listens;
            above = subst (λ y. key (reader_of s d).noted < key y) (sym ev) (subst (λ y. key (reader_of s y).noted < key (S.stamp_of w)) (sym ed) up);
            below = subst (λ y. key y ≤ key r.server.stamp) (sym ev) l;
          }

      acked : (to : Party) (d n : ℕ) (w : S.Write) → Says g s₁ w (sending to (message d n ack)) → (w.client ≡ d) × (w.sequence ≡ n)
      acked to d n w (Y.told i is t) = impossible (cc (ap (λ z. z.says.body) t.is))
      acked to d n w (Y.acked e) = (sym (ap (λ z. z.says.client) e), sym (ap (λ z. z.says.sequence) e))
      acked to d n w (Y.reports e t) = impossible (cc (ap (λ z. z.body) e))

      valued : (to : Party) (d n : ℕ) (v : Stamp) (e : Entry) (w : S.Write) → Memᴰ w r.accepted → key (S.stamp_of w) ≤ key r.server.stamp
          → Says g s₁ w (sending to (message d n (value_is v e))) → Tells s whole d n v e
      valued to d n v e w m l (Y.told i is t) = tells w m l to d n v e i is t
      valued to d n v e w m l (Y.acked z) = impossible (cc (ap (λ z. z.says.body) z))
      valued to d n v e w m l (Y.reports z t) = impossible (cc (ap (λ z. z.body) z))

      no_stamp : (to : Party) (d n T : ℕ) (w : S.Write) → Says g s₁ w (sending to (message d n (stamp_is T))) → ⊥
      no_stamp to d n T w (Y.told i is t) = impossible (cc (ap (λ z. z.says.body) t.is))
      no_stamp to d n T w (Y.acked e) = impossible (cc (ap (λ z. z.says.body) e))
      no_stamp to d n T w (Y.reports e t) = impossible (cc (ap (λ z. z.body) e))

      settled : StampFacts s a initial from (message c q b) whole
      unfolding entry_at
      settled = record {
        up = subst (λ y. key y ≤ key r.server.stamp) es
            (⊎_elim (λ e. rw e (omega arith)) (λ e. let l = older_key _ _ B₁.stamp B'.stamp e in omega (arith, l)) (freed_stamp x).0);
        ack_accepted = λ to d n u. let (w, m, l, t) = behind _ (λ z. z) u in let (ec, en) = acked to d n w t in (w, m, ec, en, l);
        value_written = λ to d n v e u. let (w, m, l, t) = behind _ (λ z. z) u in inr (valued to d n v e w m l t);
        stamped = λ to d n T u. let (w, m, l, t) = behind _ (λ z. z) u in absurd (no_stamp to d n T w t);
        noting = λ d l. inl (ap (λ y. get_or y d no_reader) (freed_readers x ∙ er));
        present_new = ⊎_elim
            (λ (e, h). inl (e ∙ es, ap (λ e. e.digests) h ∙ eh))
            (λ (w, m, e, h, o). inr (w, m, e, ap (λ e. e.digests) h))
            (freed_present (small g L) x F₁.room);
      }

    held_same : (b : Body) → Among 8 c → SizedIn g b → ST.sender_right g from c b ≡ true → {p : S.Counting}
        → Counted H g me s a initial (number_in from) c b p → held p.area ≡ held a
    unfolding entry_at
    held_same b at Q h k = ap (λ e. e.digests) (counted_present H g L me s a initial F.room (number_in from)
        (counted_from g from c at L.servers_high k h) c at (slot_within shapes F.within c at.1) k Q)

    -- ---- a step

    step_facts : {b : Body} {r : S.Effect} → Shape H g me s a initial (number_in from) c q b r → Formed g (message c q b) → SizedIn g b
        → ST.sender_right g from c b ≡ true
        → ST.order_test H g me s (number_in from) c q b ≡ fine → InBounds r.server → StampFacts s a initial from (message c q b) r
    unfolding ST.sender_right
    step_facts (idle b) f Q h o B' = record {
      up = omega arith;
      ack_accepted = λ to d n u. absurd (Memᴰ.not-nil u);
      value_written = λ to d n v e u. absurd (Memᴰ.not-nil u);
      stamped = λ to d n T u. absurd (Memᴰ.not-nil u);
      noting = λ d l. inl refl;
      present_new = inl (refl, refl);
    }
    step_facts answers f Q h o B' = record {
      up = omega arith;
      ack_accepted = λ to d n u. impossible (cc (body_is u).2);
      value_written = λ to d n v e u. impossible (cc (body_is u).2);
      stamped = λ to d n T u.
          let (ec, en, eb) = body_is u in
          let (ef, em) = renamed ec en get_stamp (is_owner from c h) in
          (ef, em, cc eb);
      noting = λ d l. inl refl;
      present_new = inl (refl, refl);
    }
    step_facts notes f Q h o B' = record {
      up = omega arith;
      ack_accepted = λ to d n u. impossible (cc (body_is u).2);
      value_written = λ to d n v e u.
          let (ec, en, eb) = body_is u in
          let (ef, em) = renamed ec en ask_read (is_owner from c h) in
          inl (ef, em, cc eb, cc eb);
      stamped = λ to d n T u. impossible (cc (body_is u).2);
      noting = λ d l. ⊎_elim
          (λ (ed, w). let (ef, em) = renamed ed (ap (λ y. y.sequence) w) ask_read (is_owner from c h) in inr (ef, em, ap (λ y. y.noted) w))
          (λ w. inl w)
          (reader_cases f.client_high (record { sequence = q; listening = true; noted = s.stamp }) d);
      present_new = inl (refl, refl);
    }
    step_facts ends f Q h o B' = record {
      up = omega arith;
      ack_accepted = λ to d n u. absurd (Memᴰ.not-nil u);
      value_written = λ to d n v e u. absurd (Memᴰ.not-nil u);
      stamped = λ to d n T u. absurd (Memᴰ.not-nil u);
      noting = λ d l. ⊎_elim
          (λ (ed, w). impossible (cc (ap (λ y. y.listening) w, l)))
          (λ w. inl w)
          (reader_cases f.client_high (record { sequence = q; listening = false; noted = (reader_of s c).noted }) d);
      present_new = inl (refl, refl);
    }
    step_facts (settles b p k x) f Q h o B' =
        let at : Among 8 c = (f.client_low, f.client_high) in
        settled b (shaped_between H g L me s B a initial F from c at h k) (counted_in_bounds H g L me s B a initial F from c at.1 k) refl refl
        (held_same b at Q h k) p.sends (counted_cast H g me s a initial (number_in from) c k) x B' p.decodes
    step_facts (hears T {r} x) f Q h o B' =
        settled (report T) (report_shape s a F (number_in from) T) (report_in_bounds H g L me s B a initial F from T) refl refl refl []
        (λ y u. absurd (Memᴰ.not-nil u)) x B' r.decodes

  -- each frame that passes the tests
  pub order_facts : Bounded g → (me : ℕ) (s : Server) → InBounds s → (a initial : List ℕ) → ServerShape s a → (from : Party) (m : Message) → Formed g m
      → SizedIn g m.body
      → ST.message_test H g me s from m ≡ fine → StampFacts s a initial from m (S.effect H g me s a initial from m)
  order_facts L me s B a initial F from m f Q e =
      let (h, o) = test_split H g me s from m e in
      step_facts L me s B a initial F from m.client m.sequence (shape_of H g me s a initial from m) f Q h o
      (effect_in_bounds H g L me s B a initial F from m f e)
