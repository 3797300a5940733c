-- What is accepted of an honest client's write has the digests of the value that it opened. Assumes nothing.
use Rattle.std.specs.Prelude.{Ok, Err}
use Rattle.frame.specs.Refusals.{Verdict, fine}
use Prim.Native.Nat.{ℕ, ◌+◌, ◌≤◌}
use native.Mathlib.Omega.{arith}
use mathlib.Core.Bool.{true}
use mathlib.Core.Path.{◌≡◌, refl, ap, sym, ◌∙◌, subst}
use mathlib.Core.Logic.{◌⊎◌, inl, inr, ⊎_elim}
use mathlib.Core.List.Memᴰ
use mathlib.Core.List.{List, [], ◌∷◌, Memᴰ}
use Rattle.quorum.proofs.Logic.{impossible, and_split}
use Rattle.area.specs.Area.{pick}
use Rattle.blocks.specs.declared.Params.{Params}
use Rattle.frame.specs.declared.Stamp.{Stamp}
use Rattle.frame.specs.declared.Party.{Party}
use Rattle.frame.specs.declared.Party.TheVariants as A
use Rattle.group_rules.specs.Coded.{digests_of, entry_of}
use Rattle.frame.specs.Messages.{Entry, Offer, offer, send, Body, get_stamp, ask_read, read_complete, block_is, Message, message, Sending, sending, to_all, number_in}
use Rattle.frame.proofs.Sizes.{Small}
use Rattle.server_rules.specs.Steps.{Write}
use Rattle.server_rules.proofs.Parts.{put_same, put_cases}
use Rattle.client_rules.specs.declared.Client.{Client}
use Rattle.client_rules.specs.Beginning as CB
use Rattle.client_rules.specs.Delivery as CD
use Rattle.client_rules.specs.State.{asking, writing}
use Rattle.client_rules.specs.Steps as C
use Rattle.client_rules.specs.Tests as CT
use Rattle.client_rules.proofs.Shapes.{Keeps, drops, keeps, Shape, idle, learns_writes, notes, hears, shuts, counts, ends, waits}
use Rattle.client_rules.proofs.Shapes.{completes, Delivery, refused, taken, shape_delivered, sends as disperses}
use Rattle.server_rules.proofs.Casts.{mem_all}
use Rattle.steps.proofs.ClientTaken.{learns_asking, awaited_true, asking_writing, took, passed}
use Rattle.runs.specs.Admissible.{Admissible}
use Rattle.runs.specs.Events.{At, Accepts, OpensWrite}
use Rattle.runs.specs.World.{Setup, Call, to_server, to_client, begin_read, begin_write, caller, World, ClientSide}
use Rattle.runs.specs.World.{client_left, lent_by, lent_to, run, step, sends, put, client_effect, read_effect, write_effect}
use Rattle.runs.proofs.Agreement.{small}
use Rattle.runs.proofs.Broadcasts.{SentMessage}
use Rattle.runs.proofs.Formation.{validity}
use Rattle.runs.proofs.Places.{writer_honest}
use Rattle.runs.proofs.Assumed.{Assumed}

-- ---- a client sends its lent value's blocks, under its own number

module _ (H : List ℕ → List ℕ) (g : Params) (me : ℕ) where
  abbrev pub SendsOwn : ℕ → List ℕ → List Sending → Type 0
  SendsOwn n v l = (b : Party) (d q : ℕ) (o : Offer) → Memᴰ (sending b (message d q (block_is send o))) l
      → (q ≡ n) × (digests_of H g v ≡ o.entry.digests)

  pub record Tells (s : Client) (v : List ℕ) (r : C.Effect) : Type 0 where
    pub number : r.client.writes ≡ s.writes
    pub own : SendsOwn s.writes v r.sends

  none_own : (n : ℕ) (v : List ℕ) → SendsOwn n v []
  none_own n v b d q o u = absurd (Memᴰ.not-nil u)

  quiet_tells : (s : Client) (a v : List ℕ) → Tells s v (C.quiet s a)
  quiet_tells s a v = record { number = refl; own = none_own s.writes v }

  -- to all, of one kind
  from_all : (f : ℕ → Message) (b : Party) (m : Message) → Memᴰ (sending b m) (to_all g f) → (j : ℕ) × (m ≡ f j)
  unfolding to_all
  from_all f b m u = let w = mem_all f 1 g.n (sending b m) u in (w.0, w.1)

  offer_own : (v : List ℕ) (j T : ℕ) (o : Offer) → block_is send o ≡ block_is send (offer T (entry_of H g v j)) → digests_of H g v ≡ o.entry.digests
  unfolding entry_of
  offer_own v j T o h = let w : o ≡ offer T (entry_of H g v j) = cc h in sym (ap (λ z. z.entry.digests) w)

  keeps_number : (s : Client) (a v : List ℕ) (j : ℕ) {x : Stamp} {e : Entry} {s' : Client} {a' : List ℕ} → Keeps H g me s a v j x e s' a'
      → s'.writes ≡ s.writes
  keeps_number s a v j (drops z) = refl
  keeps_number s a v j (keeps i z) = refl

  -- the lent value v is that of the open write, o, while one is open
  module _ (s : Client) (a v o : List ℕ) (own : writing s.phase ≡ true → v ≡ o) where
    shape_tells : (j q : ℕ) {b : Body} {r : C.Effect} → CT.order_test H g me s j q b ≡ fine → Shape H g me s a v j b r → Tells s o r
    unfolding CT.order_test
    shape_tells j q t (idle b) = quiet_tells s a o
    shape_tells j q t (notes T p) = record { number = refl; own = none_own s.writes o }
    shape_tells j q t (hears b k z) = record { number = learns_writes H g me s a v j k; own = none_own s.writes o }
    shape_tells j q t (disperses b k z l) =
        let e = own (asking_writing H g me s.phase (learns_asking H g me s a v j q t k)) in
        record {
          number = learns_writes H g me s a v j k;
          own = λ b d q y u.
              let w = from_all _ b _ u in
              (ap (λ z. z.sequence) w.1, ap (digests_of H g) (sym e) ∙ offer_own v w.0 _ y (ap (λ z. z.body) w.1));
        }
    shape_tells j q t (shuts b k z l) = record { number = learns_writes H g me s a v j k; own = none_own s.writes o }
    shape_tells j q t (counts z) = record { number = refl; own = none_own s.writes o }
    shape_tells j q t (ends z) = record { number = refl; own = none_own s.writes o }
    shape_tells j q t (waits x e k z) = record { number = keeps_number s a v j k; own = none_own s.writes o }
    shape_tells j q t (completes x e {s'} k y z) = record {
      number = keeps_number s a v j k;
      own = λ b d q y u. let w = from_all (λ i. message me s'.reads read_complete) b _ u in impossible (cc (ap (λ z. z.body) w.1));
    }

    pub delivered_tells : (from : Party) (f result out to : List ℕ) → Tells s o (CD.delivered H g me s a v from f result out to)
    delivered_tells from f result out to = go (shape_delivered H g me s a v from f result out to)
      where
        go : {r : C.Effect} → Delivery H g me s a v from (CT.judge H g me s a v from f result out to) r → Tells s o r
        go (refused x e) = quiet_tells s a o
        go (taken m e h) =
            let t = (took H g me s a v from f result out to m e).passes in
            shape_tells (number_in from) m.sequence (passed H g me s from m t).order h

  read_tells : (s : Client) (v out to : List ℕ) → Tells s v (CB.read_begun g me s out to)
  unfolding CB.read_begun CB.open_read CB.begin_by
  read_tells s v out to = go (CB.read_test g me s out to)
    where
      go : (b : Verdict) → Tells s v (CB.begin_by g me b s (CB.open_read g me s))
      go (Err r) = quiet_tells s [] v
      go (Ok _) = record {
        number = refl;
        own = λ b d q y u. let w = from_all (λ j. message me (s.reads + 1) ask_read) b _ u in impossible (cc (ap (λ z. z.body) w.1));
      }

  write_own : (s : Client) (w v out to : List ℕ) → SendsOwn s.writes w (CB.write_begun g me s v out to).sends
  unfolding CB.write_begun CB.open_write CB.begin_by
  write_own s w v out to = go (CB.write_test g me s v out to)
    where
      go : (b : Verdict) → SendsOwn s.writes w (CB.begin_by g me b s (CB.open_write g me s)).sends
      go (Err r) = none_own s.writes w
      go (Ok _) = λ b d q y u. let z = from_all (λ j. message me (s.writes + 1) get_stamp) b _ u in impossible (cc (ap (λ z. z.body) z.1))

-- ---- in a run

module _ (Z : Setup) where
  open Z use {H, g}

  abbrev home : List Call → ℕ → ClientSide
  home ks c = (run Z ks).clients c

  abbrev wr : List Call → ℕ → ℕ
  wr ks c = (home ks c).client.writes

  -- what the host lends while a write is open
  pub lent_own : (w : World) (c : ℕ) (lent : List ℕ) → writing (w.clients c).client.phase ≡ true → lent_to Z w c lent ≡ (w.clients c).value
  unfolding pick
  lent_own w c lent e = rw e

  -- the number and the lent value stay, or the number rises
  abbrev Next : ClientSide → ClientSide → Type 0
  Next h h' = ((h'.client.writes ≡ h.client.writes) × (h'.value ≡ h.value)) ⊎ (h'.client.writes ≡ h.client.writes + 1)

  next_put : (f : ℕ → ClientSide) (d : ℕ) (v : ClientSide) (c : ℕ) → Next (f d) v → Next (f c) (put f d v c)
  next_put f d v c n = ⊎_elim
      (λ w. subst (λ z. Next (f c) z) (sym w.1) (subst (λ z. Next (f z) v) (sym w.0) n))
      (λ w. inl (ap (λ z. z.client.writes) w, ap (λ z. z.value) w))
      (put_cases f d v c)

  by_test : (h : ClientSide) (d : ℕ) (v : List ℕ) (b : Verdict)
      → Next h (client_left Z (CB.begin_by g d b h.client (CB.open_write g d h.client)) h.area (lent_by Z b v h.value))
  unfolding CB.open_write CB.begin_by
  by_test h d v (Ok _) = inr refl
  by_test h d v (Err r) = inl (refl, refl)

  next : (ks : List Call) (k : Call) (c : ℕ) → Next (home ks c) (home (k ∷ ks) c)
  unfolding run step CB.write_begun CB.begin_by
  next ks (to_server j from f out to) c = inl (refl, refl)
  next ks (to_client d from f lent result out to) c = next_put (run Z ks).clients d _ c
      (inl (
        (delivered_tells H g d (home ks d).client (home ks d).area (lent_to Z (run Z ks) d lent) (home ks d).value
            (lent_own (run Z ks) d lent) from f result out to).number,
        refl,
      ))
  next ks (begin_read d out to) c = next_put (run Z ks).clients d _ c (inl ((read_tells H g d (home ks d).client [] out to).number, refl))
  next ks (begin_write d v out to) c = next_put (run Z ks).clients d _ c (by_test (home ks d) d v (CB.write_test g d (home ks d).client v out to))

  up : (ks : List Call) (k : Call) (c : ℕ) → wr ks c ≤ wr (k ∷ ks) c
  up ks k c = ⊎_elim (λ w. omega (arith, w.0)) (λ w. omega (arith, w)) (next ks k c)

  -- a write is opened: the number before, the number and the value after
  record Opened (ks : List Call) (k : Call) (c q : ℕ) (v : List ℕ) : Type 0 where
    pub before : wr ks c + 1 ≡ q
    pub after : wr (k ∷ ks) c ≡ q
    pub value : (home (k ∷ ks) c).value ≡ v

  opened : (ks : List Call) (k : Call) (c q : ℕ) (v : List ℕ) → OpensWrite Z c q v ks k → Opened ks k c q v
  unfolding run step CB.write_begun CB.open_write CB.begin_by
  opened ks (to_server j from f out to) c q v u = absurd u
  opened ks (to_client d from f lent result out to) c q v u = absurd u
  opened ks (begin_read d out to) c q v u = absurd u
  opened ks (begin_write d w out to) c q v u = subst (λ y. Opened ks (begin_write d w out to) y q v) (sym u.0) here
    where
      left : Verdict → ClientSide
      left b = client_left Z (CB.begin_by g d b (home ks d).client (CB.open_write g d (home ks d).client)) (home ks d).area (lent_by Z b w (home ks d).value)

      is : home (begin_write d w out to ∷ ks) d ≡ left fine
      is = put_same (run Z ks).clients d _ ∙ ap left u.3

      here : Opened ks (begin_write d w out to) d q v
      here = record { before = u.1; after = ap (λ h. h.client.writes) is ∙ u.1; value = ap (λ h. h.value) is ∙ sym u.2 }

  opened_low : (ks : List Call) (c q p : ℕ) (v : List ℕ) → At (OpensWrite Z c q v) ks p → q ≤ wr ks c
  opened_low [] c q p v u = absurd u
  opened_low (k ∷ ks) c q p v (inl u) = let w = (opened ks k c q v u.1).after in omega (arith, w)
  opened_low (k ∷ ks) c q p v (inr u) = let w = opened_low ks c q p v u in let y = up ks k c in omega (arith, w, y)

  -- the lent value is that of the last write opened
  lent : (ks : List Call) (c q p : ℕ) (v : List ℕ) → At (OpensWrite Z c q v) ks p → wr ks c ≡ q → (home ks c).value ≡ v
  lent [] c q p v u e = absurd u
  lent (k ∷ ks) c q p v (inl u) e = (opened ks k c q v u.1).value
  lent (k ∷ ks) c q p v (inr u) e = ⊎_elim
      (λ w. w.1 ∙ lent ks c q p v u (sym w.0 ∙ e))
      (λ w. let y = opened_low ks c q p v u in absurd (omega (arith, w, y, e)))
      (next ks k c)

  sent_now : (ks : List Call) (k : Call) (c : ℕ) → caller k ≡ A.Client c → SendsOwn H g c (wr ks c) (home ks c).value (sends Z (run Z ks) k)
  unfolding sends
  sent_now ks (to_server j from f out to) c e = impossible (cc e)
  sent_now ks (to_client d from f lent result out to) c e =
      let h : d ≡ c = cc e in
      subst (λ y. SendsOwn H g y (wr ks y) (home ks y).value (client_effect Z (run Z ks) d from f lent result out to).sends) h
      (delivered_tells H g d (home ks d).client (home ks d).area (lent_to Z (run Z ks) d lent) (home ks d).value
      (lent_own (run Z ks) d lent) from f result out to).own
  sent_now ks (begin_read d out to) c e =
      let h : d ≡ c = cc e in
      subst (λ y. SendsOwn H g y (wr ks y) (home ks y).value (read_effect Z (run Z ks) d out to).sends) h
      (read_tells H g d (home ks d).client (home ks d).value out to).own
  sent_now ks (begin_write d v out to) c e =
      let h : d ≡ c = cc e in
      subst (λ y. SendsOwn H g y (wr ks y) (home ks y).value (write_effect Z (run Z ks) d v out to).sends) h
      (write_own H g d (home ks d).client (home ks d).value v out to)

module _ (Z : Setup) (G : Assumed Z) where
  open Z use {H, g, faulty_client}

  abbrev M : Small g
  M = small Z G

  pub said_low : (ks : List Call) (c : ℕ) (b : Party) (q : ℕ) (o : Offer) → SentMessage Z G M ks (A.Client c) b (message c q (block_is send o)) → q ≤ wr Z ks c
  said_low [] c b q o u = absurd u
  said_low (k ∷ ks) c b q o (inl u) = let w = (sent_now Z ks k c u.0 b c q o u.1).0 in let y = up Z ks k c in omega (arith, w, y)
  said_low (k ∷ ks) c b q o (inr u) = let w = said_low ks c b q o u in let y = up Z ks k c in omega (arith, w, y)

  said_own : (ks : List Call) (c : ℕ) (b : Party) (q : ℕ) (o : Offer) (p : ℕ) (v : List ℕ) → SentMessage Z G M ks (A.Client c) b (message c q (block_is send o))
      → At (OpensWrite Z c q v) ks p → digests_of H g v ≡ o.entry.digests
  said_own [] c b q o p v s u = absurd u
  said_own (k ∷ ks) c b q o p v (inl s) (inl u) =
      let w = (sent_now Z ks k c s.0 b c q o s.1).0 in
      let y = (opened Z ks k c q v u.1).before in
      absurd (omega (arith, w, y))
  said_own (k ∷ ks) c b q o p v (inl s) (inr u) =
      let w = sent_now Z ks k c s.0 b c q o s.1 in
      ap (digests_of H g) (sym (lent Z ks c q p v u (sym w.0))) ∙ w.1
  said_own (k ∷ ks) c b q o p v (inr s) (inl u) =
      let w = said_low ks c b q o s in
      let y = (opened Z ks k c q v u.1).before in
      absurd (omega (arith, w, y))
  said_own (k ∷ ks) c b q o p v (inr s) (inr u) = said_own ks c b q o p v s u

  pub written_from : (ks : List Call) → Admissible Z ks → (i p : ℕ) (y : Write) (d r p' : ℕ) (v : List ℕ) → At (Accepts Z i y) ks p
      → At (OpensWrite Z d r v) ks p' → y.client ≡ d → y.sequence ≡ r → digests_of H g v ≡ y.entry.digests
  written_from ks a i p y d r p' v u o ec eq =
      let h = writer_honest Z ks a d r p' v o in
      let w = validity Z G ks a i p y (ap faulty_client ec ∙ h) u in
      let o' : At (OpensWrite Z y.client y.sequence v) ks p' = rw (ec, eq) o in
      said_own ks y.client w.0 y.sequence w.1 p' v w.3 o' ∙ ap (λ z. z.1) w.2
