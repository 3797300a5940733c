-- A client's read completes once; a write that was opened has the right size. Assumes nothing.
use Rattle.std.specs.Prelude.{Ok, Err}
use Rattle.frame.specs.Refusals.{Verdict, fine}
use Prim.Native.Nat.{ℕ, ◌≤◌, ◌<◌}
use native.Mathlib.Omega.{arith}
use native.Mathlib.Decide.{dec_le}
use mathlib.Core.Bool.{Bool, true, false}
use mathlib.Core.Path.{◌≡◌, refl, ap, sym, ◌∙◌, subst}
use mathlib.Core.Logic.{◌⊎◌, inl, inr, ⊎_elim}
use mathlib.Core.Option.{some}
use mathlib.Core.List.{List, [], ◌∷◌}
use lib.ListN.{length}
use lib.Dec.{eqb}
use borrow.Author.Tests.{eqb-true}
use Rattle.quorum.proofs.Logic.{impossible, and_split}
use Rattle.area.specs.Area.{Bytes}
use Rattle.blocks.specs.declared.Params.{Params}
use Rattle.frame.specs.declared.Stamp.{Stamp}
use Rattle.frame.specs.declared.Party.{Party}
use Rattle.frame.specs.Messages.{Entry, Body, value_is, number_in}
use Rattle.frame.specs.Params.{params_test}
use Rattle.frame.proofs.Verdicts.{fine_both, fine_is}
use Rattle.server_rules.proofs.Parts.{put_same, put_cases}
use Rattle.group_rules.specs.Coded.{fit_test}
use Rattle.client_rules.specs.declared.Client.{Client}
use Rattle.client_rules.specs.Rows.{Found, row_view, search}
use Rattle.client_rules.specs.Beginning as CB
use Rattle.client_rules.specs.Delivery as CD
use Rattle.client_rules.specs.State as CS
use Rattle.client_rules.specs.Steps as C
use Rattle.client_rules.proofs.Shapes.{Shape, idle, learns_reads, learns_phase, notes, hears, sends, shuts, counts, ends}
use Rattle.client_rules.proofs.Shapes.{waits, completes, Delivery, refused, taken, shape_delivered}
use Rattle.client_rules.specs.Tests as CT
use Rattle.steps.proofs.ClientTaken.{awaited_true, took, keeps_reads}
use Rattle.steps.proofs.ClientTaken as Passing
use Rattle.runs.specs.Admissible.{Admissible}
use Rattle.runs.specs.Events.{At, StopsRead, OpensWrite}
use Rattle.runs.specs.World.{Setup, Call, to_server, to_client, begin_read, begin_write, ClientSide, client_done, client_left}
use Rattle.runs.specs.World.{lent_by, start, run, step, put, lent_to, client_effect, read_effect, write_effect}

module _ (H : List ℕ → List ℕ) (g : Params) (me : ℕ) where
  value_awaited : (s : Client) (from : Party) (c q : ℕ) (x : Stamp) (e : Entry)
      → CT.message_test H g me s from (record { client = c; sequence = q; body = value_is x e }) ≡ fine → CS.reading s.phase ≡ true
  unfolding CT.order_test
  value_awaited s from c q x e h =
      let w = (fine_both _ (fit_test H e (number_in from)) (Passing.passed H g me s from _ h).order).0 in
      (and_split (CS.reading s.phase) _ (awaited_true H g me _ w)).0

  -- what a delivery does to the read
  pub record Does (s : Client) (r : C.Effect) : Type 0 where
    pub number : r.client.reads ≡ s.reads
    pub still : CS.reading r.client.phase ≡ true → CS.reading s.phase ≡ true
    pub gives : (x : Found) → r.event ≡ C.stopped x → (CS.reading s.phase ≡ true) × (CS.reading r.client.phase ≡ false)
    pub found : (x : Found) → r.event ≡ C.stopped x → search g (row_view g r.client r.area) ≡ some x

  quiet_does : (s : Client) (a : List ℕ) → Does s (C.quiet s a)
  quiet_does s a = record { number = refl; still = λ h. h; gives = λ x e. impossible (cc e); found = λ x e. impossible (cc e) }

  -- nothing of a read
  none_does : (s : Client) (r : C.Effect) → r.client.reads ≡ s.reads → CS.reading r.client.phase ≡ false → ((x : Found) → r.event ≡ C.stopped x → ⊥)
      → Does s r
  none_does s r e p n = record { number = e; still = λ h. impossible (cc (p, h)); gives = λ x z. absurd (n x z); found = λ x z. absurd (n x z) }

  shape_does : (s : Client) (a v : List ℕ) (from : Party) (c q : ℕ) {b : Body} {r : C.Effect}
      → CT.message_test H g me s from (record { client = c; sequence = q; body = b }) ≡ fine → Shape H g me s a v (number_in from) b r → Does s r
  unfolding row_view
  shape_does s a v from c q h (idle b) = quiet_does s a
  shape_does s a v from c q h (notes T p) = record { number = refl; still = λ h. h; gives = λ x e. impossible (cc e); found = λ x e. impossible (cc e) }
  shape_does s a v from c q h (hears b k z) =
      none_does s _ (learns_reads H g me s a v (number_in from) k) (ap CS.reading (learns_phase H g me s a v (number_in from) k)) (λ x e. impossible (cc e))
  shape_does s a v from c q h (sends b k z l) = none_does s _ (learns_reads H g me s a v (number_in from) k) refl (λ x e. impossible (cc e))
  shape_does s a v from c q h (shuts b k z l) = none_does s _ (learns_reads H g me s a v (number_in from) k) refl (λ x e. impossible (cc e))
  shape_does s a v from c q h (counts z) = none_does s _ refl refl (λ x e. impossible (cc e))
  shape_does s a v from c q h (ends z) = none_does s _ refl refl (λ x e. impossible (cc e))
  shape_does s a v from c q h (waits x e k z) = record {
    number = keeps_reads H g me s a v (number_in from) k;
    still = λ y. value_awaited s from c q x e h;
    gives = λ x e. impossible (cc e);
    found = λ x e. impossible (cc e);
  }
  shape_does s a v from c q h (completes x e k y z) = record {
    number = keeps_reads H g me s a v (number_in from) k;
    still = λ w. value_awaited s from c q x e h;
    gives = λ w i. (value_awaited s from c q x e h, refl);
    found = λ w i. let u : y ≡ w = cc i in z ∙ ap some u;
  }

  pub delivered_does : (s : Client) (a v : List ℕ) (from : Party) (f result out to : List ℕ) → Does s (CD.delivered H g me s a v from f result out to)
  delivered_does s a v from f result out to = go (shape_delivered H g me s a v from f result out to)
    where
      go : {r : C.Effect} → Delivery H g me s a v from (CT.judge H g me s a v from f result out to) r → Does s r
      go (refused x e) = quiet_does s a
      go (taken m e h) = shape_does s a v from m.client m.sequence (took H g me s a v from f result out to m e).passes h

-- ---- in a run

begin_by_lem : (H : List ℕ → List ℕ) (g : Params) (me : ℕ) (b : Verdict) (s : Client) (r : C.Effect)
    → ((CB.begin_by g me b s r).client ≡ r.client) ⊎ ((CB.begin_by g me b s r).client ≡ s)
unfolding CB.begin_by
begin_by_lem H g me (Ok _) s r = inl refl
begin_by_lem H g me (Err x) s r = inr refl

module _ (Z : Setup) where
  open Z use {H, g}

  abbrev client_at : List Call → ℕ → Client
  client_at ks c = ((run Z ks).clients c).client

  abbrev rd : Client → Bool
  rd s = CS.reading s.phase

  record Next (s s' : Client) : Type 0 where
    pub up : s.reads ≤ s'.reads
    pub still : rd s' ≡ true → (rd s ≡ true) ⊎ (s.reads < s'.reads)

  next_same : (s s' : Client) → s' ≡ s → Next s s'
  next_same s s' e = rw e (record { up = omega arith; still = λ h. inl h })

  next_does : (c : ℕ) (s : Client) (r : C.Effect) → Does H g c s r → Next s r.client
  next_does c s r d = record { up = omega (arith, d.number); still = λ h. inl (d.still h) }

  next_read : (c : ℕ) (s : Client) (out to : List ℕ) → Next s (CB.read_begun g c s out to).client
  unfolding CB.read_begun CB.open_read CB.begin_by
  next_read c s out to = ⊎_elim
      (λ e. rw e (record { up = omega arith; still = λ h. inr (omega arith) }))
      (λ e. next_same s _ e)
      (begin_by_lem H g c (CB.read_test g c s out to) s (CB.open_read g c s))

  next_write : (c : ℕ) (s : Client) (v out to : List ℕ) → Next s (CB.write_begun g c s v out to).client
  unfolding CB.write_begun CB.open_write CB.begin_by
  next_write c s v out to = ⊎_elim
      (λ e. rw e (record { up = omega arith; still = λ h. impossible (cc h) }))
      (λ e. next_same s _ e)
      (begin_by_lem H g c (CB.write_test g c s v out to) s (CB.open_write g c s))

  next_put : (f : ℕ → ClientSide) (d : ℕ) (v : ClientSide) (c : ℕ) → Next (f d).client v.client → Next (f c).client (put f d v c).client
  next_put f d v c n = ⊎_elim
      (λ w. subst (λ z. Next (f c).client z.client) (sym w.1) (subst (λ z. Next (f z).client v.client) (sym w.0) n))
      (λ w. next_same _ _ (ap (λ z. z.client) w))
      (put_cases f d v c)

  next : (ks : List Call) (k : Call) (c : ℕ) → Next (client_at ks c) (client_at (k ∷ ks) c)
  unfolding run step
  next ks (to_server j from f out to) c = next_same (client_at ks c) (client_at ks c) refl
  next ks (to_client d from f lent result out to) c =
      next_put (run Z ks).clients d (client_done Z (client_effect Z (run Z ks) d from f lent result out to) ((run Z ks).clients d).value) c
      (next_does d (client_at ks d) (client_effect Z (run Z ks) d from f lent result out to)
      (delivered_does H g d (client_at ks d) ((run Z ks).clients d).area (lent_to Z (run Z ks) d lent) from f result out to))
  next ks (begin_read d out to) c =
      next_put (run Z ks).clients d (client_left Z (read_effect Z (run Z ks) d out to) ((run Z ks).clients d).area ((run Z ks).clients d).value) c
      (next_read d (client_at ks d) out to)
  next ks (begin_write d v out to) c = next_put (run Z ks).clients d (client_left Z (write_effect Z (run Z ks) d v out to) ((run Z ks).clients d).area
      (lent_by Z (CB.write_test g d (client_at ks d) v out to) v ((run Z ks).clients d).value)) c
      (next_write d (client_at ks d) v out to)

  -- a call that completes a read of c: it was reading, and reads no more
  record Ended (s s' : Client) (q : ℕ) : Type 0 where
    pub was : rd s ≡ true
    pub is : rd s' ≡ false
    pub number : s.reads ≡ q
    pub number' : s'.reads ≡ q

  ended : (ks : List Call) (k : Call) (c q : ℕ) (x : Found) → StopsRead Z c q x ks k → Ended (client_at ks c) (client_at (k ∷ ks) c) q
  unfolding run step
  ended ks (to_server j from f out to) c q x u = absurd u
  ended ks (begin_read d out to) c q x u = absurd u
  ended ks (begin_write d v out to) c q x u = absurd u
  ended ks (to_client d from f lent result out to) c q x u =
      let m = client_effect Z (run Z ks) d from f lent result out to in
      let w = delivered_does H g d (client_at ks d) ((run Z ks).clients d).area (lent_to Z (run Z ks) d lent) from f result out to in
      let e = ap (λ h. h.client) (put_same (run Z ks).clients d (client_done Z m ((run Z ks).clients d).value)) in
      subst (λ z. Ended (client_at ks z) (put (run Z ks).clients d (client_done Z m ((run Z ks).clients d).value) z).client q) (sym u.0)
      (subst (λ z. Ended (client_at ks d) z q) (sym e)
      (record { was = (w.gives x u.2).0; is = (w.gives x u.2).1; number = u.1; number' = w.number ∙ u.1 }))

  -- an open read has a number, and a completed one had the client's
  open_number : (ks : List Call) (c : ℕ) → rd (client_at ks c) ≡ true → 1 ≤ (client_at ks c).reads
  unfolding run start CS.fresh_client
  open_number [] c h = impossible (cc h)
  open_number (k ∷ ks) c h =
      let n = next ks k c in
      ⊎_elim (λ o. let w = open_number ks c o in omega (arith, w, n.up)) (λ l. omega (arith, l)) (n.still h)

  pub completed_number : (ks : List Call) (k : Call) (c q : ℕ) (x : Found) → StopsRead Z c q x ks k → (1 ≤ q) × (q ≡ (client_at ks c).reads)
  completed_number ks k c q x u =
      let w = ended ks k c q x u in
      let l = open_number ks c w.was in
      (omega (arith, l, w.number), sym w.number)

  -- what the rows hold then is what the read found
  abbrev Finds : ClientSide → Found → Type 0
  Finds h x = search g (row_view g h.client h.area) ≡ some x

  pub read_found : (ks : List Call) (k : Call) (c q : ℕ) (x : Found) → StopsRead Z c q x ks k → Finds ((run Z (k ∷ ks)).clients c) x
  unfolding run step
  read_found ks (to_server j from f out to) c q x u = absurd u
  read_found ks (begin_read d out to) c q x u = absurd u
  read_found ks (begin_write d v out to) c q x u = absurd u
  read_found ks (to_client d from f lent result out to) c q x u =
      let h = client_done Z (client_effect Z (run Z ks) d from f lent result out to) ((run Z ks).clients d).value in
      let w = delivered_does H g d (client_at ks d) ((run Z ks).clients d).area (lent_to Z (run Z ks) d lent) from f result out to in
      subst (λ z. Finds (put (run Z ks).clients d h z) x) (sym u.0) (subst (λ z. Finds z x) (sym (put_same (run Z ks).clients d h)) (w.found x u.2))

  -- a completed read is over
  Behind : Client → ℕ → Type 0
  Behind s q = (q < s.reads) ⊎ ((q ≡ s.reads) × (rd s ≡ false))

  behind_next : (s s' : Client) (q : ℕ) → Next s s' → Behind s q → Behind s' q
  unfolding Behind
  behind_next s s' q n (inl h) = inl (omega (arith, h, n.up))
  behind_next s s' q n (inr (e, h)) = go (dec_le s'.reads q) (rd s') refl
    where
      go : Dec (s'.reads ≤ q) → (b : Bool) → rd s' ≡ b → (q < s'.reads) ⊎ ((q ≡ s'.reads) × (rd s' ≡ false))
      go (no z) b r = inl (omega arith)
      go (yes z) false r = inr (omega (arith, z, e, n.up), r)
      go (yes z) true r = ⊎_elim (λ y. impossible (cc (y, h))) (λ y. inl (omega (arith, y, e))) (n.still r)

  behind : (ks : List Call) (c q p : ℕ) (x : Found) → At (StopsRead Z c q x) ks p → Behind (client_at ks c) q
  unfolding Behind
  behind [] c q p x u = absurd u
  behind (k ∷ ks) c q p x (inl u) = let w = ended ks k c q x u.1 in inr (sym w.number', w.is)
  behind (k ∷ ks) c q p x (inr u) = behind_next (client_at ks c) (client_at (k ∷ ks) c) q (next ks k c) (behind ks c q p x u)

  not_again : (ks : List Call) (k : Call) (c q p : ℕ) (x y : Found) → StopsRead Z c q x ks k → At (StopsRead Z c q y) ks p → ⊥
  unfolding Behind
  not_again ks k c q p x y u v =
      let w = ended ks k c q x u in
      ⊎_elim (λ h. omega (arith, h, w.number)) (λ h. impossible (cc (h.1, w.was))) (behind ks c q p y v)

  -- A read completes once.
  pub read_once : (ks : List Call) (c q p p' : ℕ) (x y : Found) → At (StopsRead Z c q x) ks p → At (StopsRead Z c q y) ks p' → p ≡ p'
  read_once [] c q p p' x y u v = absurd u
  read_once (k ∷ ks) c q p p' x y (inl u) (inl v) = u.0 ∙ sym v.0
  read_once (k ∷ ks) c q p p' x y (inl u) (inr v) = absurd (not_again ks k c q p' x y u.1 v)
  read_once (k ∷ ks) c q p p' x y (inr u) (inl v) = absurd (not_again ks k c q p y x v.1 u)
  read_once (k ∷ ks) c q p p' x y (inr u) (inr v) = read_once ks c q p p' x y u v

  -- ---- a write that was opened

  write_sized : (d : ℕ) (s : Client) (v out to : List ℕ) → CB.write_test g d s v out to ≡ fine → length v ≡ g.size
  unfolding CB.write_test CB.length_test
  write_sized d s v out to e =
      let w = (fine_both (params_test g d 8) _ e).1 in
      eqb-true _ _ (fine_is (eqb (length v) g.size) _ _ (fine_both (CB.length_test g (length v)) _ w).0).0

  pub written_sized : (ks : List Call) → Admissible Z ks → (d r p : ℕ) (v : List ℕ) → At (OpensWrite Z d r v) ks p → (length v ≡ g.size) × Bytes v
  written_sized [] a d r p v u = absurd u
  written_sized (k ∷ ks) a d r p v (inr u) = written_sized ks a.1 d r p v u
  written_sized (to_server j from f out to ∷ ks) a d r p v (inl u) = absurd u.1
  written_sized (to_client c from f lent result out to ∷ ks) a d r p v (inl u) = absurd u.1
  written_sized (begin_read c out to ∷ ks) a d r p v (inl u) = absurd u.1
  written_sized (begin_write c w out to ∷ ks) a d r p v (inl u) =
      subst (λ z. (length z ≡ g.size) × Bytes z) (sym u.1.2) (write_sized c (client_at ks c) w out to u.1.3, a.0.1)
