-- An honest client's operation that is in the row was begun by it: a client's number rises where it begins an operation, and nowhere else, and it
-- sends and ends only what has its number. Assumes nothing.
use Rattle.std.specs.Prelude.{Ok, Err}
use Rattle.frame.specs.Refusals.{Verdict}
use Prim.Native.Nat.{ℕ, ◌+◌, ◌≤◌}
use native.Mathlib.Omega.{arith}
use native.Mathlib.Decide.{dec_le}
use mathlib.Core.Bool.{false}
use mathlib.Core.Path.{◌≡◌, refl, ap, sym, ◌∙◌}
use mathlib.Core.Logic.{◌⊎◌, inl, inr, ⊎_elim}
use mathlib.Core.List.{List, [], ◌∷◌}
use Rattle.server_rules.specs.Steps.{Write}
use Rattle.server_rules.proofs.Parts.{put_cases}
use Rattle.client_rules.specs.declared.Client.{Client}
use Rattle.client_rules.specs.Rows.{Found}
use Rattle.client_rules.specs.State.{fresh_client}
use Rattle.client_rules.specs.Beginning as CB
use Rattle.runs.specs.Admissible.{Admissible}
use Rattle.runs.specs.Events.{Event, At, Accepts, StopsRead, OpensRead, OpensWrite}
use Rattle.runs.specs.World.{Setup, Call, to_server, to_client, begin_read, begin_write, ClientSide, client_left}
use Rattle.runs.specs.World.{lent_by, lent_to, read_effect, write_effect, start, run, step, put}
use Rattle.runs.proofs.Agreement.{small}
use Rattle.runs.proofs.Formation.{validity, accepted_in_bounds}
use Rattle.runs.proofs.ReadOnce.{delivered_does, completed_number}
use Rattle.runs.proofs.Written.{delivered_tells, lent_own, said_low}
use Rattle.runs.proofs.Assumed.{Assumed}

-- ---- numbers that rise by one

-- in the call k the number f stays, or it rises by one to where E happens
abbrev Rises : (List Call → ℕ) → (ℕ → Event) → List Call → Call → Type 0
Rises f E ks k = (f (k ∷ ks) ≡ f ks) ⊎ ((f (k ∷ ks) ≡ f ks + 1) × E (f ks + 1) ks k)

-- each number up to f was reached so
reached : (f : List Call → ℕ) (E : ℕ → Event) → f [] ≡ 0 → ((ks : List Call) (k : Call) → Rises f E ks k)
    → (ks : List Call) (q : ℕ) → 1 ≤ q → q ≤ f ks → (p : ℕ) × At (E q) ks p
reached f E z rise [] q l h = absurd (omega (arith, z, l, h))
reached f E z rise (k ∷ ks) q l h = ⊎_elim
    (λ e. let w = reached f E z rise ks q l (omega (arith, h, e)) in (w.0, inr w.1))
    (λ w. go w.0 w.1 (λ i. reached f E z rise ks q l i) (dec_le q (f ks)))
    (rise ks k)
  where
    go : f (k ∷ ks) ≡ f ks + 1 → E (f ks + 1) ks k → (q ≤ f ks → (p : ℕ) × At (E q) ks p) → Dec (q ≤ f ks) → (p : ℕ) × At (E q) (k ∷ ks) p
    go e o old (yes i) = let w = old i in (w.0, inr w.1)
    go e o old (no i) = let n : f ks + 1 ≡ q = omega (arith, h, e, i) in (_, inl (refl, rw n at o))

-- of what happens with some value, the value
at_some : {A : Type 0} (E : A → Event) (ks : List Call) (p : ℕ) → At (λ ls k. (v : A) × E v ls k) ks p → (v : A) × At (E v) ks p
at_some E [] p u = absurd u
at_some E (k ∷ ks) p (inl u) = (u.1.0, inl (u.0, u.1.1))
at_some E (k ∷ ks) p (inr u) = let w = at_some E ks p u in (w.0, inr w.1)

-- ---- a client's two numbers

module _ (Z : Setup) where
  open Z use {H, g}

  abbrev home : List Call → ℕ → ClientSide
  home ks c = (run Z ks).clients c

  abbrev reads : ℕ → List Call → ℕ
  reads c ks = (home ks c).client.reads

  abbrev writes : ℕ → List Call → ℕ
  writes c ks = (home ks c).client.writes

  abbrev Opens : ℕ → ℕ → Event
  Opens c q ks k = (v : List ℕ) × OpensWrite Z c q v ks k

  -- a number that the call leaves to client d stays to all
  same_put : (π : Client → ℕ) (f : ℕ → ClientSide) (d : ℕ) (h : ClientSide) (c : ℕ) → π h.client ≡ π (f d).client
      → π (put f d h c).client ≡ π (f c).client
  same_put π f d h c e = ⊎_elim
      (λ w. ap (λ x. π x.client) w.1 ∙ e ∙ ap (λ z. π (f z).client) (sym w.0))
      (λ w. ap (λ x. π x.client) w)
      (put_cases f d h c)

  read_writes : (d : ℕ) (s : Client) (b : Verdict) → (CB.begin_by g d b s (CB.open_read g d s)).client.writes ≡ s.writes
  unfolding CB.begin_by CB.open_read
  read_writes d s (Ok _) = refl
  read_writes d s (Err r) = refl

  write_reads : (d : ℕ) (s : Client) (b : Verdict) → (CB.begin_by g d b s (CB.open_write g d s)).client.reads ≡ s.reads
  unfolding CB.begin_by CB.open_write
  write_reads d s (Ok _) = refl
  write_reads d s (Err r) = refl

  reads_rise : (c : ℕ) (ks : List Call) (k : Call) → Rises (reads c) (OpensRead Z c) ks k
  unfolding run step CB.read_begun CB.open_read CB.write_begun CB.begin_by
  reads_rise c ks (to_server j from f out to) = inl refl
  reads_rise c ks (to_client d from f lent result out to) = inl (same_put (λ s. s.reads) (run Z ks).clients d _ c
      (delivered_does H g d (home ks d).client (home ks d).area (lent_to Z (run Z ks) d lent) from f result out to).number)
  reads_rise c ks (begin_write d v out to) = inl (same_put (λ s. s.reads) (run Z ks).clients d
      (client_left Z (write_effect Z (run Z ks) d v out to) (home ks d).area (lent_by Z (CB.write_test g d (home ks d).client v out to) v (home ks d).value))
      c (write_reads d (home ks d).client (CB.write_test g d (home ks d).client v out to)))
  reads_rise c ks (begin_read d out to) = go (CB.read_test g d (home ks d).client out to) refl
    where
      left : Verdict → ClientSide
      left b = client_left Z (CB.begin_by g d b (home ks d).client (CB.open_read g d (home ks d).client)) (home ks d).area (home ks d).value

      go : (b : Verdict) → CB.read_test g d (home ks d).client out to ≡ b → Rises (reads c) (OpensRead Z c) ks (begin_read d out to)
      go (Ok _) e = ⊎_elim
          (λ w.
          let n : reads d ks + 1 ≡ reads c ks + 1 = ap (λ z. reads z ks + 1) (sym w.0) in
          inr (ap (λ h. h.client.reads) (w.1 ∙ ap left e) ∙ n, (w.0, n, e)))
          (λ w. inl (ap (λ h. h.client.reads) w))
          (put_cases (run Z ks).clients d (left (CB.read_test g d (home ks d).client out to)) c)
      go (Err r) e = ⊎_elim
          (λ w. inl (ap (λ h. h.client.reads) (w.1 ∙ ap left e) ∙ ap (λ z. reads z ks) (sym w.0)))
          (λ w. inl (ap (λ h. h.client.reads) w))
          (put_cases (run Z ks).clients d (left (CB.read_test g d (home ks d).client out to)) c)

  writes_rise : (c : ℕ) (ks : List Call) (k : Call) → Rises (writes c) (Opens c) ks k
  unfolding run step CB.read_begun CB.write_begun CB.open_write CB.begin_by
  writes_rise c ks (to_server j from f out to) = inl refl
  writes_rise c ks (to_client d from f lent result out to) = inl (same_put (λ s. s.writes) (run Z ks).clients d _ c
      (delivered_tells H g d (home ks d).client (home ks d).area (lent_to Z (run Z ks) d lent) (home ks d).value
      (lent_own Z (run Z ks) d lent) from f result out to).number)
  writes_rise c ks (begin_read d out to) = inl (same_put (λ s. s.writes) (run Z ks).clients d
      (client_left Z (read_effect Z (run Z ks) d out to) (home ks d).area (home ks d).value)
      c (read_writes d (home ks d).client (CB.read_test g d (home ks d).client out to)))
  writes_rise c ks (begin_write d v out to) = go (CB.write_test g d (home ks d).client v out to) refl
    where
      left : Verdict → ClientSide
      left b = client_left Z (CB.begin_by g d b (home ks d).client (CB.open_write g d (home ks d).client)) (home ks d).area (lent_by Z b v (home ks d).value)

      go : (b : Verdict) → CB.write_test g d (home ks d).client v out to ≡ b → Rises (writes c) (Opens c) ks (begin_write d v out to)
      go (Ok _) e = ⊎_elim
          (λ w.
          let n : writes d ks + 1 ≡ writes c ks + 1 = ap (λ z. writes z ks + 1) (sym w.0) in
          inr (ap (λ h. h.client.writes) (w.1 ∙ ap left e) ∙ n, (v, (w.0, n, refl, e))))
          (λ w. inl (ap (λ h. h.client.writes) w))
          (put_cases (run Z ks).clients d (left (CB.write_test g d (home ks d).client v out to)) c)
      go (Err r) e = ⊎_elim
          (λ w. inl (ap (λ h. h.client.writes) (w.1 ∙ ap left e) ∙ ap (λ z. writes z ks) (sym w.0)))
          (λ w. inl (ap (λ h. h.client.writes) w))
          (put_cases (run Z ks).clients d (left (CB.write_test g d (home ks d).client v out to)) c)

  none_yet : (c : ℕ) → (reads c [] ≡ 0) × (writes c [] ≡ 0)
  unfolding run start fresh_client
  none_yet c = (refl, refl)

  -- ---- a completed read

  pub read_begun_lem : (ks : List Call) (c q p : ℕ) (x : Found) → At (StopsRead Z c q x) ks p → (p' : ℕ) × At (OpensRead Z c q) ks p'
  read_begun_lem [] c q p x u = absurd u
  read_begun_lem (k ∷ ks) c q p x (inr u) = let w = read_begun_lem ks c q p x u in (w.0, inr w.1)
  read_begun_lem (k ∷ ks) c q p x (inl u) =
      let n = completed_number Z ks k c q x u.1 in
      let w = reached (reads c) (OpensRead Z c) (none_yet c).0 (reads_rise c) ks q n.0 (omega (arith, n.1)) in
      (w.0, inr w.1)

-- ---- an accepted write

module _ (Z : Setup) (G : Assumed Z) where
  pub write_begun_lem : (ks : List Call) → Admissible Z ks → (i p : ℕ) (y : Write) → At (Accepts Z i y) ks p → Z.faulty_client y.client ≡ false
      → (p' : ℕ) × (v : List ℕ) × At (OpensWrite Z y.client y.sequence v) ks p'
  write_begun_lem ks a i p y u h =
      let w = validity Z G ks a i p y h u in
      let o = reached (writes Z y.client) (Opens Z y.client) (none_yet Z y.client).1 (writes_rise Z y.client) ks y.sequence
      (accepted_in_bounds Z G (small Z G) ks a i p y u).low (said_low Z G ks y.client w.0 y.sequence w.1 w.3) in
      let z = at_some (λ v. OpensWrite Z y.client y.sequence v) ks o.0 o.1 in
      (o.0, z.0, z.1)
