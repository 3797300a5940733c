-- What reads give: equal bytes where the stamps are equal, or two different blocks of the run with one digest. By the facts of Known.antt
-- and OneValue.antt. Assumes nothing.
use Rattle.std.specs.Prelude.{Ok, Err}
use Rattle.frame.specs.Refusals.{Verdict}
use Prim.Native.Nat.{ℕ, zero, ◌+◌, ◌≤◌}
use native.Mathlib.Omega.{arith}
use mathlib.Core.Path.{◌≡◌, refl, ap, sym, ◌∙◌}
use mathlib.Core.Logic.{◌⊎◌, inl, inr, ⊎_elim}
use mathlib.Core.Option.{some}
use mathlib.Core.List.{List, [], ◌∷◌}
use lib.ListN.{length}
use Rattle.quorum.proofs.Logic.{impossible}
use Rattle.frame.specs.declared.Stamp.{Stamp}
use Rattle.group_rules.specs.Coded.{digests_of}
use Rattle.frame.specs.Stamps.{zero_stamp}
use Rattle.frame.proofs.StampOrder.{three, total, less_not}
use Rattle.server_rules.specs.Steps.{Write, stamp_of}
use Rattle.client_rules.specs.Rows.{Found}
use Rattle.client_rules.specs.Beginning as CB
use Rattle.client_rules.specs.Steps as C
use Rattle.runs.specs.Blocks.{of_initial, of_written, of_decoded, Collision}
use Rattle.runs.specs.Demand.{Values}
use Rattle.runs.specs.Events.{At, Accepts, StopsRead, Disagrees, OpensWrite}
use Rattle.runs.specs.World.{Setup, Call, to_server, to_client, begin_read, begin_write, run, client_effect}
use Rattle.runs.proofs.Known.{Known, KnownValues, Rows}
use Rattle.runs.proofs.Places.{at_map, stops, cut}
use Rattle.runs.proofs.OneValue as One
use Rattle.runs.proofs.Assumed.{Assumed}

-- ---- one outcome for all events of a run

abbrev AllReads : (Z : Setup) → (ℕ → ℕ → Found → Type 0) → Type 0 → List Call → Type 0
AllReads Z Q C' ks = ((c q p : ℕ) (x : Found) → At (StopsRead Z c q x) ks p → Q c q x) ⊎ C'

fold_reads : (Z : Setup) (Q : ℕ → ℕ → Found → Type 0) (C' : Type 0) (ks : List Call)
    → ((c q p : ℕ) (x : Found) → At (StopsRead Z c q x) ks p → Q c q x ⊎ C')
    → ((c q p : ℕ) (x : Found) → At (StopsRead Z c q x) ks p → Q c q x) ⊎ C'
fold_reads Z Q C' [] f = inl (λ c q p x u. absurd u)
fold_reads Z Q C' (k ∷ ks) f = go (fold_reads Z Q C' ks (λ c q p x u. f c q p x (inr u))) k f
  where
    go : AllReads Z Q C' ks → (k : Call) → ((c q p : ℕ) (x : Found) → At (StopsRead Z c q x) (k ∷ ks) p → Q c q x ⊎ C') → AllReads Z Q C' (k ∷ ks)
    go (inr z) k f = inr z
    go (inl h) (to_server j from b out to) f = inl (λ c q p x u. ⊎_elim (λ w. absurd w.1) (λ w. h c q p x w) u)
    go (inl h) (begin_read d out to) f = inl (λ c q p x u. ⊎_elim (λ w. absurd w.1) (λ w. h c q p x w) u)
    go (inl h) (begin_write d v out to) f = inl (λ c q p x u. ⊎_elim (λ w. absurd w.1) (λ w. h c q p x w) u)
    go (inl h) (to_client d from b lent result out to) f = by (client_effect Z (run Z ks) d from b lent result out to).event refl
      where
        by : (o : C.Event) → (client_effect Z (run Z ks) d from b lent result out to).event ≡ o → AllReads Z Q C' (to_client d from b lent result out to ∷ ks)
        by C.nothing e = inl (λ c q p x u. ⊎_elim (λ w. impossible (cc (w.1.2, e))) (λ w. h c q p x w) u)
        by C.written e = inl (λ c q p x u. ⊎_elim (λ w. impossible (cc (w.1.2, e))) (λ w. h c q p x w) u)
        by C.out_of_stamps e = inl (λ c q p x u. ⊎_elim (λ w. impossible (cc (w.1.2, e))) (λ w. h c q p x w) u)
        by (C.stopped y) e = ⊎_elim
            (λ z. inl (λ c q p x u. ⊎_elim
            (λ w. let i : x ≡ y = cc (w.1.2, e) in rw (w.1.0, sym w.1.1, i) z)
            (λ w. h c q p x w)
            u))
            (λ z. inr z)
            (f d ((run Z ks).clients d).client.reads (length ks) y (inl (refl, (refl, refl, e))))

abbrev AllWrites : (Z : Setup) → (ℕ → ℕ → List ℕ → Type 0) → Type 0 → List Call → Type 0
AllWrites Z Q C' ks = ((c q p : ℕ) (x : List ℕ) → At (OpensWrite Z c q x) ks p → Q c q x) ⊎ C'

fold_writes : (Z : Setup) (Q : ℕ → ℕ → List ℕ → Type 0) (C' : Type 0) (ks : List Call)
    → ((c q p : ℕ) (x : List ℕ) → At (OpensWrite Z c q x) ks p → Q c q x ⊎ C')
    → ((c q p : ℕ) (x : List ℕ) → At (OpensWrite Z c q x) ks p → Q c q x) ⊎ C'
fold_writes Z Q C' [] f = inl (λ c q p x u. absurd u)
fold_writes Z Q C' (k ∷ ks) f = go (fold_writes Z Q C' ks (λ c q p x u. f c q p x (inr u))) k f
  where
    go : AllWrites Z Q C' ks → (k : Call) → ((c q p : ℕ) (x : List ℕ) → At (OpensWrite Z c q x) (k ∷ ks) p → Q c q x ⊎ C') → AllWrites Z Q C' (k ∷ ks)
    go (inr z) k f = inr z
    go (inl h) (to_server j from b out to) f = inl (λ c q p x u. ⊎_elim (λ w. absurd w.1) (λ w. h c q p x w) u)
    go (inl h) (to_client d from b lent result out to) f = inl (λ c q p x u. ⊎_elim (λ w. absurd w.1) (λ w. h c q p x w) u)
    go (inl h) (begin_read d out to) f = inl (λ c q p x u. ⊎_elim (λ w. absurd w.1) (λ w. h c q p x w) u)
    go (inl h) (begin_write d v out to) f = by (CB.write_test Z.g d ((run Z ks).clients d).client v out to) refl
      where
        by : (o : Verdict) → CB.write_test Z.g d ((run Z ks).clients d).client v out to ≡ o → AllWrites Z Q C' (begin_write d v out to ∷ ks)
        by (Err r) e = inl (λ c q p x u. ⊎_elim (λ w. impossible (cc (w.1.3, e))) (λ w. h c q p x w) u)
        by (Ok _) e = ⊎_elim
            (λ z. inl (λ c q p x u. ⊎_elim (λ w. rw (w.1.0, sym w.1.1, w.1.2) z) (λ w. h c q p x w) u))
            (λ z. inr z)
            (f d (((run Z ks).clients d).client.writes + 1) (length ks) v (inl (refl, (refl, refl, refl, e))))

-- a write's number is not zero
write_number : (Z : Setup) (ks : List Call) (d r p : ℕ) (v : List ℕ) → At (OpensWrite Z d r v) ks p → 1 ≤ r
write_number Z [] d r p v u = absurd u
write_number Z (k ∷ ks) d r p v (inr u) = write_number Z ks d r p v u
write_number Z (k ∷ ks) d r p v (inl u) = go k u.1
  where
    go : (k : Call) → OpensWrite Z d r v ks k → 1 ≤ r
    go (to_server j from b out to) w = absurd w
    go (to_client d from b lent result out to) w = absurd w
    go (begin_read d out to) w = absurd w
    go (begin_write d v out to) w = omega (arith, w.1)

module _ (Z : Setup) (G : Assumed Z) (ks : List Call) (K : Known Z ks) (L : KnownValues Z ks) where
  open Z use {H, g, initial_value}

  abbrev Source : List ℕ → Type 0
  Source = One.Source Z G ks

  initial : Source initial_value
  initial = record { size = G.initial_size; bytes = G.initial_bytes; from = λ j i. of_initial j i refl }

  -- ---- one read

  gives : (x : Found) → Rows Z ks x → (v : List ℕ) → Source v → digests_of H g v ≡ x.digests → (x.bytes ≡ some v) ⊎ Collision Z ks
  gives x R v S e = ⊎_elim
      (λ d. inl (R.bytes ∙ d))
      (λ c. inr c)
      (One.one_value Z G ks R.at x.digests (omega (arith, R.many, G.bounded.blocks_high)) R.fit R.carried v S e)

  -- ---- sources of what reads and writes have

  source_of : (c q p : ℕ) (x : Found) → At (StopsRead Z c q x) ks p → (v : List ℕ) × Source v × (digests_of H g v ≡ x.digests)
  source_of c q p x u = ⊎_elim
      (λ z. (initial_value, initial, sym z.1))
      (λ z.
      let (i, p', y, w, s, d) = z in
      let (v, e, t, a, size, bytes) = L.accepted_from i p' y w in
      (v, record { size = size; bytes = bytes; from = λ j is. of_decoded e j v t is refl }, a ∙ d))
      (K.read_from c q p x u)

  written : (d r p : ℕ) (v : List ℕ) → At (OpensWrite Z d r v) ks p → Source v
  written d r p v u =
      let (size, bytes) = L.written_sized d r p v u in
      record { size = size; bytes = bytes; from = λ j is. of_written p d r j v u is refl }

  value_is_lem : (c q p : ℕ) (x : Found) → At (StopsRead Z c q x) ks p → (v : List ℕ) → Source v → digests_of H g v ≡ x.digests
      → (x.bytes ≡ some v) ⊎ Collision Z ks
  value_is_lem c q p x u v S e = gives x (L.read_rows c q p x u) v S e

  -- ---- digest lists

  not_zero : (y : Write) → stamp_of y ≡ zero_stamp → ⊥
  not_zero y e = omega (arith, ap (λ z. z.time) e)

  one_list : (c q p d r p' : ℕ) (x y : Found) → At (StopsRead Z c q x) ks p → At (StopsRead Z d r y) ks p' → x.stamp ≡ y.stamp → x.digests ≡ y.digests
  one_list c q p d r p' x y u w e = go (K.read_from c q p x u) (K.read_from d r p' y w)
    where
      go : ((x.stamp ≡ zero_stamp) × (x.digests ≡ digests_of H g initial_value))
          ⊎ ((i p' : ℕ) × (z : Write) × At (Accepts Z i z) ks p' × (stamp_of z ≡ x.stamp) × (z.entry.digests ≡ x.digests))
          → ((y.stamp ≡ zero_stamp) × (y.digests ≡ digests_of H g initial_value))
          ⊎ ((i p' : ℕ) × (z : Write) × At (Accepts Z i z) ks p' × (stamp_of z ≡ y.stamp) × (z.entry.digests ≡ y.digests))
          → x.digests ≡ y.digests
      go (inl (s, a)) (inl (t, b)) = a ∙ sym b
      go (inl (s, a)) (inr (j, f, z, h, t, b)) = absurd (not_zero z (t ∙ sym e ∙ s))
      go (inr (i, f, z, h, s, a)) (inl (t, b)) = absurd (not_zero z (s ∙ e ∙ t))
      go (inr (i, f, z, h, s, a)) (inr (j, f', z', h', t, b)) =
          let k : stamp_of z ≡ stamp_of z' = s ∙ e ∙ sym t in
          sym a ∙ (K.agree i j f f' z z' h h' (ap (λ o. o.writer) k) (ap (λ o. o.sequence) k)).1 ∙ b

  zero_list : (c q p : ℕ) (x : Found) → At (StopsRead Z c q x) ks p → x.stamp ≡ zero_stamp → digests_of H g initial_value ≡ x.digests
  zero_list c q p x u e = ⊎_elim (λ z. sym z.1) (λ z. absurd (not_zero z.2 (z.4 ∙ e))) (K.read_from c q p x u)

  zero_sequence : (s : Stamp) → s ≡ zero_stamp → s.sequence ≡ 0
  zero_sequence s e = ap (λ z. z.sequence) e

  own_list : (c q p d r p' : ℕ) (x : Found) (v : List ℕ) → At (StopsRead Z c q x) ks p → At (OpensWrite Z d r v) ks p'
      → x.stamp.writer ≡ d → x.stamp.sequence ≡ r → digests_of H g v ≡ x.digests
  own_list c q p d r p' x v u w ew es = ⊎_elim
      (λ z. absurd (omega (arith, zero_sequence x.stamp z.0, es, write_number Z ks d r p' v w)))
      (λ z.
      let (i, e, y, h, s, a) = z in
      L.written_from i e y d r p' v h w (ap (λ o. o.writer) s ∙ ew) (ap (λ o. o.sequence) s ∙ es) ∙ a)
      (K.read_from c q p x u)

  -- ---- all reads

  abbrev Else : Type 0
  Else = Collision Z ks

  when_stamps : {A : Type 0} (s t : Stamp) → (s ≡ t → A ⊎ Else) → (s ≡ t → A) ⊎ Else
  when_stamps s t f = ⊎_elim
      (λ h. inl (λ e. absurd (less_not s t e h)))
      (⊎_elim (λ e. ⊎_elim (λ a. inl (λ e'. a)) (λ c. inr c) (f e)) (λ h. inl (λ e. absurd (less_not t s (sym e) h))))
      (total s t)

  when_equal : {A : Type 0} (a b : ℕ) → (a ≡ b → A ⊎ Else) → (a ≡ b → A) ⊎ Else
  when_equal a b f = ⊎_elim
      (λ h. inl (λ e. absurd (omega (arith, h, e))))
      (⊎_elim (λ e. ⊎_elim (λ a. inl (λ e'. a)) (λ c. inr c) (f e)) (λ h. inl (λ e. absurd (omega (arith, h, e)))))
      (three a b)

  pair : (c q p : ℕ) (x : Found) → At (StopsRead Z c q x) ks p → (d r p' : ℕ) (y : Found) → At (StopsRead Z d r y) ks p'
      → (x.stamp ≡ y.stamp → x.bytes ≡ y.bytes) ⊎ Else
  pair c q p x u d r p' y w = when_stamps x.stamp y.stamp (λ e.
      let (v, S, h) = source_of c q p x u in
      ⊎_elim
      (λ a. ⊎_elim (λ b. inl (a ∙ sym b)) (λ z. inr z) (value_is_lem d r p' y w v S (h ∙ one_list c q p d r p' x y u w e)))
      (λ z. inr z)
      (value_is_lem c q p x u v S h))

  owned : (c q p : ℕ) (x : Found) → At (StopsRead Z c q x) ks p → (d r p' : ℕ) (v : List ℕ) → At (OpensWrite Z d r v) ks p'
      → (x.stamp.writer ≡ d → x.stamp.sequence ≡ r → x.bytes ≡ some v) ⊎ Else
  owned c q p x u d r p' v w = when_equal x.stamp.writer d (λ e. when_equal x.stamp.sequence r (λ f.
      value_is_lem c q p x u v (written d r p' v w) (own_list c q p d r p' x v u w e f)))

  blank : (c q p : ℕ) (x : Found) → At (StopsRead Z c q x) ks p → (x.stamp ≡ zero_stamp → x.bytes ≡ some initial_value) ⊎ Else
  blank c q p x u = when_stamps x.stamp zero_stamp (λ e. value_is_lem c q p x u initial_value initial (zero_list c q p x u e))

  record Good (x : Found) : Type 0 where
    pub same : (d r p' : ℕ) (y : Found) → At (StopsRead Z d r y) ks p' → x.stamp ≡ y.stamp → x.bytes ≡ y.bytes
    pub own : (d r p' : ℕ) (v : List ℕ) → At (OpensWrite Z d r v) ks p' → x.stamp.writer ≡ d → x.stamp.sequence ≡ r → x.bytes ≡ some v
    pub zero : x.stamp ≡ zero_stamp → x.bytes ≡ some initial_value

  good : (c q p : ℕ) (x : Found) → At (StopsRead Z c q x) ks p → Good x ⊎ Else
  good c q p x u = ⊎_elim
      (λ a. ⊎_elim
      (λ b. ⊎_elim (λ c. inl (record { same = a; own = b; zero = c })) (λ z. inr z) (blank c q p x u))
      (λ z. inr z)
      (fold_writes Z (λ d r v. x.stamp.writer ≡ d → x.stamp.sequence ≡ r → x.bytes ≡ some v) Else ks (owned c q p x u)))
      (λ z. inr z)
      (fold_reads Z (λ d r y. x.stamp ≡ y.stamp → x.bytes ≡ y.bytes) Else ks (pair c q p x u))

  -- a read whose blocks disagree: a block of its rows is not its value's, and has the same digest
  pub shown : (c q p : ℕ) (x : Found) → At (Disagrees Z c q x) ks p → Collision Z ks
  shown c q p x u =
      let s = at_map (Disagrees Z c q x) (StopsRead Z c q x) (λ ls k w. w.0) ks p u in
      let b = (cut (Disagrees Z c q x) ks p u).event.1 in
      let (v, S, h) = source_of c q p x s in
      ⊎_elim (λ e. impossible (cc (sym b ∙ e))) (λ z. z) (value_is_lem c q p x s v S h)

  pub values : Values Z ks ⊎ Collision Z ks
  values = ⊎_elim
      (λ f. inl (record {
        same = λ c q d r p p' x y u w e. (f c q p x (stops Z ks c q p x u)).same d r p' y (stops Z ks d r p' y w) e;
        own = λ c q d r p p' x v u w e s. (f c q p x (stops Z ks c q p x u)).own d r p' v w e s;
        zero = λ c q p x u e. (f c q p x (stops Z ks c q p x u)).zero e;
      }))
      (λ z. inr z)
      (fold_reads Z (λ c q x. Good x) Else ks good)
