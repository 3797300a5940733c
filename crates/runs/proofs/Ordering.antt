-- The facts of Known.antt for every admissible run, from agreement, validity and precedence. Assumes nothing.
use Prim.Native.Nat.{ℕ, suc, ◌+◌, ◌≤◌, ◌<◌}
use native.Mathlib.Omega.{arith}
use mathlib.Core.Bool.{false}
use mathlib.Core.Path.{◌≡◌, refl, ap, sym, ◌∙◌}
use mathlib.Core.Logic.{◌⊎◌, inl, inr, ⊎_elim}
use mathlib.Core.List.{List, [], ◌∷◌}
use Rattle.precedence.specs.Laws as PL
use Rattle.precedence.proofs.Precedence as PP
use Rattle.frame.specs.declared.Party.{Party}
use Rattle.frame.specs.declared.Party.TheVariants as A
use Rattle.group_rules.specs.Coded.{digests_of}
use Rattle.frame.specs.Messages.{Offer, message, send, block_is}
use Rattle.frame.specs.Stamps.{zero_stamp}
use Rattle.frame.proofs.Sizes.{Small}
use Rattle.frame.proofs.StampOrder.{three}
use Rattle.server_rules.specs.Steps.{Write, stamp_of}
use Rattle.client_rules.specs.Rows.{Found}
use Rattle.steps.proofs.Keys.{key, key_older, key_not_older}
use Rattle.steps.proofs.ServerRanges.{StampInBounds, write_stamp_in_bounds, zero_in_bounds}
use Rattle.runs.specs.Admissible.{Admissible}
use Rattle.runs.specs.Events.{At, Accepts, StopsRead, EndsWrite, OpensRead, OpensWrite}
use Rattle.runs.specs.World.{Setup, Call, to_server, to_client, begin_read, begin_write, run}
use Rattle.runs.proofs.Agreement.{small}
use Rattle.runs.proofs.ReadOnce.{read_once}
use Rattle.runs.proofs.StampViews.{views, Stamped, stamps}
use Rattle.runs.proofs.Broadcasts.{Agreed, SentMessage}
use Rattle.runs.proofs.Formation.{agreement, validity, accepted_in_bounds}
use Rattle.runs.proofs.OrderLaws.{fresh, lawful_run}
use Rattle.runs.proofs.Places.{at_both, cut, opens_read, opens_write, reader_honest, writer_honest}
use Rattle.runs.proofs.Begun.{write_begun_lem, read_begun_lem}
use Rattle.runs.proofs.Known.{Known}
use Rattle.runs.proofs.Assumed.{Assumed}

module _ (Z : Setup) (G : Assumed Z) where
  open Z use {H, g, initial_value, faulty_server, faulty_client}

  abbrev M : Small g
  M = small Z G

  abbrev Θ : PL.Stamps Agreed (Stamped Z G M)
  Θ = stamps Z G M

  abbrev W : PL.Views Call Agreed (Stamped Z G M)
  W = views Z G M

  agree : (ks : List Call) → Admissible Z ks → (i j c q : ℕ) (T T' : Agreed) → W.Accepted ks i c q T → W.Accepted ks j c q T' → T ≡ T'
  agree ks a i j c q T T' (x, p, u, ec, eq, et, ed) (y, p', w, fc, fq, ft, fd) =
      let h = agreement Z G ks a i j p p' x y u w (ec ∙ sym fc) (eq ∙ sym fq) in
      let t : T.0 ≡ T'.0 = omega (arith, ap (λ z. z.time) h.0, et, ft) in
      let l : T.1 ≡ T'.1 = sym ed ∙ h.1 ∙ fd in
      λ z. (t z, l z)

  told : (ks : List Call) (b : Party) (c d q r : ℕ) (o : Offer) → c ≡ d → q ≡ r → SentMessage Z G M ks (A.Client c) b (message c q (block_is send o))
      → SentMessage Z G M ks (A.Client d) b (message d r (block_is send o))
  told ks b c d q r o ec eq s = rw (ec, eq) at s

  valid : (ks : List Call) → Admissible Z ks → (i c q : ℕ) (T : Agreed) → faulty_client c ≡ false → W.Accepted ks i c q T → W.SentTime ks c q T.0
  valid ks a i c q T h (x, p, u, ec, eq, et, ed) =
      let w = validity Z G ks a i p x (ap faulty_client ec ∙ h) u in
      (w.0, w.1, ap (λ z. z.0) w.2 ∙ et, told ks w.0 x.client c x.sequence q w.1 ec eq w.3)

  module _ (ks : List Call) (a : Admissible Z ks) where
    ranged : (i p : ℕ) (x : Write) → At (Accepts Z i x) ks p → StampInBounds (stamp_of x)
    ranged i p x u = write_stamp_in_bounds g x (accepted_in_bounds Z G M ks a i p x u)

    accepted : (i p : ℕ) (x : Write) → At (Accepts Z i x) ks p → W.Accepted ks i x.client x.sequence (x.time, x.entry.digests)
    accepted i p x u = (x, p, u, refl, refl, refl, refl)

    read : (ls : List Call) (c q p : ℕ) (x : Found) → At (StopsRead Z c q x) ls p → W.ReadEnded ls c q (x.stamp, x.digests)
    read ls c q p x u = (x, p, u, refl, refl)

    from : (c q p : ℕ) (x : Found) → At (StopsRead Z c q x) ks p
        → ((x.stamp ≡ zero_stamp) × (x.digests ≡ digests_of H g initial_value))
        ⊎ ((i p' : ℕ) × (y : Write) × At (Accepts Z i y) ks p' × (stamp_of y ≡ x.stamp) × (y.entry.digests ≡ x.digests))
    from c q p x u = ⊎_elim
        (λ e. inl (ap (λ z. z.0) e, ap (λ z. z.1) e))
        (λ w.
        let (j, b, (d, r, T, (y, p', v, ec, eq, et, ed), e)) = w in
        let t : y.time + 1 ≡ suc T.0 = omega (arith, et) in
        let s : stamp_of y ≡ record { time = suc T.0; writer = d; sequence = r } = λ z. record { time = t z; writer = ec z; sequence = eq z } in
        inr (j, p', y, v, s ∙ sym (ap (λ z. z.0) e), ed ∙ sym (ap (λ z. z.1) e)))
        (PP.read_from Θ W g.n g.t faulty_server faulty_client (fresh Z G M) G.faults ks (lawful_run Z G M ks a) c q
        (x.stamp, x.digests) (read ks c q p x u))

    read_ranged : (c q p : ℕ) (x : Found) → At (StopsRead Z c q x) ks p → StampInBounds x.stamp
    read_ranged c q p x u = ⊎_elim
        (λ z. rw z.0 zero_in_bounds)
        (λ z. rw z.4 at (ranged z.0 z.1 z.2 z.3))
        (from c q p x u)

    key_of : (x : Write) → key (stamp_of x) ≡ key (record { time = suc x.time; writer = x.client; sequence = x.sequence })
    key_of x = let t : x.time + 1 ≡ suc x.time = omega arith in ap (λ z. key (record { time = z; writer = x.client; sequence = x.sequence })) t

    rose : (ks₀ ls : List Call) → PL.Extends ks₀ ls → PL.Run Θ W g.n g.t faulty_server faulty_client ls → (c : ℕ)
        → ((run Z ks₀).clients c).client.reads ≤ ((run Z ls).clients c).client.reads
    rose ks₀ [] x r c = rw x (omega arith)
    rose ks₀ (k ∷ ls) (inl e) r c = rw e (omega arith)
    rose ks₀ (k ∷ ls) (inr x) r c = omega (arith, rose ks₀ ls x r.1 c, r.0.reads_up c)

    read_number : (ls : List Call) (k : Call) (c q : ℕ) (x : Found) → StopsRead Z c q x ls k → ((run Z ls).clients c).client.reads ≡ q
    read_number ls (to_server j f b out to) c q x u = absurd u
    read_number ls (to_client d f b lent result out to) c q x u = rw u.0 u.1
    read_number ls (begin_read d out to) c q x u = absurd u
    read_number ls (begin_write d v out to) c q x u = absurd u

    -- at one place: a call that begins a read completes none
    not_both : (ls : List Call) (k : Call) (c q d r : ℕ) (x : Found) → OpensRead Z c q ls k → StopsRead Z d r x ls k → ⊥
    not_both ls (to_server j f b out to) c q d r x u w = u
    not_both ls (to_client j f b lent result out to) c q d r x u w = u
    not_both ls (begin_read j out to) c q d r x u w = w
    not_both ls (begin_write j v out to) c q d r x u w = u

    after : (c q p p' : ℕ) (x : Found) → At (OpensRead Z c q) ks p → At (StopsRead Z c q x) ks p' → p < p'
    after c q p p' x u w = go (three p p')
      where
        go : (p < p') ⊎ ((p ≡ p') ⊎ (p' < p)) → p < p'
        go (inl h) = h
        go (inr (inl e)) = let (ls, k, y, z) = at_both (OpensRead Z c q) (StopsRead Z c q x) ks p' (rw e at u) w in absurd (not_both ls k c q c q x y z)
        go (inr (inr h)) =
            let o = cut (OpensRead Z c q) ks p u in
            let e = cut (StopsRead Z c q x) o.before p' (o.earlier (StopsRead Z c q x) p' h w) in
            absurd (omega (
              arith,
              opens_read Z o.before o.call c q o.event,
              read_number e.before e.call c q x e.event,
              rose e.before o.before e.ext
                  (PP.run_before Θ W g.n g.t faulty_server faulty_client o.before ks o.ext (lawful_run Z G M ks a)) c,
            ))

    -- The facts of the row.
    pub known : Known Z ks
    known = record {
      read_once = read_once Z ks;
      read_after = after;
      read_from = from;
      agree = λ i j p p' x y u w ec eq. agreement Z G ks a i j p p' x y u w ec eq;
      write_begun_lem = write_begun_lem Z G ks a;
      read_begun_lem = read_begun_lem Z ks;
      wrote_accepted = λ c q p u.
          let (j, b, T, (x, p', w, ec, eq, et, ed)) = PP.write_accepted Θ W g.n g.t faulty_server faulty_client (fresh Z G M) G.faults ks
          (lawful_run Z G M ks a) c q (p, u) in
          (j, p', x, w, ec, eq);
      read_read = λ c q p x d r p' p'' y u o l w.
          let b = cut (OpensRead Z d r) ks p' o in
          key_not_older x.stamp y.stamp (read_ranged c q p x u) (read_ranged d r p'' y w)
          (PP.read_read Θ W g.n g.t faulty_server faulty_client (fresh Z G M) G.faults b.before ks b.ext (lawful_run Z G M ks a) c q
          (x.stamp, x.digests) d r (y.stamp, y.digests)
          (reader_honest Z ks a d r p' o) (read b.before c q p x (b.earlier (StopsRead Z c q x) p l u)) (opens_read Z b.before b.call d r b.event)
          (read ks d r p'' y w));
      write_read = λ c q p i e x d r p' p'' y u v ec eq o l w.
          let b = cut (OpensRead Z d r) ks p' o in
          let h : key (record { time = suc x.time; writer = x.client; sequence = x.sequence }) ≤ key y.stamp =
          PP.write_read Θ W g.n g.t faulty_server faulty_client (fresh Z G M) G.faults (Admissible Z) agree valid b.before ks b.ext
          (lawful_run Z G M ks a) a x.client x.sequence i (x.time, x.entry.digests) d r (y.stamp, y.digests)
          (reader_honest Z ks a d r p' o) (p, rw (ec, eq) (b.earlier (EndsWrite Z c q) p l u)) (accepted i e x v)
          (opens_read Z b.before b.call d r b.event) (read ks d r p'' y w) in
          key_not_older (stamp_of x) y.stamp (ranged i e x v) (read_ranged d r p'' y w) (omega (arith, h, key_of x));
      read_write = λ c q p x d r p' i e v y u o l w ec eq.
          let b = cut (OpensWrite Z d r v) ks p' o in
          let h : key x.stamp < key (record { time = suc y.time; writer = y.client; sequence = y.sequence }) =
          PP.read_write Θ W g.n g.t faulty_server faulty_client (fresh Z G M) G.faults (Admissible Z) agree valid b.before ks b.ext
          (lawful_run Z G M ks a) a c q (x.stamp, x.digests) i y.client y.sequence (y.time, y.entry.digests)
          (rw ec (writer_honest Z ks a d r p' v o)) (read b.before c q p x (b.earlier (StopsRead Z c q x) p l u))
          (rw (ec, eq) (opens_write Z b.before b.call d r v b.event)) (accepted i e y w) in
          key_older x.stamp (stamp_of y) (read_ranged c q p x u) (ranged i e y w) (omega (arith, h, key_of y));
      write_write = λ c q p i e x d r p' j e' v y u s ec eq o l w fc fq.
          let b = cut (OpensWrite Z d r v) ks p' o in
          let h : key (record { time = suc x.time; writer = x.client; sequence = x.sequence })
          < key (record { time = suc y.time; writer = y.client; sequence = y.sequence }) =
          PP.write_write Θ W g.n g.t faulty_server faulty_client (fresh Z G M) G.faults (Admissible Z) agree valid b.before ks b.ext
          (lawful_run Z G M ks a) a x.client x.sequence i (x.time, x.entry.digests) j y.client y.sequence (y.time, y.entry.digests)
          (rw fc (writer_honest Z ks a d r p' v o)) (p, rw (ec, eq) (b.earlier (EndsWrite Z c q) p l u)) (accepted i e x s)
          (rw (fc, fq) (opens_write Z b.before b.call d r v b.event)) (accepted j e' y w) in
          key_older (stamp_of x) (stamp_of y) (ranged i e x s) (ranged j e' y w) (omega (arith, h, key_of x, key_of y));
    }
