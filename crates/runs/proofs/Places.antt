-- Places in a run: what happens there, and the run as it was. Assumes nothing.
use Prim.Native.Nat.{ℕ, ◌<◌}
use native.Mathlib.Omega.{arith}
use mathlib.Core.Bool.{false}
use mathlib.Core.Path.{◌≡◌, refl, sym}
use mathlib.Core.Logic.{inl, inr, ⊎_elim}
use mathlib.Core.List.{List, [], ◌∷◌}
use lib.ListN.{length}
use Rattle.precedence.specs.Laws as PL
use Rattle.runs.specs.World.{Setup, Call, to_server, to_client, begin_read, begin_write, run}
use Rattle.runs.specs.Admissible.{Admissible}
use Rattle.runs.specs.Events.{Event, At, StopsRead, CompletesRead, OpensRead, OpensWrite}
use Rattle.client_rules.specs.Rows.{Found}

-- at one place of a run there is one call
pub at_low : (E : Event) (ks : List Call) (p : ℕ) → At E ks p → p < length ks
at_low E [] p u = absurd u
at_low E (k ∷ ks) p (inl u) = omega (arith, u.0)
at_low E (k ∷ ks) p (inr u) = omega (arith, at_low E ks p u)

-- what happens where something does that brings it along
pub at_map : (E F : Event) → ((ks : List Call) (k : Call) → E ks k → F ks k) → (ks : List Call) (p : ℕ) → At E ks p → At F ks p
at_map E F f [] p u = absurd u
at_map E F f (k ∷ ks) p (inl u) = inl (u.0, f ks k u.1)
at_map E F f (k ∷ ks) p (inr u) = inr (at_map E F f ks p u)

-- a completed read was closed where its search stopped
pub stops : (Z : Setup) (ks : List Call) (c q p : ℕ) (x : Found) → At (CompletesRead Z c q x) ks p → At (StopsRead Z c q x) ks p
stops Z ks c q p x u = at_map (CompletesRead Z c q x) (StopsRead Z c q x) (λ ls k w. w.0) ks p u

pub at_both : (E F : Event) (ks : List Call) (p : ℕ) → At E ks p → At F ks p → (ls : List Call) × (k : Call) × E ls k × F ls k
at_both E F [] p u v = absurd u
at_both E F (k ∷ ks) p (inl u) (inl v) = (ks, k, u.1, v.1)
at_both E F (k ∷ ks) p (inl u) (inr v) = absurd (omega (arith, u.0, at_low F ks p v))
at_both E F (k ∷ ks) p (inr u) (inl v) = absurd (omega (arith, v.0, at_low E ks p u))
at_both E F (k ∷ ks) p (inr u) (inr v) = at_both E F ks p u v

ext_refl : (ks : List Call) → PL.Extends ks ks
ext_refl [] = refl
ext_refl (k ∷ ks) = inl refl

-- the run before the call at a place
pub record Cut (E : Event) (ks : List Call) (p : ℕ) : Type 1 where
  pub before : List Call
  pub call : Call
  pub ext : PL.Extends before ks
  pub place : length before ≡ p
  pub event : E before call
  pub earlier : (F : Event) (q : ℕ) → q < p → At F ks q → At F before q

pub cut : (E : Event) (ks : List Call) (p : ℕ) → At E ks p → Cut E ks p
cut E [] p u = absurd u
cut E (k ∷ ks) p (inl u) = record {
  before = ks;
  call = k;
  ext = inr (ext_refl ks);
  place = sym u.0;
  event = u.1;
  earlier = λ F q l w. ⊎_elim (λ z. absurd (omega (arith, l, u.0, z.0))) (λ z. z) w;
}
cut E (k ∷ ks) p (inr u) =
    let c = cut E ks p u in
    record {
      before = c.before;
      call = c.call;
      ext = inr c.ext;
      place = c.place;
      event = c.event;
      earlier = λ F q l w. ⊎_elim (λ z. absurd (omega (arith, l, at_low E ks p u, z.0))) (λ z. c.earlier F q l z) w;
    }

-- who opens is honest, and the number is new
pub opens_read : (Z : Setup) (ks : List Call) (k : Call) (d r : ℕ) → OpensRead Z d r ks k → ((run Z ks).clients d).client.reads < r
opens_read Z ks (to_server j from f out to) d r u = absurd u
opens_read Z ks (to_client c from f lent result out to) d r u = absurd u
opens_read Z ks (begin_read c out to) d r u = rw u.0 (omega (arith, u.1))
opens_read Z ks (begin_write c v out to) d r u = absurd u

pub opens_write : (Z : Setup) (ks : List Call) (k : Call) (d r : ℕ) (v : List ℕ) → OpensWrite Z d r v ks k → ((run Z ks).clients d).client.writes < r
opens_write Z ks (to_server j from f out to) d r v u = absurd u
opens_write Z ks (to_client c from f lent result out to) d r v u = absurd u
opens_write Z ks (begin_read c out to) d r v u = absurd u
opens_write Z ks (begin_write c w out to) d r v u = rw u.0 (omega (arith, u.1))

pub reader_honest : (Z : Setup) (ks : List Call) → Admissible Z ks → (d r p : ℕ) → At (OpensRead Z d r) ks p → Z.faulty_client d ≡ false
reader_honest Z [] a d r p u = absurd u
reader_honest Z (k ∷ ks) a d r p (inr u) = reader_honest Z ks a.1 d r p u
reader_honest Z (to_server j from f out to ∷ ks) a d r p (inl u) = absurd u.1
reader_honest Z (to_client c from f lent result out to ∷ ks) a d r p (inl u) = absurd u.1
reader_honest Z (begin_read c out to ∷ ks) a d r p (inl u) = rw u.1.0 a.0.1
reader_honest Z (begin_write c w out to ∷ ks) a d r p (inl u) = absurd u.1

pub writer_honest : (Z : Setup) (ks : List Call) → Admissible Z ks → (d r p : ℕ) (v : List ℕ) → At (OpensWrite Z d r v) ks p → Z.faulty_client d ≡ false
writer_honest Z [] a d r p v u = absurd u
writer_honest Z (k ∷ ks) a d r p v (inr u) = writer_honest Z ks a.1 d r p v u
writer_honest Z (to_server j from f out to ∷ ks) a d r p v (inl u) = absurd u.1
writer_honest Z (to_client c from f lent result out to ∷ ks) a d r p v (inl u) = absurd u.1
writer_honest Z (begin_read c out to ∷ ks) a d r p v (inl u) = absurd u.1
writer_honest Z (begin_write c w out to ∷ ks) a d r p v (inl u) = rw u.1.0 a.0.0.1
