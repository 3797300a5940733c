-- Everybody is served in the end: the statement of specs/Finished.antt, and with the request's own hypothesis. Assumes nothing.
use Prim.Native.Nat.{ℕ}
use native.Mathlib.Decide.{ℕ_discrete}
use mathlib.Core.Path.{◌≡◌, refl, ap}
use mathlib.Core.Logic.{◌⊎◌, inl, inr, ⊎_elim}
use mathlib.Core.Option.{Option, none, some}
use mathlib.Core.List.{List, [], ◌∷◌}
use lib.ListN.{length}
use Rattle.quorum.proofs.Logic.{impossible}
use Rattle.frame.specs.declared.Party.{Party}
use Rattle.frame.specs.declared.Party.TheVariants as A
use Rattle.frame.specs.Chunks.{entry_at}
use Rattle.server_rules.specs.State.{present_entry}
use Rattle.client_rules.specs.declared.Phase.{Phase}
use Rattle.client_rules.specs.declared.Phase.TheVariants as F
use Rattle.runs.specs.Admissible.{Honest, Admissible}
use Rattle.runs.specs.Blocks.{Collision}
use Rattle.runs.specs.Events.{At}
use Rattle.runs.specs.World.{Setup, Call, to_server, to_client, begin_read, begin_write, run}
use Rattle.runs.proofs.Assumed.{Assumed, assumed}
use Rattle.runs.proofs.Pieces.{list-equal?}
use Rattle.service.proofs.Folds.{all_honest}
use Rattle.served.specs.Finished.{Final, Answered, Finished, Served, EverybodyServed, EverybodyServedToTheLetter, server_answer, client_answer}
use Rattle.served.proofs.Clients.{home}
use Rattle.served.proofs.ReaderState.{stamp_at, list_at}
use Rattle.served.proofs.Totality.{written_everywhere}
use Rattle.served.proofs.Presents.{one_present}
use Rattle.served.proofs.Writers.{not_asking, not_acking}
use Rattle.served.proofs.Readers.{not_reading}

-- ---- the theorem

module _ (Z : Setup) (G : Assumed Z) (ks : List Call) (adm : Admissible Z ks) (N : Finished Z ks) where
  -- the present value, as stamp and digest list
  same_present : (i j : ℕ) → Honest Z (A.Server i) → Honest Z (A.Server j)
      → ((stamp_at Z G ks i ≡ stamp_at Z G ks j) × (list_at Z G ks i ≡ list_at Z G ks j)) ⊎ Collision Z ks
  unfolding present_entry entry_at
  same_present i j hi hj = ⊎_elim (λ e. inl (ap (λ v. v.0) e, ap (λ v. v.1) e)) (λ z. inr z) (one_present Z G ks adm N i j hi hj)

  idle : (c : ℕ) → Honest Z (A.Client c) → ((home Z ks c).client.phase ≡ F.Idle) ⊎ Collision Z ks
  idle c hc = go (home Z ks c).client.phase refl
    where
      go : (p : Phase) → (home Z ks c).client.phase ≡ p → ((home Z ks c).client.phase ≡ F.Idle) ⊎ Collision Z ks
      go F.Idle e = inl e
      go F.Asking e = inr (not_asking Z G ks adm N c hc (λ i j hi hj. ⊎_elim (λ (e, l). inl (ap (λ x. x.time) e)) (λ z. inr z) (same_present i j hi hj)) e)
      go F.Acking e = inr (not_acking Z G ks adm N c hc (λ j hj. written_everywhere Z G ks adm N c hc e j hj) e)
      go F.Reading e = inr (not_reading Z G ks adm N c hc e same_present)

  all_idle_lem : Served Z ks ⊎ Collision Z ks
  all_idle_lem = all_honest (λ c. (home Z ks c).client.phase ≡ F.Idle) 8 Z.faulty_client idle

pub everybody_served : EverybodyServed
unfolding EverybodyServed
everybody_served Z S D ks adm N = all_idle_lem Z (assumed Z S D) ks adm N

-- ---- to the letter of the request

-- whether two parties, two frames are the same
party-equal? : (a b : Party) → (a ≡ b) ⊎ (a ≡ b → ⊥)
party-equal? (A.Server i) (A.Server j) = go (ℕ_discrete i j)
  where
    go : Dec (i ≡ j) → (A.Server i ≡ A.Server j) ⊎ (A.Server i ≡ A.Server j → ⊥)
    go (yes e) = inl (ap A.Server e)
    go (no n) = inr (λ e. n (cc e))
party-equal? (A.Client i) (A.Client j) = go (ℕ_discrete i j)
  where
    go : Dec (i ≡ j) → (A.Client i ≡ A.Client j) ⊎ (A.Client i ≡ A.Client j → ⊥)
    go (yes e) = inl (ap A.Client e)
    go (no n) = inr (λ e. n (cc e))
party-equal? (A.Server i) (A.Client j) = inr (λ e. impossible (cc e))
party-equal? (A.Client i) (A.Server j) = inr (λ e. impossible (cc e))

final? : (o : Option ℕ) → Final o ⊎ (Final o → ⊥)
final? none = inl tt
final? (some n) = go (ℕ_discrete n 10) (ℕ_discrete n 13)
  where
    go : Dec (n ≡ 10) → Dec (n ≡ 13) → Final (some n) ⊎ (Final (some n) → ⊥)
    go (yes e) d = inr (λ f. f.0 e)
    go (no x) (yes e) = inr (λ f. f.1 e)
    go (no x) (no y) = inl (x, y)

all? : {P Q R S : Type 0} → P ⊎ (P → ⊥) → Q ⊎ (Q → ⊥) → R ⊎ (R → ⊥) → S ⊎ (S → ⊥) → (P × Q × R × S) ⊎ (P × Q × R × S → ⊥)
all? (inl p) (inl q) (inl r) (inl s) = inl (p, q, r, s)
all? (inr n) q r s = inr (λ w. n w.0)
all? (inl p) (inr n) r s = inr (λ w. n w.1)
all? (inl p) (inl q) (inr n) s = inr (λ w. n w.2)
all? (inl p) (inl q) (inl r) (inr n) = inr (λ w. n w.3)

module _ (Z : Setup) (a b : Party) (f : List ℕ) where
  answered? : (ks : List Call) (k : Call) → Answered Z a b f ks k ⊎ (Answered Z a b f ks k → ⊥)
  answered? ks (to_server i from f' out to) =
      all? (party-equal? b (A.Server i)) (party-equal? a from) (list-equal? f f') (final? (server_answer Z (run Z ks) i from f' out to))
  answered? ks (to_client c from f' lent result out to) =
      all? (party-equal? b (A.Client c)) (party-equal? a from) (list-equal? f f')
      (final? (client_answer Z (run Z ks) c ((run Z ks).clients c).area from f' lent result out to))
  answered? ks (begin_read c out to) = inr (λ z. z)
  answered? ks (begin_write c v out to) = inr (λ z. z)

  -- some hand-over was answered so, or none was
  some_answered : (ks : List Call) → ((p : ℕ) × At (Answered Z a b f) ks p) ⊎ ((p : ℕ) → At (Answered Z a b f) ks p → ⊥)
  some_answered [] = inr (λ p u. u)
  some_answered (k ∷ ks) = ⊎_elim
      (λ u. inl (length ks, inl (refl, u)))
      (λ n. ⊎_elim (λ (p, u). inl (p, inr u)) (λ m. inr (λ p u. ⊎_elim (λ w. n w.1) (λ w. m p w) u)) (some_answered ks))
      (answered? ks k)

pub served_to_the_letter : EverybodyServedToTheLetter
unfolding EverybodyServedToTheLetter
served_to_the_letter Z S D ks adm L = all_idle_lem Z (assumed Z S D) ks adm
    (λ a b f ha hb u. ⊎_elim (λ w. inl w) (λ n. inr (L.no_more a b f ha hb u n)) (some_answered Z a b f ks))
