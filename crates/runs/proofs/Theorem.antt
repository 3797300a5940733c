-- The whole-run theorem, for every digest function of 32 bytes and at SHA-256. Assumes nothing.
use Prim.Native.Nat.{ℕ}
use mathlib.Core.Logic.{inl, inr}
use mathlib.Core.List.{List, [], ◌∷◌}
use mathlib.Core.Path.{◌≡◌, ap, ◌∙◌}
use lib.ListN.{length}
use Rattle.sha256.specs.Hash.{digest_of}
use Rattle.sha256.proofs.Bytes.{length_digest}
use Rattle.client_rules.specs.Rows.{Found, row_view}
use Rattle.runs.specs.World.{Setup, Call, run, DigestSize}
use Rattle.runs.specs.Admissible.{Admissible}
use Rattle.runs.specs.Events.{At, StopsRead}
use Rattle.runs.specs.Demand.{Theorem, TheoremSha256, DisagreementShown}
use Rattle.runs.proofs.Known.{KnownValues, Rows}
use Rattle.runs.proofs.Ordering.{known}
use Rattle.runs.proofs.ReadOnce.{read_found, written_sized}
use Rattle.runs.proofs.Found.{rows_of}
use Rattle.runs.proofs.AcceptedFrom.{accepted_from}
use Rattle.runs.proofs.Written.{written_from}
use Rattle.runs.proofs.KeptRows.{rows_fit, rows_carried}
use Rattle.runs.proofs.Rows.{one_row}
use Rattle.runs.proofs.Values.{values, shown}
use Rattle.runs.proofs.Assumed.{Assumed, assumed}

module _ (Z : Setup) (G : Assumed Z) where
  -- what a read found stays as it was
  later : (ks : List Call) (k : Call) (x : Found) → Rows Z ks x → Rows Z (k ∷ ks) x
  later ks k x R = record {
    at = R.at;
    bytes = R.bytes;
    many = R.many;
    fit = R.fit;
    carried = λ j e i h. let w = R.carried j e i h in (w.0, inr w.1);
  }

  read_rows : (ks : List Call) → Admissible Z ks → (c q p : ℕ) (x : Found) → At (StopsRead Z c q x) ks p → Rows Z ks x
  read_rows [] a c q p x u = absurd u
  read_rows (k ∷ ks) a c q p x (inr u) = later ks k x (read_rows ks a.1 c q p x u)
  read_rows (k ∷ ks) a c q p x (inl u) =
      rows_of Z (k ∷ ks) (row_view Z.g ((run Z (k ∷ ks)).clients c).client ((run Z (k ∷ ks)).clients c).area)
      (rows_fit Z G ks k a c q x u.1) (rows_carried Z G ks k a c q x u.1) x (read_found Z ks k c q x u.1)

  known_values : (ks : List Call) → Admissible Z ks → KnownValues Z ks
  known_values ks a = record {
    accepted_from = accepted_from Z G ks a;
    written_from = written_from Z G ks a;
    written_sized = written_sized Z ks a;
    read_rows = read_rows ks a;
  }

pub theorem : Theorem
unfolding Theorem
theorem Z S D ks a =
    let G = assumed Z S D in
    let K = known Z G ks a in
    one_row Z ks K (values Z G ks K (known_values Z G ks a))

pub disagreement_shown : DisagreementShown
unfolding DisagreementShown
disagreement_shown Z S D ks a c q p x u =
    let G = assumed Z S D in
    shown Z G ks (known Z G ks a) (known_values Z G ks a) c q p x u

-- ---- at SHA-256

pub sha256_size : DigestSize digest_of
sha256_size m = length_digest m

pub theorem_sha256 : TheoremSha256
unfolding TheoremSha256 Theorem
theorem_sha256 Z S e ks a = theorem Z S (λ b. ap (λ h. length (h b)) e ∙ sha256_size b) ks a
